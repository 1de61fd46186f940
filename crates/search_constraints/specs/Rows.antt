-- What the sets of operations hold, by the tables.
use Rattle.std.specs.Prelude.{ℕ, ◌+◌, ◌-◌, Bool, not, ◌&&◌, List, length, get_or, eqb, leb, ltb}
use Rattle.base.specs.Below.{any_below}
use Rattle.model.specs.Execution.{Kind, kind_row, kind_of, is_store, F, RV, remotes_at, roles, number_from}
use Rattle.record_decoded.specs.Kinds.{role_numbered}
use Rattle.relation_marks.specs.Marks.{shared_by, has_mark, atomic_mark, mark_at}
use Rattle.relation_links.specs.Linked.{linked_by}

-- The instruction is given by its kind and the number of its first operation.

-- a is one of the RVs of a store
unfoldable pub is_remote : Kind → ℕ → ℕ → ℕ → Bool
is_remote kind first processors a = any_below processors (λ q. eqb a (number_from first kind (RV q)))

-- an operation with a role is an RV of a release to WB, by the marks of its instruction, and a is one of the RVs
unfoldable pub partner_of : ℕ → ℕ → Kind → ℕ → ℕ → ℕ → Bool
partner_of marks role kind first processors a = not (ltb role 3) && (has_mark marks atomic_mark && is_remote kind first processors a)

-- Links to an operation with a role from those of an instruction of processor p, by the marks of the two

-- a is an RV of the instruction, a store, and linked
unfoldable pub remote_linked : ℕ → Kind → ℕ → ℕ → ℕ → ℕ → ℕ → Bool
remote_linked marks kind p first processors role a =
    any_below processors (λ q. eqb a (number_from first kind (RV q)) && linked_by marks p (RV q) (role_numbered role))

-- a is an operation of the instruction before the RVs, and linked
unfoldable pub local_linked : ℕ → Kind → ℕ → ℕ → ℕ → ℕ → Bool
local_linked marks kind p first role a =
    any_below (remotes_at kind) (λ place. linked_by marks p (get_or (kind_row kind).before_remotes place F) (role_numbered role) && eqb a (first + place))

-- a is an operation of the instruction, and linked
unfoldable pub linked_from : ℕ → Kind → ℕ → ℕ → ℕ → ℕ → ℕ → Bool
linked_from marks kind p first processors role a =
    leb first a && (ltb a (first + length (roles processors kind)) && linked_by marks p (get_or (roles processors kind) (a - first) F) (role_numbered role))

-- By the kinds, first operations, processors, addresses and sizes of the instructions

-- a is an operation of instruction v, and some rule links it to one of instruction w with a role
abbrev pub linked_of : ℕ → List ℕ → List ℕ → List ℕ → List (List ℕ) → ℕ → ℕ → ℕ → ℕ → Bool
linked_of every kinds firsts processors marks w role v a =
    linked_from (mark_at marks v w) (kind_of (get_or kinds v 0)) (get_or processors v 0) (get_or firsts v 0) every role a

-- instruction v is a store of w's processor to some of its bytes
abbrev pub own_store_by : List ℕ → List ℕ → List ℕ → List ℕ → ℕ → ℕ → Bool
own_store_by kinds processors addresses sizes w v =
    is_store (kind_of (get_or kinds v 0))
    && (eqb (get_or processors v 0) (get_or processors w 0) && ltb 0 (length (shared_by (get_or addresses v 0) (get_or sizes v 0) (get_or addresses w 0) (get_or sizes w 0))))
