-- What two instructions are to each other, as marks packed into one number.
use Rattle.std.specs.Prelude.{ℕ, ◌+◌, ◌/◌, ◌%◌, Bool, false, not, ◌&&◌, ◌||◌, List, [], ◌∷◌, get_or, eqb, leb, ltb}
use Rattle.base.specs.Lists.{any, keep, count, member}
use Rattle.base.specs.Bits.{packed}
use Rattle.model.specs.Execution.{Kind, Attribute, is_load, is_store, is_semaphore, is_release, is_WB, is_UC, same_domain, Instruction, Execution}
use Rattle.model.specs.ProgramOrder.{marks}
use Rattle.model.specs.Rules.{overlap, in_WB, in_UC, in_one_domain, conflict}

-- the marks of rules 2, 3 and 4, by the table of rule marks
unfoldable pub program_marks : Kind → Kind → ℕ
program_marks earlier later =
    packed (false ∷ member (marks earlier later) 2 ∷ member (marks earlier later) 3 ∷ member (marks earlier later) 4 ∷ [])

-- the bytes that two accesses share, each by its address and size
unfoldable pub shared_by : ℕ → ℕ → ℕ → ℕ → List ℕ
shared_by address size other extent = keep (λ a. leb other a && ltb a (other + extent)) (count address size)

-- a mark is among those added up
abbrev pub has_mark : ℕ → ℕ → Bool
has_mark marks mark = eqb (marks / mark % 2) 1

-- the marks of rules 9 and 10, of rule 14 and of rule 12
abbrev pub conflict_mark : ℕ
conflict_mark = 128

abbrev pub bypass_mark : ℕ
bypass_mark = 256

abbrev pub atomic_mark : ℕ
atomic_mark = 512

-- the mark of rule 16, and those that the first and that the second is a semaphore
abbrev pub semaphore_mark : ℕ
semaphore_mark = 1024

abbrev pub first_semaphore_mark : ℕ
first_semaphore_mark = 2048

abbrev pub second_semaphore_mark : ℕ
second_semaphore_mark = 4096

-- the first is an earlier instruction of the second's program
unfoldable pub earlier_of : Instruction → Instruction → Bool
earlier_of i j = eqb i.processor j.processor && ltb i.number j.number

-- the two are a given pair of instruction numbers
unfoldable pub given_pair : List (ℕ × ℕ) → ℕ → ℕ → Bool
given_pair pairs m n = any (λ p. eqb p.0 m && eqb p.1 n) pairs

-- The marks in the order of their bits: one instruction; rules 2, 3 and 4 by the kinds; a shared byte; a dependence pair; rule 13: UC memory of one domain;
-- rules 9 and 10: conflicting stores; rule 14: a UC store and an overlapping load of its processor; rule 12: one release to WB; rule 16: a semaphore and another
-- overlapping store; the first is a semaphore, and the second is one.
unfoldable pub marks_of : Execution → Instruction → Instruction → List Bool
marks_of e i j =
    eqb i.number j.number
    ∷ (earlier_of i j && member (marks i.kind j.kind) 2)
    ∷ (earlier_of i j && member (marks i.kind j.kind) 3)
    ∷ (earlier_of i j && member (marks i.kind j.kind) 4)
    ∷ (earlier_of i j && overlap i j)
    ∷ given_pair e.pairs i.number j.number
    ∷ (earlier_of i j && in_one_domain e i j)
    ∷ (is_store i.kind && is_store j.kind && conflict e i j)
    ∷ (is_store i.kind && is_load j.kind && (in_UC e i && (eqb i.processor j.processor && overlap i j)))
    ∷ (eqb i.number j.number && (is_store i.kind && (is_release i.kind && in_WB e i)))
    ∷ (is_semaphore i.kind && is_store j.kind && (not (eqb i.number j.number) && overlap i j))
    ∷ is_semaphore i.kind
    ∷ is_semaphore j.kind
    ∷ []

unfoldable pub marks_between : Execution → Instruction → Instruction → ℕ
marks_between e i j = packed (marks_of e i j)

-- the marks by what the two are to each other, their kinds and the attributes of their memory
unfoldable pub marks_by : Bool → Bool → Bool → Bool → Bool → Kind → Kind → Attribute → Attribute → ℕ
marks_by same own earlier overlaps given a b of_a of_b =
    packed (
    same
    ∷ (earlier && member (marks a b) 2)
    ∷ (earlier && member (marks a b) 3)
    ∷ (earlier && member (marks a b) 4)
    ∷ (earlier && overlaps)
    ∷ given
    ∷ (earlier && same_domain of_a of_b)
    ∷ (is_store a && is_store b && (not same && overlaps && ((is_WB of_a || is_UC of_a) && (is_WB of_b || is_UC of_b))))
    ∷ (is_store a && is_load b && (is_UC of_a && (own && overlaps)))
    ∷ (same && (is_store a && (is_release a && is_WB of_a)))
    ∷ (is_semaphore a && is_store b && (not same && overlaps))
    ∷ is_semaphore a
    ∷ is_semaphore b
    ∷ [])

-- the mark at row i and column j
abbrev pub mark_at : List (List ℕ) → ℕ → ℕ → ℕ
mark_at marks i j = get_or (get_or marks i []) j 0
