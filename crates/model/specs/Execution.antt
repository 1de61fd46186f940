-- The execution that a record holds: processors, lines of memory, instructions and dependence pairs; instructions and their operations by number.
use Rattle.std.specs.Prelude.{ℕ, suc, ◌+◌, ◌*◌, ◌/◌, ◌%◌, Bool, true, false, not, cond, ◌&&◌, List, [], ◌∷◌, ◌++◌, map, length, get_or, eqb}
use Rattle.base.specs.Lists.{any, keep, for, count, below}

-- The kind of an instruction. Its number in the record is its place in this list.
pub data Kind : Type 0 where
  ld ld_acq st st_rel mf sem_acq sem_rel : Kind

abbrev pub kind_of : ℕ → Kind
kind_of k = get_or (ld ∷ ld_acq ∷ st ∷ st_rel ∷ mf ∷ sem_acq ∷ []) k sem_rel

-- the number of a kind; `kind_of` turns it back
abbrev pub kind_number : Kind → ℕ
kind_number ld = 0
kind_number ld_acq = 1
kind_number st = 2
kind_number st_rel = 3
kind_number mf = 4
kind_number sem_acq = 5
kind_number sem_rel = 6

-- What an operation is to its instruction. RV q is remote visibility to processor q.
pub data Role : Type 0 where
  R LV F : Role
  RV : ℕ → Role

-- Tests of a role
abbrev pub has_role_R : Role → Bool
has_role_R R = true
has_role_R LV = false
has_role_R F = false
has_role_R (RV q) = false

abbrev pub has_role_LV : Role → Bool
has_role_LV R = false
has_role_LV LV = true
has_role_LV F = false
has_role_LV (RV q) = false

abbrev pub has_role_F : Role → Bool
has_role_F R = false
has_role_F LV = false
has_role_F F = true
has_role_F (RV q) = false

-- RV to a processor that passes the test
abbrev pub has_role_RV : Role → (ℕ → Bool) → Bool
has_role_RV R p = false
has_role_RV LV p = false
has_role_RV F p = false
has_role_RV (RV q) p = p q

-- What a kind does: whether it is a load, a store, acquires, releases, is a fence; its row and column of the table of program-order rules; and the operations
-- that it gives before the RVs, which a store has.
pub record KindRow : Type 0 where
  pub reads : Bool
  pub writes : Bool
  pub acquires : Bool
  pub releases : Bool
  pub fences : Bool
  pub row : ℕ
  pub column : ℕ
  pub before_remotes : List Role

abbrev kind_does : Bool → Bool → Bool → Bool → Bool → ℕ → ℕ → List Role → KindRow
kind_does r w a l f i j os = record { reads = r; writes = w; acquires = a; releases = l; fences = f; row = i; column = j; before_remotes = os }

-- one row for each kind: load, store, acquires, releases, fence, row, column, operations before the RVs
abbrev pub kind_row : Kind → KindRow
kind_row ld = kind_does true false false false false 0 0 (R ∷ [])
kind_row ld_acq = kind_does true false true false false 1 1 (R ∷ [])
kind_row st = kind_does false true false false false 2 2 (LV ∷ [])
kind_row st_rel = kind_does false true false true false 3 3 (LV ∷ [])
kind_row mf = kind_does false false false false true 4 4 (F ∷ [])
kind_row sem_acq = kind_does true true true false false 1 2 (R ∷ LV ∷ [])
kind_row sem_rel = kind_does true true false true false 3 3 (R ∷ LV ∷ [])

abbrev pub is_load : Kind → Bool
is_load k = (kind_row k).reads

abbrev pub is_store : Kind → Bool
is_store k = (kind_row k).writes

abbrev pub is_acquire : Kind → Bool
is_acquire k = (kind_row k).acquires

abbrev pub is_release : Kind → Bool
is_release k = (kind_row k).releases

abbrev pub is_fence : Kind → Bool
is_fence k = (kind_row k).fences

-- a semaphore (document 02, P3): both a load and a store
abbrev pub is_semaphore : Kind → Bool
is_semaphore k = is_load k && is_store k

-- a store that is no semaphore
abbrev pub is_only_store : Kind → Bool
is_only_store k = is_store k && not (is_load k)

-- The attribute of a line. UC d is uncacheable memory of peripheral domain d.
pub data Attribute : Type 0 where
  WB WC : Attribute
  UC : ℕ → Attribute

-- its number in the record
abbrev pub attribute_number : Attribute → ℕ
attribute_number WB = 0
attribute_number (UC d) = 1 + 16 * d
attribute_number WC = 2

-- the attribute of a number: 0 is WB, 1 + 16 d is UC d, 2 and all others are WC
abbrev pub attribute_of : ℕ → Attribute
attribute_of a = cond (eqb a 0) WB (cond (eqb (a % 16) 1) (UC (a / 16)) WC)

-- the attributes that a record may have: domains are 0 to 3
unfoldable pub attributes : List Attribute
attributes = WB ∷ WC ∷ map UC (below 4)

abbrev pub is_WB : Attribute → Bool
is_WB WB = true
is_WB (UC d) = false
is_WB WC = false

-- UC, of any domain
abbrev pub is_UC : Attribute → Bool
is_UC WB = false
is_UC (UC d) = true
is_UC WC = false

-- UC of domain d
abbrev pub is_UC_of : ℕ → Attribute → Bool
is_UC_of d WB = false
is_UC_of d (UC c) = eqb d c
is_UC_of d WC = false

-- both are UC, of one domain
abbrev pub same_domain : Attribute → Attribute → Bool
same_domain WB b = false
same_domain (UC d) b = is_UC_of d b
same_domain WC b = false

-- Line k holds addresses 8k to 8k + 7.
pub record Line : Type 0 where
  pub attribute : Attribute
  pub initial : List ℕ

-- An instruction. `number` is its own number, `first` that of its first operation. `seen` is what a load saw and `wrote` what a store wrote, one byte for each
-- address; a load that is no store wrote nothing, a store that is no load saw nothing.
pub record Instruction : Type 0 where
  pub number : ℕ
  pub first : ℕ
  pub processor : ℕ
  pub kind : Kind
  pub address : ℕ
  pub size : ℕ
  pub seen : List ℕ
  pub wrote : List ℕ

pub record Execution : Type 0 where
  pub processors : ℕ
  pub lines : List Line
  pub instructions : List Instruction
  pub pairs : List (ℕ × ℕ)  -- dependences: the earlier instruction's number, the later one's

-- Operations

-- the operations that an instruction gives with P processors, in the order of their numbers: a load gives R; a store gives LV, then RV_0 to RV_(P-1); an mf gives F; a semaphore gives
-- R, LV, then RV_0 to RV_(P-1)
unfoldable pub roles : ℕ → Kind → List Role
roles p k = (kind_row k).before_remotes ++ cond (is_store k) (map RV (below p)) []

-- the number of operations of some instructions with P processors
unfoldable pub operation_count : ℕ → List Instruction → ℕ
operation_count p [] = 0
operation_count p (i ∷ is) = length (roles p i.kind) + operation_count p is

-- N, the number of operations
unfoldable pub operations : Execution → ℕ
operations e = operation_count e.processors e.instructions

-- how many operations a kind gives before the RVs: the place of RV_0
unfoldable pub remotes_at : Kind → ℕ
remotes_at k = length (kind_row k).before_remotes

-- the place of the first role that passes a test; 0 where none does
unfoldable pub place_among : (Role → Bool) → List Role → ℕ
place_among t [] = 0
place_among t (r ∷ rs) = cond (t r) 0 (cond (any t rs) (suc (place_among t rs)) 0)

-- the place of a role in a kind's list of roles
abbrev pub role_place : Kind → Role → ℕ
role_place k R = place_among has_role_R (kind_row k).before_remotes
role_place k LV = place_among has_role_LV (kind_row k).before_remotes
role_place k F = place_among has_role_F (kind_row k).before_remotes
role_place k (RV q) = remotes_at k + q

-- the number of an operation: that of its instruction's first operation plus the place of its role
abbrev pub number_from : ℕ → Kind → Role → ℕ
number_from first k r = first + role_place k r

-- the number of an instruction's operation by its role
abbrev pub number_of : Instruction → Role → ℕ
number_of i r = number_from i.first i.kind r

pub record Operation : Type 0 where
  pub number : ℕ
  pub instruction : Instruction
  pub role : Role

-- the operations of an instruction with P processors
unfoldable pub operations_of : ℕ → Instruction → List Operation
operations_of p i = map (λ r. record { number = number_of i r; instruction = i; role = r }) (roles p i.kind)

module _ (e : Execution) where
  -- all operations, by number
  unfoldable pub all_operations : List Operation
  all_operations = for e.instructions (operations_of e.processors)

  unfoldable pub loads : List Instruction
  loads = keep (λ i. is_load i.kind) e.instructions

  unfoldable pub stores : List Instruction
  stores = keep (λ i. is_store i.kind) e.instructions

  unfoldable pub semaphores : List Instruction
  semaphores = keep (λ i. is_semaphore i.kind) e.instructions

  unfoldable pub every_processor : List ℕ
  every_processor = below e.processors

-- Memory

abbrev pub no_line : Line
no_line = record { attribute = WC; initial = [] }

-- the line of an address
unfoldable pub line_at : Execution → ℕ → Line
line_at e a = get_or e.lines (a / 8) no_line

-- the lines of so many bytes from an address on, a multiple of their number: one line, or for 16 bytes two; none of no bytes
unfoldable pub lines_from : ℕ → ℕ → List ℕ
lines_from address size = count (address / 8) ((size + 7) / 8)

-- the attribute, with the domain, of the memory that an instruction accesses: that of its first line. (By question 27 it is that of either.)
unfoldable pub attribute_at : Execution → Instruction → Attribute
attribute_at e i = (line_at e i.address).attribute

-- the byte that an address holds at the start
unfoldable pub initial_byte : Execution → ℕ → ℕ
initial_byte e a = get_or (line_at e a).initial (a % 8) 0
