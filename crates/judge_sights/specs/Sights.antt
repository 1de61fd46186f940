-- Rule 11 for one byte of a load, from the decoded arrays, the record's initial bytes and a table of places.
use Rattle.std.specs.Prelude.{ℕ, ◌+◌, ◌-◌, Bool, not, cond, ◌&&◌, ◌||◌, List, get_or, take, drop, eqb, leb, ltb}
use Rattle.base.specs.Below.{any_below}
use Rattle.base.specs.Fold.{fold}
use Rattle.model.specs.Execution.{is_load, is_store, R, LV, RV, number_of}
use Rattle.model.specs.Rules.{accesses}
use Rattle.record_decoded.specs.declared.types.Instructions.{Instructions}
use Rattle.record_decoded.specs.declared.types.Execution.{Execution}
use Rattle.record_decoded.specs.Decoded.{data_of, initial_of, instruction_at}
use Rattle.relation_places.specs.Places.{placed}
use Rattle.judge_sights.specs.declared.Latest.{Latest}

module _ (is : Instructions) where
  -- byte k of what an instruction saw, and of what it wrote
  unfoldable pub seen_byte : ℕ → ℕ → ℕ
  seen_byte i k = get_or (instruction_at is i).seen k 0

  unfoldable pub wrote_byte : ℕ → ℕ → ℕ
  wrote_byte i k = get_or (instruction_at is i).wrote k 0

  -- byte k of an instruction's size from a place of its data bytes on
  unfoldable pub data_byte : ℕ → ℕ → ℕ → ℕ
  data_byte i from k = get_or (take (get_or is.sizes i 0) (drop from (data_of is.bytes i))) k 0

  -- instruction w is a store to the byte at an address
  unfoldable pub writes_to : ℕ → ℕ → Bool
  writes_to address w = is_store (instruction_at is w).kind && accesses (instruction_at is w) address

  -- instruction w is of the load's processor
  unfoldable pub same_processor : ℕ → ℕ → Bool
  same_processor load w = eqb (instruction_at is w).processor (instruction_at is load).processor

  -- the numbers of a load's R, of a store's LV, and of a store's RV to the load's processor
  unfoldable pub read_no : ℕ → ℕ
  read_no load = number_of (instruction_at is load) R

  unfoldable pub local_no : ℕ → ℕ
  local_no w = number_of (instruction_at is w) LV

  unfoldable pub remote_no : ℕ → ℕ → ℕ
  remote_no load w = number_of (instruction_at is w) (RV (instruction_at is load).processor)

  -- store w may give the load its byte: a local load takes none but its own processor's
  unfoldable pub may_give : ℕ → ℕ → Bool → ℕ → Bool
  may_give load address local w = writes_to address w && (not local || same_processor load w)

  -- the operation that makes store w visible to the load
  unfoldable pub visible_by : ℕ → Bool → ℕ → ℕ
  visible_by load local w = cond local (local_no w) (remote_no load w)

module _ (is : Instructions) (places : List ℕ) (load address : ℕ) where
  -- store w makes the load local: it is its own processor's, LV before R before RV
  unfoldable pub makes_local : ℕ → Bool
  makes_local w =
      writes_to is address w
      && (same_processor is load w
      && (ltb (placed places (local_no is w)) (placed places (read_no is load))
      && ltb (placed places (read_no is load)) (placed places (remote_no is load w))))

  unfoldable pub local_by : Bool
  local_by = any_below is.count makes_local

  -- the operation at `place` stands before R, and not before `next`
  unfoldable pub later_by : ℕ → ℕ → Bool
  later_by place next = ltb place (placed places (read_no is load)) && leb next place

  -- the latest before R, one store more
  unfoldable pub latest_with : Bool → ℕ → Latest → Latest
  latest_with local w latest =
      cond (may_give is load address local w && later_by (placed places (visible_by is load local w)) latest.next)
      (record { next = placed places (visible_by is load local w) + 1; value = wrote_byte is w (address - (instruction_at is w).address) })
      latest

  -- the byte of the latest before R of all stores
  unfoldable pub latest_by : Bool → ℕ → ℕ
  latest_by local initial = (fold is.count (latest_with local) (record { next = 0; value = initial })).value

  -- the byte that the load sees at the address, of which `initial` is the initial byte
  unfoldable pub read_by : ℕ → ℕ
  read_by initial = latest_by local_by initial

module _ (bytes : List ℕ) (x : Execution) (places : List ℕ) (load : ℕ) where
  -- the byte that the load sees at an address
  unfoldable pub read_at : ℕ → ℕ
  read_at address = read_by x.instructions places load address (initial_of bytes x.lines.count address)

  -- the load stands, and its byte k is another
  unfoldable pub sight_broken : ℕ → Bool
  sight_broken k =
      ltb (placed places (read_no x.instructions load)) 255
      && not (eqb (read_at ((instruction_at x.instructions load).address + k)) (seen_byte x.instructions load k))

  -- some byte is another
  unfoldable pub load_broken : Bool
  load_broken =
      is_load (instruction_at x.instructions load).kind
      && any_below (instruction_at x.instructions load).size sight_broken
