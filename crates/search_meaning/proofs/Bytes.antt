-- The bytes of instructions and lines, as bits of words.
use Prim.Native.Nat.{ℕ, ◌+◌, ◌*◌, ◌-◌, ◌/◌, ◌%◌, ◌≤◌, ◌<◌}
use native.Mathlib.Omega.{arith}
use mathlib.Core.Path.{◌≡◌, sym, ap, ap₂, ◌∙◌, subst}
use mathlib.Core.Bool.{Bool, true, false, cond, ◌&&◌}
use mathlib.Core.List.{List, [], Memᴰ}
use lib.ListN.{length, get_or, take, drop}
use lib.Seq.{get_or-take, get_or-drop}
use lib.Dec.{ltb}
use Rattle.base.specs.Bits.{bit}
use Rattle.search_sets.proofs.Bit.{differ_cancel, has_xor}
use Rattle.search_sets.proofs.Laws.{same_bits}
use Rattle.model.specs.Execution as model
use Rattle.model.specs.Execution.{is_load, is_store, Instruction, initial_byte}
use Rattle.model.specs.Questions.{initial_place, seen_of, written_from, wrote_of}
use Rattle.model.specs.Rules.{accesses, byte_seen, byte_written}
use Rattle.model.specs.Accepted.{Accepted, Sound}
use Rattle.model.proofs.Accesses.{Within, within}
use Rattle.record_decoded.specs.declared.types.Execution.{Execution}
use Rattle.record_decoded.specs.Decoded.{data_of, initial_of, instruction_at, execution_of}
use Rattle.record_decoded.proofs.InitialBytes.{initial_is}
use Rattle.search_admit.specs.Rows.{covers, relative, data_bit, Bytes}
use Rattle.model.proofs.Ownership.{each_in}

-- bytes with the same eight bits are equal
pub same_byte : (a b : ℕ) → a < 256 → b < 256 → ((k : ℕ) → k < 8 → bit a k ≡ bit b k) → a ≡ b
same_byte a b h l f = same_bits 8 a b h l f

-- bits that are the same relative to one byte are the same
pub same_relative : (a b c k : ℕ) → bit (relative a c) k ≡ bit (relative b c) k → bit a k ≡ bit b k
same_relative a b c k h = differ_cancel (bit a k) (bit b k) (bit c k) (sym (has_xor a c k) ∙ h ∙ has_xor b c k)

module _ (bytes : List ℕ) (x : Execution) (accepted : Accepted (execution_of bytes x)) where
  abbrev e : model.Execution
  e = execution_of bytes x

  abbrev instruction : ℕ → Instruction
  instruction i = instruction_at x.instructions i

  pub accesses_within : (w a : ℕ) → Memᴰ (instruction w) e.instructions → accesses (instruction w) a ≡ true → Within (length e.lines) (instruction w) a
  accesses_within w a m h = within (each_in (Sound e.processors (length e.lines)) accepted.sound m) a h

  -- bit i of the line of an address, which is h lines behind the first
  pub covers_is : (w a h i : ℕ) → a / 8 ≡ (instruction w).address / 8 + h → i / 8 ≡ a % 8 → covers x w (64 * h + i) ≡ accesses (instruction w) a
  unfolding covers instruction_at
  covers_is w a h i line at = ap (accesses (instruction w)) (omega arith)

  -- the byte of an address among an instruction's data from a place on
  byte_at : (w a from : ℕ) → Within (length e.lines) (instruction w) a → from + (instruction w).size ≤ 16
      → get_or (take (instruction w).size (drop from (data_of x.instructions.bytes w))) (a - (instruction w).address) 0
      ≡ get_or x.instructions.bytes (16 * w + from + (a - (instruction w).address)) 0
  unfolding data_of
  byte_at w a from h few =
      let j = a - (instruction w).address in
      let place : 16 * w + (from + j) ≡ 16 * w + from + j = omega arith in
      get_or-take (instruction w).size (drop from (take 16 (drop (16 * w) x.instructions.bytes))) j 0 (omega (arith, h.from, h.to))
      ∙ get_or-drop from (take 16 (drop (16 * w) x.instructions.bytes)) j 0
      ∙ get_or-take 16 (drop (16 * w) x.instructions.bytes) (from + j) 0 (omega (arith, h.from, h.to))
      ∙ get_or-drop (16 * w) x.instructions.bytes (from + j) 0
      ∙ ap (λ (n : ℕ). get_or x.instructions.bytes n 0) place

  -- what an instruction saw and what it wrote at an address
  seen_at : (w a : ℕ) → Within (length e.lines) (instruction w) a → is_load (instruction w).kind ≡ true
      → byte_seen (instruction w) a ≡ get_or x.instructions.bytes (16 * w + 0 + (a - (instruction w).address)) 0
  unfolding instruction_at seen_of
  seen_at w a h loads =
      ap (λ (u : Bool). get_or (cond u (take (instruction w).size (data_of x.instructions.bytes w)) []) (a - (instruction w).address) 0) loads ∙ byte_at w a 0 h (omega (arith, h.fits.few))

  wrote_at : (w a : ℕ) → Within (length e.lines) (instruction w) a → is_store (instruction w).kind ≡ true
      → byte_written (instruction w) a ≡ get_or x.instructions.bytes (16 * w + written_from (instruction w).kind + (a - (instruction w).address)) 0
  unfolding instruction_at wrote_of
  wrote_at w a h writes =
      ap (λ (u : Bool). get_or (cond u (take (instruction w).size (drop (written_from (instruction w).kind) (data_of x.instructions.bytes w))) []) (a - (instruction w).address) 0) writes
      ∙ byte_at w a (written_from (instruction w).kind) h h.fits.few

  data_is : (w a g i k from v : ℕ) → v ≡ get_or x.instructions.bytes (16 * w + from + (a - (instruction w).address)) 0
      → Within (length e.lines) (instruction w) a → accesses (instruction w) a ≡ true → a / 8 ≡ (instruction w).address / 8 + g → i / 8 ≡ a % 8 → i % 8 ≡ k
      → data_bit bytes x w from (64 * g + i) ≡ bit (relative v (initial_byte e a)) k
  unfolding data_bit instruction_at
  data_is w a g i k from v is h there line at bits =
      ap (λ (b : Bool). b && bit (relative (get_or x.instructions.bytes (16 * w + from + ((64 * g + i) / 8 - (instruction w).address % 8)) 0) (initial_of bytes x.lines.count (8 * ((instruction w).address / 8) + (64 * g + i) / 8))) ((64 * g + i) % 8))
      (covers_is w a g i line at ∙ there)
      ∙ ap₂ (λ (j m : ℕ). bit (relative (get_or x.instructions.bytes (16 * w + from + j) 0) (initial_of bytes x.lines.count (8 * ((instruction w).address / 8) + (64 * g + i) / 8))) m) (omega (arith, line, h.from)) (let z : (64 * g + i) % 8 ≡ k = omega arith in z)
      ∙ ap₂ (λ (b c : ℕ). bit (relative b c) k) (sym is) (ap (initial_of bytes x.lines.count) (omega (arith, line)) ∙ sym (initial_is bytes x a))

  -- a bit of it, in the line
  module _ (w a g i k : ℕ) (h : Within (length e.lines) (instruction w) a) (there : accesses (instruction w) a ≡ true) (line : a / 8 ≡ (instruction w).address / 8 + g) (at : i / 8 ≡ a % 8) (bits : i % 8 ≡ k) where
    pub seen_bit_is : is_load (instruction w).kind ≡ true → data_bit bytes x w 0 (64 * g + i) ≡ bit (relative (byte_seen (instruction w) a) (initial_byte e a)) k
    seen_bit_is loads = data_is w a g i k 0 (byte_seen (instruction w) a) (seen_at w a h loads) h there line at bits

    pub wrote_bit_is : is_store (instruction w).kind ≡ true
        → data_bit bytes x w (written_from (instruction w).kind) (64 * g + i) ≡ bit (relative (byte_written (instruction w) a) (initial_byte e a)) k
    wrote_bit_is writes = data_is w a g i k (written_from (instruction w).kind) (byte_written (instruction w) a) (wrote_at w a h writes) h there line at bits

  pub seen_small : Bytes x.instructions.bytes → (w a : ℕ) → Within (length e.lines) (instruction w) a → is_load (instruction w).kind ≡ true → byte_seen (instruction w) a < 256
  seen_small small w a h loads = subst (λ (b : ℕ). b < 256) (sym (seen_at w a h loads)) (small (16 * w + 0 + (a - (instruction w).address)))

  pub wrote_small : Bytes x.instructions.bytes → (w a : ℕ) → Within (length e.lines) (instruction w) a → is_store (instruction w).kind ≡ true → byte_written (instruction w) a < 256
  wrote_small small w a h writes = subst (λ (b : ℕ). b < 256) (sym (wrote_at w a h writes)) (small (16 * w + written_from (instruction w).kind + (a - (instruction w).address)))

  pub initial_small : Bytes bytes → (a : ℕ) → initial_byte e a < 256
  unfolding initial_of
  initial_small small a = subst (λ (v : ℕ). v < 256) (sym (initial_is bytes x a)) (by (ltb (a / 8) x.lines.count))
    where
      by : (there : Bool) → cond there (get_or bytes (initial_place a) 0) 0 < 256
      by true = small (initial_place a)
      by false = omega arith
