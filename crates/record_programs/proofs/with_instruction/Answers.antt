-- The entry's bytes go to the next place of each array: one instruction more.
use native.Mathlib.Omega.{arith}
use mathlib.Core.Path.{◌≡◌, ap, ◌∙◌}
use Prim.Native.Nat.{ℕ, ◌+◌, ◌*◌}
use lib.ListN.{length, get_or, drop}
use lib.Seq.{paste}
use Rattle.std.proofs.Common.{rules}
use Rattle.model.specs.Execution.{Kind, kind_of, roles}
use Rattle.model.specs.Questions.{more_length}
use Rattle.record_decoded.specs.Kinds.{meant}
use Rattle.record_programs.proofs.InstructionLaws.{Sized, few_roles, instruction_more}
use Rattle.record_programs.proofs.with_instruction.Goals as goal

pub overflow_add-more-2 : goal.overflow_add-more-2
overflow_add-more-2 c =
    let a = c.args in
    let n = c.operation_count.ensures in
    omega (arith, few_roles a.processors (meant c.kind_of-kind.result) (omega arith))

pub returns : goal.returns
returns c =
    let a = c.args in
    let sized : Sized a.x = record {
      processors = search rules;
      kinds = search rules;
      addresses = search rules;
      sizes = search rules;
      firsts = search rules;
      bytes = search rules;
    } in
    let n : a.x.operations + c.operation_count.result ≡ a.x.operations + length (roles a.processors (kind_of (get_or a.entry.now 0 0))) =
    ap (λ (m : ℕ). a.x.operations + m) (c.operation_count.ensures ∙ ap (λ (k : Kind). length (roles a.processors k)) c.kind_of-kind.ensures) in
    let kind = c.kind_of-kind.ensures in
    let more = c.more_length-data.ensures.0 in
    instruction_more a.processors a.x a.entry.now a.p (a.x.operations + c.operation_count.result) c.copy_bytes.new.to sized
    (omega arith) c.requires.1 c.requires.4 (c.copy_bytes.ensures ∙ ap (λ (m : ℕ). paste a.x.bytes (16 * a.x.count) (drop 3 a.entry.now) (8 + m)) (more ∙ ap (λ (k : Kind). more_length k (get_or a.entry.now 2 0)) kind)) (omega arith) (omega arith) n
