-- The reader refuses, or the table is made of the execution that it read.
use mathlib.Core.Path.{◌≡◌, ◌∙◌}
use Rattle.std.proofs.Common.{rules}
use Rattle.model.specs.Calls.{says, refuses, read_all}
use Rattle.model.proofs.Accepted.{read_accepted}
use Rattle.record_decoded.specs.Decoded.{execution_of}
use Rattle.record_decoded.specs.Refusals.{question_number}
use Rattle.relation_links.proofs.CompiledLaws.{accepted_anyhow}
use Rattle.relation_chain_table.proofs.TableLaws.{call_refused, call_accepted}
use Rattle.relation_chain_table.proofs.chain_table.Goals as goal

pub returns-in_err-x : goal.returns-in_err-x
returns-in_err-x c =
    let told : read_all c.args.bytes.now ≡ refuses (question_number c.in_err-x.field-0.0) = search rules in
    let refused = call_refused c.args.bytes.now c.args.table.now _ told in
    search rules

pub write_chains-requires : goal.write_chains-requires
write_chains-requires c =
    let bytes = c.args.bytes.now in
    let x = c.in_ok-x.x in
    let told : read_all bytes ≡ says (execution_of bytes x) = search rules in
    accepted_anyhow bytes x (read_accepted bytes (execution_of bytes x) told)

pub returns : goal.returns
returns c =
    let bytes = c.args.bytes.now in
    let told : read_all bytes ≡ says (execution_of bytes c.in_ok-x.x) = search rules in
    c.write_chains.ensures bytes ∙ call_accepted bytes c.args.table.now told
