-- No mark; a rule that links from any operation; an RV, that no other rule links; the other rules.
use mathlib.Core.Path.{sym, ◌∙◌}
use lib.Bits.{and_mask}
use Rattle.std.proofs.Common.{rules}
use Rattle.record_decoded.specs.Kinds.{role_numbered}
use Rattle.relation_links.proofs.LinkedLaws.{linked_is, no_mark, others_from_remote}
use Rattle.relation_links.proofs.link.is_linked.Goals as goal

pub returns-then-links_from_any : goal.returns-then-links_from_any
returns-then-links_from_any c =
    let law = linked_is c.args.marks c.args.processor (role_numbered c.args.a) (role_numbered c.args.b) in
    search rules

pub returns-then-a-lt-ROLE_RV : goal.returns-then-a-lt-ROLE_RV
returns-then-a-lt-ROLE_RV c =
    let law = linked_is c.args.marks c.args.processor (role_numbered c.args.a) (role_numbered c.args.b) in
    search rules

pub returns-else-a-lt-ROLE_RV : goal.returns-else-a-lt-ROLE_RV
returns-else-a-lt-ROLE_RV c =
    let law = linked_is c.args.marks c.args.processor (role_numbered c.args.a) (role_numbered c.args.b) in
    let remote = others_from_remote c.args.marks c.args.processor c.args.a (role_numbered c.args.b) c.if-a-lt-ROLE_RV.false in
    search rules

pub returns-else-marks-ne0 : goal.returns-else-marks-ne0
returns-else-marks-ne0 c =
    let none = no_mark c.args.marks c.args.processor (role_numbered c.args.a) (role_numbered c.args.b) (sym (and_mask c.args.marks 7) ∙ c.if-marks-ne0.false) in
    search rules
