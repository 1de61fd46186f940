-- By the remainder: a number of WB or WC has no domain, one of UC a domain below 4, and no other is that of an attribute.
use Rattle.record_decoded.proofs.Attributes.{wb_numbers, uc_numbers, wc_numbers, no_numbers}
use Rattle.record_decoded.proofs.kind.is_attribute.Goals as goal

pub returns-in-0 : goal.returns-in-0
returns-in-0 c = wb_numbers c.args.a c.in-0.is

pub returns-in-1 : goal.returns-in-1
returns-in-1 c = uc_numbers c.args.a c.in-1.is

pub returns-in-2 : goal.returns-in-2
returns-in-2 c = wc_numbers c.args.a c.in-2.is

pub returns-in_default : goal.returns-in_default
returns-in_default c = let r = c.in_default.in_default-own.rest in no_numbers c.args.a r.0.0.1 r.0.1 r.1
