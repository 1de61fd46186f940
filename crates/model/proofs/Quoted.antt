-- The claims about the definitions hold; that about a record with no instruction is in `Empty`.
use Rattle.model.specs.Rules.{rules, consistent}
use Rattle.model.specs.Claims.{FullIsLegal, PrefixIsConsistent, PrefixesAre, TableIsRules}
use Rattle.model.proofs.Accepted.{read_found}
use Rattle.model.proofs.Consistent.{keeps_prefix}
use Rattle.model.proofs.Legal.{legal_consistent, consistent_ascend, consistent_are}
use Rattle.model.proofs.ProgramOrder.{marks_rule2, marks_rule3, marks_rule4}

pub full_is_legal : FullIsLegal
full_is_legal bytes e h order o = let (rest, f) = read_found bytes e h in legal_consistent bytes e rest f order o

pub prefix_is_consistent : PrefixIsConsistent
unfolding consistent
prefix_is_consistent e xs ys h = keeps_prefix (rules e) xs ys h

pub prefixes_are_consistent : PrefixesAre
prefixes_are_consistent e = (consistent_ascend e, consistent_are e)

pub table_is_rules : TableIsRules
table_is_rules earlier later = (marks_rule2 earlier later, marks_rule3 earlier later, marks_rule4 earlier later)
