-- The answers of the calls that compare two records, as the model's.
use Rattle.std.specs.Prelude.{Result, Ok, Err}
use Rattle.std.specs.declared.cmp.Ordering.{Ordering}
use Rattle.std.specs.declared.cmp.Ordering.TheVariants.{Less, Equal, Greater}
use Rattle.model.specs.Calls as calls
use Rattle.model.specs.Renumbering as model
use Rattle.record_decoded.specs.declared.question.Question.{Question}
use Rattle.record_decoded.specs.Refusals.{question_number}
use Rattle.record_compare.specs.declared.HandedBack.{HandedBack}
use Rattle.record_compare.specs.declared.HandedBack.TheVariants.{Left, Right, Empty}

abbrev pub ordering_meant : Ordering → model.Comparison
ordering_meant Equal = model.equal
ordering_meant Less = model.left_first
ordering_meant Greater = model.right_first

abbrev pub compared_meant : Result Ordering Question → calls.Answer model.Comparison
compared_meant (Ok r) = calls.says (ordering_meant r)
compared_meant (Err q) = calls.refuses (question_number q)

abbrev pub handed_meant : HandedBack → model.HandedBack
handed_meant Left = model.left_record
handed_meant Right = model.right_record
handed_meant Empty = model.empty_part
