-- What std's comparison answers.
use Prim.Native.Nat.{ℕ}
use mathlib.Core.Path.{sym, subst}
use Rattle.std.specs.declared.cmp.Ordering.{Ordering}
use Rattle.record_form.specs.Lexical.{LexOrdered}
use Rattle.record_form.proofs.LexLaws.{slice_ordered}
use Rattle.record_form.proofs.lex.lex_order.Goals as goal

pub returns : goal.returns
returns c = let a = c.args in subst (λ (r : Ordering). LexOrdered r a.a.now a.b.now) (sym c.cmp.ensures) (slice_ordered a.a.now a.b.now)
