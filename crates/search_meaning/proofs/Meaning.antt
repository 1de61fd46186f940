-- The test on rows says whether the longer prefix is consistent.
use Prim.Native.Nat.{ℕ, ◌<◌}
use mathlib.Core.Path.{◌≡◌, refl, sym, ◌∙◌}
use mathlib.Core.Bool.{Bool, true, false, not, ◌&&◌, ◌||◌, and-false}
use mathlib.Core.List.{List}
use native.Mathlib.Omega.{arith}
use Rattle.base.specs.Lists.{any, member}
use Rattle.base.proofs.Bools.{split}
use Rattle.model.specs.Execution.{stores, operations}
use Rattle.model.specs.Rules.{linked, links_of, consistent}
use Rattle.model.specs.Accepted.{Accepted}
use Rattle.record_decoded.specs.Decoded.{execution_of}
use Rattle.relation_places.specs.Places.{Placed}
use Rattle.search_reduction.specs.Admits.{own_demands, remote_demands, bypass_demands, semaphore_demands, sights, unready, interrupts, lost, unseen, admits}
use Rattle.search_reduction.proofs.Reduction.{admits_more}
use Rattle.search_meaning.proofs.Tables.{Tables, TablesMean}
use Rattle.search_admit.specs.Rows.{words_after}
use Rattle.search_admit.specs.Fits.{due_of, fits_by, Standing, Tested}
use Rattle.search_sets.specs.Set.{holds}
use Rattle.search_meaning.proofs.Ready.{ready_is}
use Rattle.search_meaning.proofs.Demands.{refused_is}
use Rattle.search_meaning.proofs.Awaited.{awaited_refuse}
use Rattle.search_meaning.proofs.Sees.{reads_is}
use Rattle.search_meaning.proofs.Due.{due_is}

module _ {t : Tables} (h : TablesMean t) (accepted : Accepted (execution_of t.bytes t.execution)) where
  -- an operation that does not stand
  not_standing : (xs places : List ℕ) (lo hi x : ℕ) → consistent (execution_of t.bytes t.execution) xs ≡ true → Placed (operations (execution_of t.bytes t.execution)) xs places
      → Standing xs lo hi → x < operations (execution_of t.bytes t.execution) → member xs x ≡ false
      → (due_of t.rows xs lo hi x && (not (holds lo hi x) && fits_by t.rows places lo hi (words_after t.rows xs) x)) ≡ admits (execution_of t.bytes t.execution) x xs
  unfolding fits_by admits
  not_standing xs places lo hi x consists p standing low new =
      rw (
        due_is h accepted x low xs lo hi consists p.different standing new,
        standing x (omega (arith, accepted.operations_few)) ∙ new,
        ready_is h accepted.operations_few xs lo hi x low standing,
        awaited_refuse h accepted x low p new lo hi standing ∙ refused_is h accepted x low p new,
        reads_is h accepted x low xs p.different lo hi standing,
      )
      (sorted (any (unready (execution_of t.bytes t.execution) x xs) (links_of (execution_of t.bytes t.execution) (linked (execution_of t.bytes t.execution))))
      (any (interrupts (execution_of t.bytes t.execution) x xs) (stores (execution_of t.bytes t.execution)))
      (any (lost (execution_of t.bytes t.execution) x xs) (own_demands (execution_of t.bytes t.execution) x))
      (any (lost (execution_of t.bytes t.execution) x xs) (remote_demands (execution_of t.bytes t.execution) x))
      (any (lost (execution_of t.bytes t.execution) x xs) (bypass_demands (execution_of t.bytes t.execution) x))
      (any (lost (execution_of t.bytes t.execution) x xs) (semaphore_demands (execution_of t.bytes t.execution) x))
      (any (unseen (execution_of t.bytes t.execution) x xs) (sights (execution_of t.bytes t.execution) x)))
    where
      sorted : (a i o r b k u : Bool) → (not i && (not a && (not (o || r || b || k) && not u))) ≡ not (a || i || o || r || b || k || u)
      sorted true true o r b k u = refl
      sorted true false o r b k u = refl
      sorted false true o r b k u = refl
      sorted false false true r b k u = refl
      sorted false false false true b k u = refl
      sorted false false false false true k u = refl
      sorted false false false false false true u = refl
      sorted false false false false false false u = refl

  pub tested : Tested (consistent (execution_of t.bytes t.execution)) (operations (execution_of t.bytes t.execution)) t.rows
  unfolding fits_by
  tested = record {
    one_more = λ xs places lo hi x consists p standing low.
        split (member xs x)
        (λ m. rw (m, standing x (omega (arith, accepted.operations_few)) ∙ m) (and-false (due_of t.rows xs lo hi x)))
        (λ new. rw new (not_standing xs places lo hi x consists p standing low new ∙ sym (admits_more (execution_of t.bytes t.execution) accepted xs x consists new low)));
  }
