-- The search's outcome as the model's, and what steps already made add to an outcome.
use Rattle.std.specs.Prelude.{ℕ, ◌+◌, Bool, true, false, cond, List}
use Rattle.model.specs.Search as model
use Rattle.search_resume.specs.declared.steps.Verdict.{Verdict}
use Rattle.search_resume.specs.declared.steps.Verdict.TheVariants.{Unfinished, Allowed, Forbidden}
use Rattle.search_resume.specs.declared.steps.Outcome.{Outcome}
use Rattle.record_decoded.specs.Positions.{position_of}

abbrev pub verdict_meant : Verdict → model.Verdict
verdict_meant Unfinished = model.unfinished
verdict_meant Allowed = model.allowed
verdict_meant Forbidden = model.forbidden

abbrev pub outcome_of : Outcome → model.Outcome
outcome_of o = record { verdict = verdict_meant o.verdict; steps = o.steps; position = position_of o.position }

abbrev pub is_forbidden : model.Verdict → Bool
is_forbidden model.allowed = false
is_forbidden model.forbidden = true
is_forbidden model.unfinished = false

-- an outcome after `made` steps from a position: 'forbidden' leaves the position that was given
unfoldable pub onward : ℕ → List ℕ → model.Outcome → model.Outcome
onward made given o = record {
  verdict = o.verdict;
  steps = made + o.steps;
  position = cond (is_forbidden o.verdict) given o.position;
}
