-- What a caller of a job leaves, once its lines are carried out.
use Rattle.std.specs.Prelude.{◌≡◌, Bool, false, List, ◌++◌, map, AllPairs, Vec, Ok, Err}
use Rattle.std.specs.declared.result.Result.{Result}
use Rattle.std.specs.List.{list_any}
use Rattle.heap_rule.specs.declared.rule.Opening.{Opening}
use Rattle.heap_rule.specs.declared.views.CallerKnown.{CallerKnown}
use Rattle.job_text.specs.declared.job.Line.{Line}
use Rattle.job_text.specs.declared.outcome.Outcome.{Outcome}
use Rattle.job_text.specs.AnsweredLines.{AnswersLines}
use Rattle.job_text.specs.Outcomes.{is_cut}
use Rattle.job_text.specs.Report.{Report}
use Rattle.job_worker.specs.Continuing.{Continues}
use Rattle.caller.specs.Continued.{opened_records}
use Rattle.job_worker.specs.Ending.{places_named, units_cut, place_answered}

-- Every report that continues what the caller has seen in the end finds its lines answered. The
-- outcomes name the entries of its receipts, one each and in their order, and the units in which it
-- was cut. After a cut there is none.
pub record HasWorked
    (o : Opening) (MayBeCut : Type 0) (q r : CallerKnown) (lines : List Line)
    (outcomes : List Outcome) : Type 0 where
  pub answers :
      (t : Report) → Continues o t r
      → AnswersLines t MayBeCut (opened_records o) q.caller lines outcomes
  pub receipts : places_named outcomes ≡ map place_answered r.part.receipts
  pub cuts : r.part.cuts ≡ q.part.cuts ++ units_cut outcomes
  pub stops : AllPairs (λ earlier later. is_cut earlier ≡ false) outcomes

-- the gate cut the caller in a line
abbrev pub was_cut : {A E : Type 0} → Result (Vec Outcome A) E → Bool
was_cut (Ok outcomes) = list_any is_cut outcomes.items
was_cut (Err e) = false

abbrev pub line_was_cut : {E : Type 0} → Result Outcome E → Bool
line_was_cut (Ok x) = is_cut x
line_was_cut (Err e) = false
