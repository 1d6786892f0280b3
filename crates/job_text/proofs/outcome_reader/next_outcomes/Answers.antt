use Rattle.std.proofs.Common.{List, length, ap, sym, subst, arith}
use Rattle.std.proofs.lemmas.List.{length_push}
use Rattle.job_text.specs.declared.outcome.Outcome.{Outcome}
use Rattle.job_text.specs.TextParts.{rows_from, AllFrom}
use Rattle.job_text.specs.Readings.{Reads, Refuses}
use Rattle.job_text.specs.ReportRanges.{IsOutcomeAt}
use Rattle.job_text.specs.ReportRows.{AllOf}
use Rattle.job_text.proofs.ReadLines.{at_exit}
use Rattle.job_text.proofs.ListParts.{each_item, each_refuses}
use Rattle.job_text.proofs.HistoryParts.{outcome_rows, outcome_once, some_outcome}
use Rattle.job_text.proofs.outcome_reader.next_outcomes.Goals as goal

pub returns-in_err-outcome : goal.returns-in_err-outcome
returns-in_err-outcome c =
    let u = c.args.units in
    let n = c.args.callers in
    let m = c.args.count in
    at_exit c.from_residual.result c.in_err-outcome.field-0.0 _
    (Refuses (AllOf (IsOutcomeAt u n m) m) (rows_from (outcome_rows u n) 0) c.args.lines.now)
    c.from_residual.ensures.1
    (each_refuses (IsOutcomeAt u n m) (outcome_rows u n) (outcome_once u n m) m (some_outcome u n m m) c.args.lines.now c.loop-place.lines
    c.loop-place.outcomes c.loop-place.place _ c.loop-place.invariant.0 c.loop-place.invariant.1 c.loop-place-test.true
    c.in_err-outcome.ensures)

pub loop-place-preserved : goal.loop-place-preserved
loop-place-preserved c =
    let u = c.args.units in
    let n = c.args.callers in
    let m = c.args.count in
    let whole = each_item (IsOutcomeAt u n m) (outcome_rows u n) (outcome_once u n m) c.args.lines.now c.loop-place.lines
    c.next_outcome.new.lines c.loop-place.outcomes c.loop-place.place c.in_ok-outcome.outcome c.loop-place.invariant.0
    c.loop-place.invariant.1 c.in_ok-outcome.ensures in (
      subst (λ (xs : List Outcome). Reads (AllFrom (IsOutcomeAt u n m) 0) (rows_from (outcome_rows u n) 0) c.args.lines.now
          c.next_outcome.new.lines xs) (sym c.in_ok-push.ensures.ok) whole,
      omega (arith, ap length c.in_ok-push.ensures.ok, length_push c.loop-place.outcomes c.in_ok-outcome.outcome, c.loop-place.invariant.1),
    )
