use Rattle.std.proofs.Common.{List, length, ap, sym, subst, arith}
use Rattle.std.proofs.lemmas.List.{length_push}
use Rattle.job_text.specs.declared.outcome.Outcome.{Outcome}
use Rattle.job_text.specs.TextParts.{AllFrom}
use Rattle.job_text.specs.Readings.{Reads, Refuses}
use Rattle.job_text.specs.ReportText.{caller_lines, outcomes_lines}
use Rattle.job_text.specs.ReportRanges.{AreOutcomes}
use Rattle.job_text.specs.ReportRows.{AllOf}
use Rattle.job_text.proofs.ReadLines.{at_exit}
use Rattle.job_text.proofs.ListParts.{each_item, each_refuses}
use Rattle.job_text.proofs.HistoryParts.{caller_once, some_caller}
use Rattle.job_text.proofs.history_reader.next_callers.Goals as goal

pub returns-in_err-of_caller : goal.returns-in_err-of_caller
returns-in_err-of_caller c =
    let u = c.args.units in
    let n = c.args.callers in
    at_exit c.from_residual.result c.in_err-of_caller.field-0.0 _
    (Refuses (AllOf (λ caller os. AreOutcomes u n os) n) outcomes_lines c.args.lines.now) c.from_residual.ensures.1
    (each_refuses (λ caller os. AreOutcomes u n os) caller_lines (caller_once u n) n
    (some_caller u n n) c.args.lines.now c.loop-caller.lines
    c.loop-caller.outcomes c.loop-caller.caller _ c.loop-caller.invariant.0 c.loop-caller.invariant.1 c.loop-caller-test.true
    c.in_err-of_caller.ensures)

pub loop-caller-preserved : goal.loop-caller-preserved
loop-caller-preserved c =
    let u = c.args.units in
    let n = c.args.callers in
    let whole = each_item (λ caller os. AreOutcomes u n os) caller_lines (caller_once u n) c.args.lines.now c.loop-caller.lines
    c.next_caller.new.lines c.loop-caller.outcomes c.loop-caller.caller c.in_ok-of_caller.of_caller c.loop-caller.invariant.0
    c.loop-caller.invariant.1 c.in_ok-of_caller.ensures in (
      subst (λ (xs : List (List Outcome)). Reads (AllFrom (λ caller os. AreOutcomes u n os) 0) outcomes_lines c.args.lines.now
          c.next_caller.new.lines xs) (sym c.in_ok-push.ensures.ok) whole,
      omega (
        arith,
        ap length c.in_ok-push.ensures.ok,
        length_push c.loop-caller.outcomes c.in_ok-of_caller.of_caller,
        c.loop-caller.invariant.1,
      ),
    )
