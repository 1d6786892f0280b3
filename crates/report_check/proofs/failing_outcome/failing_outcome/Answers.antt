use Rattle.std.proofs.Common.{◌≤◌, Ok, arith, below_more, length, subst}
use Rattle.std.proofs.lemmas.List.{take_all}
use Rattle.std.proofs.lemmas.Option.{slice_get_past}
use Rattle.job_text.specs.Outcomes.{times_named}
use Rattle.job_text.specs.PlainReport.{report_of}
use Rattle.report_check.specs.HeldOutcomes.{OutcomeHolds}
use Rattle.report_check.specs.Marks.{AreMarks}
use Rattle.report_check.proofs.Lowests.{all_from_below, found_in_row, row_holds}
use Rattle.report_check.proofs.OutcomeWalk.{no_outcomes}
use Rattle.report_check.proofs.failing_outcome.failing_outcome.Goals as goal

pub returns-in-Some-clause-outcomes : goal.returns-in-Some-clause-outcomes
returns-in-Some-clause-outcomes c =
    found_in_row (OutcomeHolds (report_of c.args.report.now)) c.loop-caller.caller c.in-Some.line c.in_ok-line.field-0
    c.loop-caller.invariant.below c.in_ok-line.ensures.outcomes c.in-Some.is

pub loop-caller-preserved : goal.loop-caller-preserved
loop-caller-preserved c = record {
  marks = c.in_ok-line.ensures.marks (λ i. Ok (c.in_default.is i));
  below = below_more _ _ c.loop-caller.invariant.below
      (row_holds (OutcomeHolds (report_of c.args.report.now) c.loop-caller.caller) c.in_ok-line.field-0 c.in_ok-line.ensures.outcomes
      c.in_default.not-Some);
}

pub returns-clause-outcomes : goal.returns-clause-outcomes
returns-clause-outcomes c =
    let r = report_of c.args.report.now in
    all_from_below (OutcomeHolds r) c.loop-caller.caller c.loop-caller.invariant.below
    (λ u n high. no_outcomes r u (slice_get_past r.outcomes u (omega arith)) n)

pub returns-clause-marks : goal.returns-clause-marks
returns-clause-marks c _ =
    let os = c.args.report.now.outcomes in
    let past : length os ≤ c.loop-caller.caller = omega arith in
    subst (λ xs. AreMarks c.args.report.now.histories (times_named xs) c.loop-caller.marks) (take_all c.loop-caller.caller os past)
    c.loop-caller.invariant.marks
