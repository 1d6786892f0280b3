use Rattle.std.proofs.Common.{ℕ, subst}
use Rattle.plain.specs.States.{states_of}
use Rattle.job_text.specs.Runs.{spelled_all}
use Rattle.job_text.specs.Readings.{Reads, Refuses}
use Rattle.job_text.specs.ReportText.{report_lines, histories_lines, outcomes_lines}
use Rattle.job_text.specs.ReportRanges.{IsReport, IsSpelled, AreCounted, AreOutcomes}
use Rattle.job_text.specs.ReportRows.{AllOf}
use Rattle.job_text.proofs.ReadLines.{at_exit}
use Rattle.job_text.proofs.ReportParts.{refuses_title, refuses_base, refuses_histories, refuses_callers, refuses_image, refuses_end, reads_report}
use Rattle.job_text.proofs.report_reader.next_report.Goals as goal

pub returns-in_err-layout : goal.returns-in_err-layout
returns-in_err-layout c =
    at_exit c.from_residual.result c.in_err-layout.field-0.0 _ (Refuses IsReport report_lines c.args.lines.now)
    c.from_residual.ensures.1
    (refuses_title c.args.lines.now _ c.in_err-layout.ensures)

pub returns-in_err-base_clock : goal.returns-in_err-base_clock
returns-in_err-base_clock c =
    at_exit c.from_residual-in_err-base_clock.result c.in_err-base_clock.field-0.0 _ (Refuses IsReport report_lines c.args.lines.now)
    c.from_residual-in_err-base_clock.ensures.1
    (refuses_base c.args.lines.now _ (c.in_ok-layout.layout, c.in_ok-layout.callers) c.in_ok-layout.ensures _
    c.in_err-base_clock.ensures)

pub returns-in_err-histories : goal.returns-in_err-histories
returns-in_err-histories c =
    at_exit c.from_residual-in_err-histories.result c.in_err-histories.field-0.0 _ (Refuses IsReport report_lines c.args.lines.now)
    c.from_residual-in_err-histories.ensures.1
    (refuses_histories c.args.lines.now _ (c.in_ok-layout.layout, c.in_ok-layout.callers) c.in_ok-layout.ensures _
    (c.in_ok-base_clock.base_clock, states_of c.in_ok-base_clock.base) c.in_ok-base_clock.ensures _
    (subst (λ (n : ℕ). Refuses (AllOf (λ unit h. AreCounted (IsSpelled c.in_ok-layout.callers) h) n) histories_lines
    c.next_contents.new.lines
    c.in_err-histories.field-0.0) c.units-units.ensures.value c.in_err-histories.ensures))

pub returns-in_err-outcomes : goal.returns-in_err-outcomes
returns-in_err-outcomes c =
    at_exit c.from_residual-in_err-outcomes.result c.in_err-outcomes.field-0.0 _ (Refuses IsReport report_lines c.args.lines.now)
    c.from_residual-in_err-outcomes.ensures.1
    (refuses_callers c.args.lines.now _ (c.in_ok-layout.layout, c.in_ok-layout.callers) c.in_ok-layout.ensures _
    (c.in_ok-base_clock.base_clock, states_of c.in_ok-base_clock.base) c.in_ok-base_clock.ensures _ c.in_ok-histories.histories
    c.in_ok-histories.runs c.in_ok-histories.ensures.0
    (subst (λ (n : ℕ). Reads (AllOf (λ unit h. AreCounted (IsSpelled c.in_ok-layout.callers) h) n) histories_lines
    c.next_contents.new.lines
    c.next_histories.new.lines (spelled_all c.in_ok-histories.histories c.in_ok-histories.runs)) c.units-units.ensures.value
    c.in_ok-histories.ensures.1) _
    (subst (λ (n : ℕ). Refuses (AllOf (λ caller os. AreOutcomes n c.in_ok-layout.callers os) c.in_ok-layout.callers) outcomes_lines
    c.next_histories.new.lines c.in_err-outcomes.field-0.0) c.units-units.ensures.value c.in_err-outcomes.ensures))

pub returns-in_err-image_clock : goal.returns-in_err-image_clock
returns-in_err-image_clock c =
    at_exit c.from_residual-in_err-image_clock.result c.in_err-image_clock.field-0.0 _ (Refuses IsReport report_lines c.args.lines.now)
    c.from_residual-in_err-image_clock.ensures.1
    (refuses_image c.args.lines.now _ (c.in_ok-layout.layout, c.in_ok-layout.callers) c.in_ok-layout.ensures _
    (c.in_ok-base_clock.base_clock, states_of c.in_ok-base_clock.base) c.in_ok-base_clock.ensures _ c.in_ok-histories.histories
    c.in_ok-histories.runs c.in_ok-histories.ensures.0
    (subst (λ (n : ℕ). Reads (AllOf (λ unit h. AreCounted (IsSpelled c.in_ok-layout.callers) h) n) histories_lines
    c.next_contents.new.lines
    c.next_histories.new.lines (spelled_all c.in_ok-histories.histories c.in_ok-histories.runs)) c.units-units.ensures.value
    c.in_ok-histories.ensures.1) _
    c.in_ok-outcomes.outcomes
    (subst (λ (n : ℕ). Reads (AllOf (λ caller os. AreOutcomes n c.in_ok-layout.callers os) c.in_ok-layout.callers) outcomes_lines
    c.next_histories.new.lines c.next_callers.new.lines c.in_ok-outcomes.outcomes) c.units-units.ensures.value
    c.in_ok-outcomes.ensures) _
    c.in_err-image_clock.ensures)

pub returns-in_err-next_end : goal.returns-in_err-next_end
returns-in_err-next_end c =
    at_exit c.from_residual-in_err-next_end.result c.in_err-next_end.field-0.0 _ (Refuses IsReport report_lines c.args.lines.now)
    c.from_residual-in_err-next_end.ensures.1
    (refuses_end c.args.lines.now _ (c.in_ok-layout.layout, c.in_ok-layout.callers) c.in_ok-layout.ensures _
    (c.in_ok-base_clock.base_clock, states_of c.in_ok-base_clock.base) c.in_ok-base_clock.ensures _ c.in_ok-histories.histories
    c.in_ok-histories.runs c.in_ok-histories.ensures.0
    (subst (λ (n : ℕ). Reads (AllOf (λ unit h. AreCounted (IsSpelled c.in_ok-layout.callers) h) n) histories_lines
    c.next_contents.new.lines
    c.next_histories.new.lines (spelled_all c.in_ok-histories.histories c.in_ok-histories.runs)) c.units-units.ensures.value
    c.in_ok-histories.ensures.1) _
    c.in_ok-outcomes.outcomes
    (subst (λ (n : ℕ). Reads (AllOf (λ caller os. AreOutcomes n c.in_ok-layout.callers os) c.in_ok-layout.callers) outcomes_lines
    c.next_histories.new.lines c.next_callers.new.lines c.in_ok-outcomes.outcomes) c.units-units.ensures.value
    c.in_ok-outcomes.ensures) _
    (c.in_ok-image_clock.image_clock, states_of c.in_ok-image_clock.contents) c.in_ok-image_clock.ensures _ c.in_err-next_end.ensures)

pub returns : goal.returns
returns c =
    reads_report c.args.lines.now _ (c.in_ok-layout.layout, c.in_ok-layout.callers) c.in_ok-layout.ensures _
    (c.in_ok-base_clock.base_clock, states_of c.in_ok-base_clock.base) c.in_ok-base_clock.ensures _ c.in_ok-histories.histories
    c.in_ok-histories.runs c.in_ok-histories.ensures.0
    (subst (λ (n : ℕ). Reads (AllOf (λ unit h. AreCounted (IsSpelled c.in_ok-layout.callers) h) n) histories_lines
    c.next_contents.new.lines
    c.next_histories.new.lines (spelled_all c.in_ok-histories.histories c.in_ok-histories.runs)) c.units-units.ensures.value
    c.in_ok-histories.ensures.1) _
    c.in_ok-outcomes.outcomes
    (subst (λ (n : ℕ). Reads (AllOf (λ caller os. AreOutcomes n c.in_ok-layout.callers os) c.in_ok-layout.callers) outcomes_lines
    c.next_histories.new.lines c.next_callers.new.lines c.in_ok-outcomes.outcomes) c.units-units.ensures.value
    c.in_ok-outcomes.ensures) _
    (c.in_ok-image_clock.image_clock, states_of c.in_ok-image_clock.contents) c.in_ok-image_clock.ensures _ c.in_ok-next_end.ensures
