use Rattle.std.proofs.Common.{ℕ, ◌≡◌, ◌+◌, sym, subst, refl, ◌∙◌}
use Rattle.job_text.specs.declared.report_refusal.ReportRefusal.{ReportRefusal}
use Rattle.job_text.specs.declared.report_refusal.ReportRefusal.TheVariants.{Text, Memory}
use Rattle.job_text.specs.Readings.{Unread, Reads, Refuses}
use Rattle.job_text.specs.ReportText.{report_lines}
use Rattle.job_text.specs.ReportRanges.{IsReport, IsFirstWrong}
use Rattle.job_text.specs.PlainReport.{report_of}
use Rattle.job_text.proofs.ReadLines.{at_exit}
use Rattle.job_text.proofs.CleanParts.{report_clean}
use Rattle.job_text.proofs.ReportParts.{report_once}
use Rattle.job_text.proofs.WholeText.{wrong_line, wrong_behind, same_report, named_error, only_memory}
use Rattle.job_text.proofs.report_reader.read_report.Goals as goal

pub returns-in_err-report-clause-refused : goal.returns-in_err-report-clause-refused
returns-in_err-report-clause-refused c = λ line at.
    let is = named_error c.from_residual.result c.in_err-report.field-0.0 c.from_residual.ensures.1 line at in
    let r = subst (λ (e : ReportRefusal). Refuses IsReport report_lines (record { bytes = c.args.bytes.now; taken = 0 }) e) is
    (subst (λ (u : Unread). Refuses IsReport report_lines u c.in_err-report.field-0.0) c.of-lines.ensures
    c.in_err-report.ensures) in
    wrong_line report_clean report_once c.args.bytes.now line r.0 r.1 r.2

pub returns-in_err-report-clause-accepted : goal.returns-in_err-report-clause-accepted
returns-in_err-report-clause-accepted c = λ r it e.
    at_exit c.from_residual.result c.in_err-report.field-0.0 _ (λ d. d ≡ Memory) c.from_residual.ensures.1
    (only_memory ((line : ℕ) × IsFirstWrong c.args.bytes.now line) c.in_err-report.field-0.0
    (λ line is.
    let t = subst (λ (d : ReportRefusal). Refuses IsReport report_lines (record { bytes = c.args.bytes.now; taken = 0 }) d) is
    (subst (λ (u : Unread). Refuses IsReport report_lines u c.in_err-report.field-0.0) c.of-lines.ensures
    c.in_err-report.ensures) in
    (line, wrong_line report_clean report_once c.args.bytes.now line t.0 t.1 t.2))
    (λ w. w.1.no_report r it e))

pub returns-in_err-finish-clause-refused : goal.returns-in_err-finish-clause-refused
returns-in_err-finish-clause-refused c = λ line at.
    let is = named_error c.from_residual-in_err-finish.result c.in_err-finish.field-0.0 c.from_residual-in_err-finish.ensures.1 line
    at in
    let read = subst (λ (u : Unread). Reads IsReport report_lines u c.next_report.new.lines
    (report_of c.in_ok-report.report)) c.of-lines.ensures
    c.in_ok-report.ensures in
    wrong_behind report_clean report_once c.args.bytes.now c.next_report.new.lines
    (report_of c.in_ok-report.report) line read c.in_err-finish.ensures.0
    (let both : Text line ≡ Text (c.next_report.new.lines.taken + 1) = sym is ∙ c.in_err-finish.ensures.1 in cc)

pub returns-in_err-finish-clause-accepted : goal.returns-in_err-finish-clause-accepted
returns-in_err-finish-clause-accepted c = λ r it e.
    let read = subst (λ (u : Unread). Reads IsReport report_lines u c.next_report.new.lines
    (report_of c.in_ok-report.report)) c.of-lines.ensures
    c.in_ok-report.ensures in
    at_exit c.from_residual-in_err-finish.result c.in_err-finish.field-0.0 _ (λ d. d ≡ Memory) c.from_residual-in_err-finish.ensures.1
    (only_memory (IsFirstWrong c.args.bytes.now (c.next_report.new.lines.taken + 1)) c.in_err-finish.field-0.0
    (λ line is. wrong_behind report_clean report_once c.args.bytes.now c.next_report.new.lines (report_of c.in_ok-report.report) _ read
    c.in_err-finish.ensures.0 refl)
    (λ w. w.no_report r it e))

pub returns-clause-accepted : goal.returns-clause-accepted
returns-clause-accepted c = λ r it e.
    let read = subst (λ (u : Unread). Reads IsReport report_lines u c.next_report.new.lines
    (report_of c.in_ok-report.report)) c.of-lines.ensures
    c.in_ok-report.ensures in
    same_report report_clean report_once c.args.bytes.now c.next_report.new.lines (report_of c.in_ok-report.report) r read it e
