use Rattle.std.proofs.Common.{refl, subst, ◌+◌}
use Rattle.job_text.specs.declared.report_refusal.ReportRefusal.TheVariants.{Text}
use Rattle.job_text.specs.Readings.{Unread, TakesLine, HasNoLine}
use Rattle.job_text.proofs.ReadLines.{lines_lacking, takes_line}
use Rattle.job_text.proofs.unread.Unread.line.Goals as goal

pub returns-in_default : goal.returns-in_default
returns-in_default c =
    subst (λ (u : Unread). HasNoLine u (Text (c.self.inside.taken + 1))) c.self.view_is (lines_lacking _ c.in_default.ensures, refl)

pub returns : goal.returns
returns c =
    subst (λ (u : Unread). TakesLine u (record { bytes = c.in-Some.after.now; taken = c.self.inside.taken + 1 }) c.in-Some.line.now)
    c.self.view_is
    (takes_line (record { bytes = c.self.inside.bytes.now; taken = c.self.inside.taken })
    (record { bytes = c.in-Some.after.now; taken = c.self.inside.taken + 1 }) c.in-Some.line.now c.in-Some.after.now
    c.in-Some.ensures refl refl)
