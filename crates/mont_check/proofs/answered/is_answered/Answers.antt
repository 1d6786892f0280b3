use Rattle.std.proofs.Common.{List, ◌∙◌, refl, subst}
use Rattle.job_text.specs.declared.job.Line.{Line}
use Rattle.job_text.specs.declared.outcome.Outcome.{Outcome}
use Rattle.job_text.specs.Faithful.{AnsweredAt}
use Rattle.job_text.specs.PlainReport.{report_of}
use Rattle.job_text.specs.Report.{lines_of}
use Rattle.mont_check.specs.AnsweredCallers.{AnswersInOrder, AreCounted, TellsLines}
use Rattle.mont_check.proofs.AnswerLaws.{adds_as, answered_where}
use Rattle.mont_check.proofs.answered.is_answered.Goals as goal

pub returns : goal.returns
returns c =
    let a = c.args in
    let r = report_of c.args.report.now in
    let own = lines_of c.args.job.now c.args.caller in
    let old = c.args.questions.now.items in
    let new = c.answer_in_order.new.questions.items in
    let lines = c.as_slice-lines.ensures.value ∙ c.in_ok-lines.ensures in
    adds_as r (λ records. AnswersInOrder a.job.now r records own c.in-Some.outcomes.now)
    (λ records. AnsweredAt a.job.now records r a.caller) old new
    c.in_ok-told.told
    (λ records. answered_where a.job.now r records a.caller c.in-Some.outcomes.now c.in-Some.ensures
    (subst (λ (os : List Outcome). AreCounted own os) c.as_slice-outcomes.ensures
    (subst (λ (ls : List Line). AreCounted ls c.as_slice-outcomes.result.now) lines (c.if-not-are_counted.ensures.0 refl))))
    (subst (λ (os : List Outcome). TellsLines a.job.now r own os old new c.in_ok-told.told) c.as_slice-outcomes.ensures
    (subst (λ (ls : List Line). TellsLines a.job.now r ls c.as_slice-outcomes.result.now old new c.in_ok-told.told) lines
    c.in_ok-told.ensures))
