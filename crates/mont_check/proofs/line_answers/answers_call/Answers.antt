use Rattle.std.proofs.Common.{ℕ, refl, subst}
use Rattle.std.specs.Prelude.{◌↔◌, IsTrue}
use Rattle.job_text.specs.AnsweredLines.{IsAnswer}
use Rattle.job_text.specs.Faithful.{HasStop}
use Rattle.job_text.specs.PlainReport.{report_of}
use Rattle.job_text.specs.declared.outcome.Outcome.TheVariants.{At, CutIn, Full, Halted}
use Rattle.mont_check.specs.Moments.{IsRight}
use Rattle.mont_check.proofs.LineLaws.{call_is, call_waits}
use Rattle.mont_check.proofs.line_answers.answers_call.Goals as goal

pub returns-in-At : goal.returns-in-At
returns-in-At c records before after shown ahead =
    let a = c.args in
    let r = report_of c.args.report.now in
    let told = c.told.ensures (report_of c.args.report.now) records in
    let answer =
    subst (λ (n : ℕ). IsTrue c.is_answer.result
    ↔ IsAnswer (report_of c.args.report.now) c.args.caller n c.args.op.now c.in-At.unit c.in-At.place) shown.calls c.is_answer.ensures in
    call_is r (HasStop a.job.now a.caller) records a.caller before after (IsRight r records c.told.result) a.op.now a.outcome.now
    (At c.in-At.unit c.in-At.place) c.in-At.is (λ yes. answer.0 (told.0 yes), λ one. told.1 (answer.1 one))

pub returns-in-Full : goal.returns-in-Full
returns-in-Full c records before after shown ahead =
    let a = c.args in
    let r = report_of c.args.report.now in
    call_is r (HasStop a.job.now a.caller) records a.caller before after (IsRight r records c.is_full.result) a.op.now a.outcome.now
    (Full c.in-Full.need c.in-Full.free c.in-Full.clock) c.in-Full.is (c.is_full.ensures records before after shown ahead)

pub returns-in-Halted : goal.returns-in-Halted
returns-in-Halted c records before after shown ahead =
    let a = c.args in
    let r = report_of c.args.report.now in
    let told = c.told-in-Halted.ensures (report_of c.args.report.now) records in
    call_is r (HasStop a.job.now a.caller) records a.caller before after (IsRight r records c.told-in-Halted.result) a.op.now a.outcome.now
    (Halted c.in-Halted.unit c.in-Halted.by) c.in-Halted.is
    (λ yes. c.is_halted.ensures.0 (told.0 yes), λ halted. told.1 (c.is_halted.ensures.1 halted))

pub returns-in-CutIn : goal.returns-in-CutIn
returns-in-CutIn c records before after shown ahead =
    let a = c.args in
    let r = report_of c.args.report.now in
    let told = c.told-in-CutIn.ensures (report_of c.args.report.now) records in
    call_is r (HasStop a.job.now a.caller) records a.caller before after (IsRight r records c.told-in-CutIn.result) a.op.now a.outcome.now
    (CutIn c.in-CutIn.unit) c.in-CutIn.is
    (λ yes. c.may_be_cut_in.ensures.0 (told.0 yes), λ cut. told.1 (c.may_be_cut_in.ensures.1 cut))

pub returns-then-ends_wait : goal.returns-then-ends_wait
returns-then-ends_wait c records before after shown ahead =
    let a = c.args in
    let r = report_of c.args.report.now in
    call_waits r (HasStop a.job.now a.caller) records a.caller before after (IsRight r records c.may_be_full.result) a.op.now a.outcome.now
    (c.if-ends_wait.ensures.0 refl) (c.may_be_full.ensures records before after shown ahead)
