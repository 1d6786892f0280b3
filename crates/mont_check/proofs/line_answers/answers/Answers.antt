use Rattle.std.proofs.Common.{subst}
use Rattle.job_text.specs.declared.job.Deed.{Deed}
use Rattle.job_text.specs.declared.job.Deed.TheVariants.{Call, Sync, Tick}
use Rattle.job_text.specs.Faithful.{HasStop}
use Rattle.job_text.specs.PlainReport.{report_of}
use Rattle.mont_check.specs.Moments.{IsAheadOf, IsRight}
use Rattle.mont_check.proofs.LineLaws.{deed_is}
use Rattle.mont_check.proofs.line_answers.answers.Goals as goal

pub returns-in-Call : goal.returns-in-Call
returns-in-Call c records before after shown ahead =
    let a = c.args in
    let r = report_of c.args.report.now in
    let caller = c.args.line.now.caller in
    deed_is r (HasStop a.job.now caller) records caller before after (IsRight r records c.answers_call.result) a.line.now.deed
    (Call c.in-Call.op) a.outcome.now c.in-Call.is
    (c.answers_call.ensures records before after shown (subst (λ (d : Deed). IsAheadOf r.layout after d a.ahead) c.in-Call.is ahead))

pub returns-in-Tick : goal.returns-in-Tick
returns-in-Tick c records before after shown ahead =
    let a = c.args in
    let r = report_of c.args.report.now in
    let caller = c.args.line.now.caller in
    let told = c.told.ensures (report_of c.args.report.now) records in
    deed_is r (HasStop a.job.now caller) records caller before after (IsRight r records c.told.result) a.line.now.deed Tick a.outcome.now
    c.in-Tick.is (λ yes. c.answers_tick.ensures.0 (told.0 yes), λ answer. told.1 (c.answers_tick.ensures.1 answer))

pub returns-in-Sync : goal.returns-in-Sync
returns-in-Sync c records before after shown ahead =
    let a = c.args in
    let r = report_of c.args.report.now in
    let caller = c.args.line.now.caller in
    let told = c.told-in-Sync.ensures (report_of c.args.report.now) records in
    deed_is r (HasStop a.job.now caller) records caller before after (IsRight r records c.told-in-Sync.result) a.line.now.deed Sync
    a.outcome.now
    c.in-Sync.is (λ yes. c.answers_sync.ensures.0 (told.0 yes), λ answer. told.1 (c.answers_sync.ensures.1 answer))
