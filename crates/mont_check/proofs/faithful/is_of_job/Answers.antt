use Rattle.std.proofs.Common.{◌∙◌, sym}
use Rattle.std.proofs.lemmas.Bool.Decides.{Decides-eqb}
use Rattle.mont_check.proofs.Layouts.{layout_Decides}
use Rattle.mont_check.proofs.faithful.is_of_job.Goals as goal

pub returns-then-eq : goal.returns-then-eq
returns-then-eq c =
    let r = c.args.report.now in
    let j = c.args.job.now in
    let same = (layout_Decides r.layout j.layout).0 (sym c.eq.ensures ∙ c.if-eq.true) in
    let told = Decides-eqb r.callers j.callers in
    (λ yes. record { layout = same; callers = told.0 yes }, λ of_job. told.1 of_job.callers)

pub returns-else-eq : goal.returns-else-eq
returns-else-eq c =
    let told = layout_Decides c.args.report.now.layout c.args.job.now.layout in
    (λ yes. absurd cc, λ of_job. c.eq.ensures ∙ told.1 of_job.layout)
