use Rattle.std.proofs.Common.{◌∙◌, sym}
use Rattle.mont_check.proofs.Layouts.{layout_Decides}
use Rattle.report_check.proofs.report_check.same_layout.Goals as goal

pub returns : goal.returns
returns c =
    let told = layout_Decides c.args.a.now c.args.b.now in
    (λ yes. told.0 (sym c.eq.ensures ∙ yes), λ same. c.eq.ensures ∙ told.1 same)
