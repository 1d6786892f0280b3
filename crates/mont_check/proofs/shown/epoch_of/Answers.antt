use Rattle.std.proofs.Common.{sym, ap, ◌∙◌}
use Rattle.mont_check.proofs.ShownLaws.{no_entry}
use Rattle.mont_check.specs.Shown.{epoch_in}
use Rattle.mont_check.proofs.shown.epoch_of.Goals as goal

pub returns-in-None : goal.returns-in-None
returns-in-None c =
    let hs = c.args.report.now.histories in
    sym (ap (epoch_in hs) c.in-At.is ∙ no_entry hs c.in-At.unit c.in-At.place c.in-None.ensures)
