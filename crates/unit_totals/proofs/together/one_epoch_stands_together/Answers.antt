use Rattle.unit_totals.proofs.Standing.{one_epoch_stands_together}
use Rattle.unit_totals.proofs.together.one_epoch_stands_together.Goals as goal

pub returns : goal.returns
returns c = one_epoch_stands_together
