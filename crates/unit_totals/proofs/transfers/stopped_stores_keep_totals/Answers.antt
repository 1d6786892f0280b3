use Rattle.unit_totals.proofs.Settled.{totals_kept}
use Rattle.unit_totals.proofs.transfers.stopped_stores_keep_totals.Goals as goal

pub returns : goal.returns
returns c = totals_kept
