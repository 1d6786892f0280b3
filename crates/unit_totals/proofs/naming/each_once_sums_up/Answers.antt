use Rattle.unit_totals.proofs.Named.{each_once}
use Rattle.unit_totals.proofs.naming.each_once_sums_up.Goals as goal

pub returns : goal.returns
returns c = each_once
