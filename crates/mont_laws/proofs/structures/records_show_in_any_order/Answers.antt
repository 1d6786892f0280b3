use Rattle.mont_laws.proofs.Shown.{in_any_order}
use Rattle.mont_laws.proofs.structures.records_show_in_any_order.Goals as goal

pub returns : goal.returns
returns c = in_any_order
