use Rattle.structure_call.proofs.Counted.{recovered_are_counted}
use Rattle.structure_call.proofs.counting.recovered_units_are_counted.Goals as goal

pub returns : goal.returns
returns c = recovered_are_counted
