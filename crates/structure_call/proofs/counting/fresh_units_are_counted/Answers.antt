use Rattle.structure_call.proofs.Counted.{fresh_are_counted}
use Rattle.structure_call.proofs.counting.fresh_units_are_counted.Goals as goal

pub returns : goal.returns
returns c = fresh_are_counted
