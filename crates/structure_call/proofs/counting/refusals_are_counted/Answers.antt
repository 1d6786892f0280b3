use Rattle.structure_call.proofs.Counted.{refusals_are_counted}
use Rattle.structure_call.proofs.counting.refusals_are_counted.Goals as goal

pub returns : goal.returns
returns c = refusals_are_counted
