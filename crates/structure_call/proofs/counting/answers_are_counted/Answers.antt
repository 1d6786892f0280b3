use Rattle.structure_call.proofs.Counted.{answers_are_counted}
use Rattle.structure_call.proofs.counting.answers_are_counted.Goals as goal

pub returns : goal.returns
returns c = answers_are_counted
