use Rattle.structure_call.proofs.Counted.{numbers_end}
use Rattle.structure_call.proofs.counting.numbers_end.Goals as goal

pub returns : goal.returns
returns c = numbers_end
