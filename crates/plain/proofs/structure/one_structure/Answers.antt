use Rattle.plain.proofs.Single.{same_structure}
use Rattle.plain.proofs.structure.one_structure.Goals as goal

pub returns : goal.returns
returns c = same_structure
