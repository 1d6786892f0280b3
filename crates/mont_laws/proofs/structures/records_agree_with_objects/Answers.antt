use Rattle.mont_laws.proofs.Agreement.{agrees}
use Rattle.mont_laws.proofs.structures.records_agree_with_objects.Goals as goal

pub returns : goal.returns
returns c = agrees
