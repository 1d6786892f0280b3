use Rattle.mont_laws.proofs.Shown.{without_obsolete}
use Rattle.mont_laws.proofs.structures.obsolete_records_drop.Goals as goal

pub returns : goal.returns
returns c = without_obsolete
