use Rattle.mont_laws.proofs.Shown.{empty_structure}
use Rattle.mont_laws.proofs.structures.no_records_show_empty.Goals as goal

pub returns : goal.returns
returns c = empty_structure
