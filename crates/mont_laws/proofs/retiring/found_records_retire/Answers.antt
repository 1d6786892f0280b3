use Rattle.mont_laws.proofs.Recovered.{found_retire}
use Rattle.mont_laws.proofs.retiring.found_records_retire.Goals as goal

pub returns : goal.returns
returns c = found_retire
