use Rattle.mont_laws.proofs.Histories.{follows_found}
use Rattle.mont_laws.proofs.structures.found_records_follow.Goals as goal

pub returns : goal.returns
returns c = λ s unit x rs base. follows_found s unit base x rs
