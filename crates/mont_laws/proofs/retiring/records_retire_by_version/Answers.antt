use Rattle.mont_laws.proofs.ByVersion.{retired_alike}
use Rattle.mont_laws.proofs.retiring.records_retire_by_version.Goals as goal

pub returns : goal.returns
returns c = retired_alike
