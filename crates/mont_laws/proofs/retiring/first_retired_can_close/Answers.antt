use Rattle.mont_laws.proofs.Closing.{closes_first}
use Rattle.mont_laws.proofs.retiring.first_retired_can_close.Goals as goal

pub returns : goal.returns
returns c = closes_first
