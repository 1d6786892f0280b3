use Rattle.mont_laws.proofs.Unretired.{live_left}
use Rattle.mont_laws.proofs.retiring.live_records_are_left.Goals as goal

pub returns : goal.returns
returns c = live_left
