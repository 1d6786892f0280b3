use Rattle.rounds.proofs.Strung.{rounds_go_on}
use Rattle.rounds.proofs.rounds.rounds_go_on.Goals as goal

pub returns : goal.returns
returns c = rounds_go_on
