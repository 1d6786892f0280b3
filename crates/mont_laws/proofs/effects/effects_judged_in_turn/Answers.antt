use Rattle.mont_laws.proofs.InTurn.{step_in_turn}
use Rattle.mont_laws.proofs.effects.effects_judged_in_turn.Goals as goal

pub returns : goal.returns
returns c = step_in_turn
