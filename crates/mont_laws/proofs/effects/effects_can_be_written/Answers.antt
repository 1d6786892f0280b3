use Rattle.mont_laws.proofs.WritesMore.{step_written}
use Rattle.mont_laws.proofs.effects.effects_can_be_written.Goals as goal

pub returns : goal.returns
returns c = step_written
