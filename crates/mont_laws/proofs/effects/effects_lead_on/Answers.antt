use Rattle.mont_laws.proofs.Shown.{effects_lead}
use Rattle.mont_laws.proofs.effects.effects_lead_on.Goals as goal

pub returns : goal.returns
returns c = effects_lead
