use Rattle.mont_laws.proofs.Histories.{follows_on}
use Rattle.mont_laws.proofs.effects.effects_lead_on_in_cuts.Goals as goal

pub returns : goal.returns
returns c = λ s unit x base. follows_on s unit base x
