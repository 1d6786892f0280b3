use Rattle.image_units.proofs.OneRefusal.{one_refusal}
use Rattle.image_units.proofs.refusal_laws.refusals_are_one.Goals as goal

pub returns : goal.returns
returns c = one_refusal
