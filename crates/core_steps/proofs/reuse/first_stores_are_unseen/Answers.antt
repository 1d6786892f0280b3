use Rattle.core_steps.proofs.ReuseLaws.{first_stores_are_unseen}
use Rattle.core_steps.proofs.reuse.first_stores_are_unseen.Goals as goal

pub returns : goal.returns
returns c = first_stores_are_unseen
