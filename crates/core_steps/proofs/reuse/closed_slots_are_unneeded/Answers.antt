use Rattle.core_steps.proofs.ReuseLaws.{closed_slots_are_unneeded}
use Rattle.core_steps.proofs.reuse.closed_slots_are_unneeded.Goals as goal

pub returns : goal.returns
returns c = closed_slots_are_unneeded
