use Rattle.core_steps.proofs.ReuseLaws.{free_slots_are_unseen}
use Rattle.core_steps.proofs.reuse.free_slots_are_unseen.Goals as goal

pub returns : goal.returns
returns c = free_slots_are_unseen
