use Rattle.core_steps.proofs.ReuseLaws.{reclaimed_have_room}
use Rattle.core_steps.proofs.reuse.reclaimed_have_room.Goals as goal

pub returns : goal.returns
returns c = reclaimed_have_room
