use Rattle.slots.proofs.Seen.{lost_in_heap}
use Rattle.slots.proofs.region.Region.close_lost.Goals as goal

pub close_label-requires-clause-slot : goal.close_label-requires-clause-slot
close_label-requires-clause-slot g c = lost_in_heap _ _ c.args.slot c.requires.heap c.requires.agrees c.requires.first
