use Rattle.write_back.proofs.AskedTimes.{asks_words}
use Rattle.write_back.proofs.Standing.{slot_is, slot_inside, may_load}
use Rattle.write_back.proofs.flush.Flush.flush_slot.Goals as goal

pub flush_slot-flushed-requires-clause-may : goal.flush_slot-flushed-requires-clause-may
flush_slot-flushed-requires-clause-may g c = may_load _ _ c.requires.stands _ c.requires.slot c.requires.unloaded

pub flush_slot-flushed-requires-clause-slot : goal.flush_slot-flushed-requires-clause-slot
flush_slot-flushed-requires-clause-slot g c = slot_is _ _ c.requires.stands _ c.requires.slot

pub flush_slot-flushed-requires-clause-inside : goal.flush_slot-flushed-requires-clause-inside
flush_slot-flushed-requires-clause-inside g c = slot_inside _ _ c.requires.stands _ c.requires.slot _ c.requires.layout

pub returns-in-Ok-clause-asked : goal.returns-in-Ok-clause-asked
returns-in-Ok-clause-asked g c = asks_words g.G.Gate.asked _ _ _ _ _ c.flush_slot-flushed.ensures.steps

pub returns-in-Err-clause-asked : goal.returns-in-Err-clause-asked
returns-in-Err-clause-asked g c = asks_words g.G.Gate.asked _ _ _ _ _ c.flush_slot-flushed.ensures.steps
