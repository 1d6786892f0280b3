use Rattle.write_back.proofs.Standing.{slot_is, slot_inside}
use Rattle.write_back.proofs.flush.Flush.persist.Goals as goal

pub persist_word-requires-clause-slot : goal.persist_word-requires-clause-slot
persist_word-requires-clause-slot g c = slot_is _ _ c.requires.stands _ c.requires.slot

pub persist_word-requires-clause-inside : goal.persist_word-requires-clause-inside
persist_word-requires-clause-inside g c = slot_inside _ _ c.requires.stands _ c.requires.slot _ c.requires.layout
