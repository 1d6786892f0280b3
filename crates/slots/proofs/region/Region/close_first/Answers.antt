use Rattle.slots.proofs.Reclaims.{closed_agrees}
use Rattle.slots.proofs.Seen.{due_in_heap, own_at, closed_at}
use Rattle.slots.proofs.region.Region.close_first.Goals as goal

pub close_label-requires-clause-slot : goal.close_label-requires-clause-slot
close_label-requires-clause-slot g c =
    due_in_heap _ _ c.args.slot c.requires.heap c.requires.agrees c.requires.rests c.requires.due

pub persist_close-requires-clause-slot : goal.persist_close-requires-clause-slot
persist_close-requires-clause-slot g c =
    due_in_heap _ _ c.args.slot c.requires.heap c.requires.agrees c.requires.rests c.requires.due

pub free_retired-requires-clause-of_unit : goal.free_retired-requires-clause-of_unit
free_retired-requires-clause-of_unit g c =
    own_at _ _ c.self.view_is c.requires.agrees c.args.slot c.requires.rests c.requires.due

pub returns-clause-ok : goal.returns-clause-ok
returns-clause-ok g c = closed_at _ _ c.self.view_is c.requires.agrees c.args.slot c.requires.rests c.requires.due
    _ _ _ c.in_ok-close_label.ensures.ok c.in_ok-persist_close.ensures.ok c.free_retired.ensures

pub returns-clause-agrees : goal.returns-clause-agrees
returns-clause-agrees g c = closed_agrees _ c.args.slot c.requires.agrees c.requires.rests c.requires.due _
    (closed_at _ _ c.self.view_is c.requires.agrees c.args.slot c.requires.rests c.requires.due
    _ _ _ c.in_ok-close_label.ensures.ok c.in_ok-persist_close.ensures.ok c.free_retired.ensures)
