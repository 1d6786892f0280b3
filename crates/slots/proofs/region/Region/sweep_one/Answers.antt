use Rattle.std.proofs.Common.{refl, ◌∙◌}
use Rattle.slots.proofs.Seen.{lost_in_heap, first_seen_lost, sweep_agrees}
use Rattle.slots.proofs.region.Region.sweep_one.Goals as goal

pub persist_close-requires-clause-slot : goal.persist_close-requires-clause-slot
persist_close-requires-clause-slot g c = lost_in_heap _ _ c.in-Some.slot c.requires.heap c.requires.agrees
    (first_seen_lost _ _ c.self.view_is _ c.in-Some.ensures)

pub returns-clause-agrees : goal.returns-clause-agrees
returns-clause-agrees g c = sweep_agrees (record { seat = c.self-2.inside.seat; books = c.self-2.inside.books }) c.args.self.now
    c.args.self.now c.in-Some.slot c.persist_close.new.seat c.free_lost.new.self
    (c.self-2.view_is ∙ c.in_ok-close_lost.ensures.ok) refl c.requires.agrees
    (first_seen_lost _ c.args.self.now c.self.view_is _ c.in-Some.ensures) c.in_ok-persist_close.ensures.ok c.free_lost.ensures
