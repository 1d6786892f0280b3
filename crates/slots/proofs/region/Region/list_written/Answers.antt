use Rattle.std.proofs.Common.{map, subst, sym, ap, ◌∙◌}
use Rattle.slots.specs.declared.books.Written.{Written}
use Rattle.slots.specs.Books.{Agrees}
use Rattle.slots.proofs.Listed.{written_slots}
use Rattle.slots.proofs.region.Region.list_written.Goals as goal

pub list_written-requires-clause-written : goal.list_written-requires-clause-written
list_written-requires-clause-written c =
    ap (map (λ (w : Written). w.held.slot)) c.written.ensures
    ∙ written_slots (record { seat = c.self.inside.seat; books = c.self.inside.books })
    (subst Agrees (sym c.self.view_is) c.requires.agrees)
