use Rattle.std.proofs.Common.{◌≡◌, length, get_or, refl, ap, sym, ◌∙◌, subst, arith}
use Rattle.core_steps.specs.Places.{EachAt}
use Rattle.std.specs.Prelude.{All, []}
use Rattle.std.proofs.lemmas.List.Elements.{All-get_or}
use Rattle.heap_rule.specs.Views.{note_of_unit}
use Rattle.slots.specs.Books.{RegionShown}
use Rattle.found_regions.specs.FoundRegion.{IsRegionFound}
use Rattle.recover.specs.FoundTicket.{IsTicketFound}
use Rattle.recover.proofs.Indexed.{at_got, put_same}
use Rattle.recover.proofs.Noted.{heard_found, heard_known, known_all}
use Rattle.recover.proofs.clean_notes.hear_all.Goals as goal

pub loop-unit-init : goal.loop-unit-init
loop-unit-init c = record { same = refl; ticket = c.requires.ticket; known = refl }

pub hear-requires-clause-region : goal.hear-requires-clause-region
hear-requires-clause-region c =
    let i = c.loop-unit.invariant in
    (at_got _ _ c.loop-unit.unit c.index-regions-unit.result (omega arith) c.index-regions-unit.is
    (subst (EachAt (IsRegionFound c.args.heap.now)) (sym i.same) c.requires.found)).of_heap.table

pub hear-requires-clause-ticket : goal.hear-requires-clause-ticket
hear-requires-clause-ticket c = c.loop-unit.invariant.ticket.table

pub loop-unit-preserved : goal.loop-unit-preserved
loop-unit-preserved c =
    let i = c.loop-unit.invariant in
    let e = c.hear.ensures in
    let r = get_or c.loop-unit.regions c.loop-unit.unit c.index-regions-unit.result in
    let at = at_got _ _ c.loop-unit.unit c.index-regions-unit.result (omega arith) c.index-regions-unit.is
    (subst (EachAt (IsRegionFound c.args.heap.now)) (sym i.same) c.requires.found) in
    let none = All-get_or (λ (x : RegionShown). x.books.lost ≡ []) c.loop-unit.regions c.loop-unit.unit c.index-regions-unit.result
    (omega arith) (subst (All (λ (x : RegionShown). x.books.lost ≡ [])) (sym i.same) c.requires.none) in
    record {
      same = put_same _ c.loop-unit.unit c.index-regions-unit.result c.hear.new.region (omega arith) c.index-regions-unit.is
          (e.region ∙ sym c.index-regions-unit.is) ∙ i.same;
      ticket = subst (IsTicketFound c.args.heap.now 0) (sym e.ticket)
          (heard_found c.args.heap.now 0 c.loop-unit.ticket (note_of_unit (length c.loop-unit.ticket.known.part.fronts) r.seat.known)
          i.ticket);
      known = heard_known c.loop-unit.unit c.loop-unit.ticket c.hear.new.ticket
          (note_of_unit (length c.loop-unit.ticket.known.part.fronts) r.seat.known) e.ticket i.known (at.clean none);
    }

pub returns-clause-known : goal.returns-clause-known
returns-clause-known c =
    let i = c.loop-unit.invariant in
    let end = c.loop-unit-test.false in
    let many = ap length i.same in
    known_all c.args.heap.now c.loop-unit.unit c.loop-unit.ticket.known.clean
    (let units = c.requires.many in omega (arith, end, many, units)) i.known
