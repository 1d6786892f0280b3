use Rattle.std.proofs.Common.{◌≡◌, [], length-set, get_or, refl, ap, sym, ◌∙◌, subst, arith}
use Rattle.std.proofs.lemmas.List.Elements.{All-nil, All-get_or, All-set}
use Rattle.heap.specs.HeapShown.{CallerShown}
use Rattle.slots.specs.Books.{RegionShown}
use Rattle.found_regions.specs.FoundRegion.{IsRegionFound, IsRegionSwept}
use Rattle.recover.specs.FoundTicket.{knows_all}
use Rattle.recover.proofs.Indexed.{at_got, all_with_next, all_taken, each_with}
use Rattle.recover.proofs.Noted.{shown_found, shown_swept}
use Rattle.recover.proofs.clean_notes.show_all.Goals as goal

pub loop-unit-init : goal.loop-unit-init
loop-unit-init c = record {
  many = refl;
  found = c.requires.found;
  none = c.requires.none;
  ticket = refl;
  swept = All-nil (IsRegionSwept c.args.heap.now);
}

pub show-requires-clause-region : goal.show-requires-clause-region
show-requires-clause-region c =
    (at_got _ _ c.loop-unit.unit c.index-regions-unit.result (omega arith) c.index-regions-unit.is
    c.loop-unit.invariant.found).of_heap.table

pub show-requires-clause-ticket : goal.show-requires-clause-ticket
show-requires-clause-ticket c = ap (λ (t : CallerShown). t.table) c.loop-unit.invariant.ticket ∙ c.requires.ticket

pub loop-unit-preserved : goal.loop-unit-preserved
loop-unit-preserved c =
    let heap = c.args.heap.now in
    let i = c.loop-unit.invariant in
    let e = c.show.ensures in
    let r = get_or c.loop-unit.regions c.loop-unit.unit c.index-regions-unit.result in
    let t = c.loop-unit.ticket in
    let new = c.show.new.region in
    let at = at_got _ _ c.loop-unit.unit c.index-regions-unit.result (omega arith) c.index-regions-unit.is i.found in
    let none : r.books.lost ≡ [] = All-get_or (λ (x : RegionShown). x.books.lost ≡ []) c.loop-unit.regions
    c.loop-unit.unit c.index-regions-unit.result (omega arith) i.none in
    let known = subst (λ (x : CallerShown). knows_all heap x.known.clean) (sym i.ticket) c.requires.known in
    let found : IsRegionFound heap c.loop-unit.unit new =
    subst (IsRegionFound heap c.loop-unit.unit) (sym e.region) (shown_found heap c.loop-unit.unit r t at) in
    let swept : IsRegionSwept heap new = subst (IsRegionSwept heap) (sym e.region) (shown_swept heap r t none known) in
    record {
      many = length-set c.loop-unit.regions c.loop-unit.unit new ∙ i.many;
      found = each_with (IsRegionFound heap) _ c.loop-unit.unit new i.found found;
      none = All-set (λ (x : RegionShown). x.books.lost ≡ []) _ c.loop-unit.unit new swept.none i.none;
      ticket = e.ticket ∙ i.ticket;
      swept = all_with_next (IsRegionSwept heap) _ c.loop-unit.unit new (omega arith) i.swept swept;
    }

pub returns-clause-swept : goal.returns-clause-swept
returns-clause-swept c =
    all_taken (IsRegionSwept c.args.heap.now) _ c.loop-unit.unit (let end = c.loop-unit-test.false in omega (arith, end))
    c.loop-unit.invariant.swept
