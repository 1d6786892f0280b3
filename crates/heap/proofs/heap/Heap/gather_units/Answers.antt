use Rattle.std.proofs.Common.{◌≡◌, false, ap, sym, ◌∙◌, subst, arith}
use Rattle.std.proofs.lemmas.List.Elements.{All-tail}
use Rattle.heap_rule.proofs.SeatPlays.{joins_units}
use Rattle.heap.specs.HeapShown.{HeapShown, UnitShown}
use Rattle.heap.specs.Stops.{AreUnitsOf, AreAtHome}
use Rattle.heap.proofs.GatheredSeats.{head_of_all, none_out, units_gathered}
use Rattle.heap.proofs.SeatTables.{unit_table}
use Rattle.heap.proofs.heap.Heap.gather_units.Goals as goal

pub join_seat-requires : goal.join_seat-requires
join_seat-requires c =
    let words = c.self.invariant.words in
    let i = c.loop-unit.invariant in
    let steps = c.in-Some.ensures.steps.0 in
    let of_heap = head_of_all (λ (s : UnitShown). s.table ≡ c.args.self.now.table) c.in-Some.unit _ _ steps i.of_heap in
    let at_home = head_of_all (λ (s : UnitShown). s.known.turn.out ≡ false) c.in-Some.unit _ _ steps i.at_home in (
      i.table ∙ (c.requires.heap ∙ sym (ap (λ (x : HeapShown). x.table) c.self.view_is)),
      unit_table _ _ _ _ c.unit.view_is of_heap c.self.view_is,
      none_out _ c.unit.invariant.whole (ap (λ (s : UnitShown). s.known.turn.out) c.unit.view_is ∙ at_home),
      omega (arith, words),
      joins_units _ _ _ _ _,
    )

pub loop-unit-preserved : goal.loop-unit-preserved
loop-unit-preserved c =
    let i = c.loop-unit.invariant in
    let steps = c.in-Some.ensures.steps.0 in
    let j = c.join_seat.ensures in record {
      of_heap = All-tail (λ (s : UnitShown). s.table ≡ c.args.self.now.table) c.in-Some.unit _
          (subst (AreUnitsOf c.args.self.now) steps i.of_heap);
      at_home = All-tail (λ (s : UnitShown). s.known.turn.out ≡ false) c.in-Some.unit _ (subst AreAtHome steps i.at_home);
      table = j.0 ∙ i.table;
      view = units_gathered c.args.all.now.me c.loop-unit.all.me _ c.unit.inside.seat.me _ _ _ c.in-Some.unit i.view j.2
          c.unit.invariant.whole (ap (λ (s : UnitShown). s.known) c.unit.view_is);
    }
