use Rattle.std.proofs.Common.{refl, ap, arith, ◌∙◌}
use Rattle.core_steps.specs.Announcing.{can_look}
use Rattle.heap_rule.specs.Views.{Seated}
use Rattle.heap_rule.proofs.SeatedPlays.{looks_as}
use Rattle.heap.specs.HeapShown.{UnitShown}
use Rattle.heap.proofs.SeatTables.{unit_table}
use Rattle.heap.proofs.heap.Heap.load_clock.Goals as goal

pub load-requires : goal.load-requires
load-requires g c =
    let s = c.seat.invariant in
    let words = c.self.invariant.words in (
      unit_table _ _ _ _ c.seat.view_is c.requires.heap c.self.view_is,
      omega (arith, words),
      looks_as _ _ _ _ _ _ (ap (λ (x : Seated). x.0) s.whole) refl
          (ap (λ (x : UnitShown). can_look x.known.part) c.seat.view_is ∙ c.requires.may),
    )
