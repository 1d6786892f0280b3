use Rattle.std.proofs.Common.{refl, ap, arith, ◌∙◌}
use Rattle.core_steps.specs.Announcing.{can_confirm}
use Rattle.heap_rule.specs.Views.{Seated, the_unit}
use Rattle.heap_rule.proofs.SeatedPlays.{confirms_as}
use Rattle.heap.specs.HeapShown.{UnitShown}
use Rattle.heap.proofs.SeatTables.{unit_table, confirm_rests}
use Rattle.heap.proofs.heap.Heap.confirm.Goals as goal

pub load-requires : goal.load-requires
load-requires g c =
    let s = c.seat.invariant in
    let words = c.self.invariant.words in
    let may = ap (λ (x : UnitShown). can_confirm x.known.part) c.seat.view_is ∙ c.requires.may in (
      unit_table _ _ _ _ c.seat.view_is c.requires.heap c.self.view_is,
      omega (arith, words),
      confirms_as _ _ _ _ _ _ (ap (λ (x : Seated). x.0) s.whole) refl may
          (s.rests (confirm_rests (the_unit c.seat.inside.seat.me.0).part may)),
    )
