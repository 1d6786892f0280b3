use Rattle.std.proofs.Common.{◌≡◌, ◌+◌, ℕ, length, refl, ap, subst, sym, arith, true}
use Rattle.core_steps.specs.Flushing.{is_flushed}
use Rattle.heap_rule.specs.Views.{Seated, joined}
use Rattle.heap_rule.proofs.SeatedPlays.{sets_clock_as}
use Rattle.heap.specs.HeapShown.{AdvShown}
use Rattle.heap.proofs.SeatTables.{advancer_table, emptied_turn}
use Rattle.heap.proofs.heap.Heap.set_clock.Goals as goal

pub store-requires : goal.store-requires
store-requires g c =
    let s = c.seat.invariant in
    let words = c.self.invariant.words in (
      advancer_table _ _ _ _ c.seat.view_is c.requires.heap c.self.view_is,
      omega (arith, words),
      sets_clock_as _ _ _ _ _ _ _ (ap (λ (x : Seated). x.0) s.whole) refl (ap (λ (x : ℕ). x + 1) s.clock_is)
          (subst (λ (x : AdvShown). is_flushed (length (joined x.known.lists)) x.known.part ≡ true) (sym c.seat.view_is) c.requires.may)
          (emptied_turn _ _ c.seat.view_is c.requires.empty.0 c.requires.empty.1),
    )
