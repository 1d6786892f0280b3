use Rattle.std.proofs.Common.{ap, refl, sym, arith, ◌∙◌}
use Rattle.heap_rule.proofs.SeatedPlays.{hears_as}
use Rattle.heap.specs.HeapShown.{HeapShown}
use Rattle.heap.proofs.SeatTables.{heap_table}
use Rattle.heap.proofs.heap.Heap.load_heard.Goals as goal

pub load-clock-requires : goal.load-clock-requires
load-clock-requires g c =
    let words = c.self.invariant.words in (
      heap_table _ _ _ c.requires.heap c.self.view_is,
      omega (arith, words),
      hears_as _ _ _ _ _ _ _ _ (c.requires.opening ∙ ap (λ (z : HeapShown). z.opening) (sym c.self.view_is)) c.requires.view refl,
    )
