use Rattle.std.proofs.Common.{ap, sym, ◌∙◌}
use Rattle.heap_rule.specs.TableWords.{durable_place}
use Rattle.heap_rule.proofs.SeatedPlays.{persists_clock_as}
use Rattle.heap.specs.HeapShown.{HeapShown}
use Rattle.heap.proofs.SeatTables.{heap_table, word_inside}
use Rattle.heap.proofs.heap.Heap.store_clock.Goals as goal

pub store-requires : goal.store-requires
store-requires g c = (
  heap_table _ _ _ c.requires.heap c.self.view_is,
  word_inside _ _ _ c.self.view_is c.requires.inside,
  persists_clock_as _ _ _ _ _ _ _ _ (c.requires.opening ∙ ap (λ (z : HeapShown). z.opening) (sym c.self.view_is)) c.requires.view
      (c.requires.place ∙ ap (λ (z : HeapShown). durable_place z.opening.layout 0) (sym c.self.view_is)) c.requires.clock c.requires.may,
)
