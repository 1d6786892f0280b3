use Rattle.std.proofs.Common.{ap, refl, subst, sym, ◌∙◌, ◌<◌}
use Rattle.mont_base.specs.Layout.{total_of, word_of}
use Rattle.heap_rule.specs.TableWords.{durable_place}
use Rattle.heap_rule.proofs.SeatedPlays.{persists_close_as}
use Rattle.heap.specs.HeapShown.{HeapShown}
use Rattle.heap.proofs.SeatTables.{heap_table, word_inside}
use Rattle.heap.proofs.heap.Heap.store_closed.Goals as goal

pub store-requires : goal.store-requires
store-requires g c =
    let slot = c.args.slot in (
      heap_table _ _ _ c.requires.heap c.self.view_is,
      word_inside _ _ _ c.self.view_is c.requires.inside,
      persists_close_as _ _ _ _ _ _ _ _ slot (c.requires.opening ∙ ap (λ (z : HeapShown). z.opening) (sym c.self.view_is))
          c.requires.view (c.requires.place ∙ ap (λ (z : HeapShown). durable_place z.opening.layout (word_of slot 0)) (sym c.self.view_is))
          refl c.requires.may (subst (λ (z : HeapShown). slot < total_of z.opening.layout) (sym c.self.view_is) c.requires.slot)
          c.requires.home,
    )
