use Rattle.std.proofs.Common.{ap, sym, ◌∙◌}
use Rattle.mont_base.specs.Layout.{units_of}
use Rattle.core_steps.specs.Advancing.{unit_at_hand}
use Rattle.heap_rule.specs.TableWords.{announcement_place}
use Rattle.heap_rule.specs.Views.{the_advancer, are_clean}
use Rattle.heap_rule.proofs.SeatedPlays.{checks_as}
use Rattle.heap.specs.HeapShown.{HeapShown}
use Rattle.heap.proofs.SeatTables.{heap_table, word_inside}
use Rattle.heap.proofs.heap.Heap.load_announced.Goals as goal

pub load-requires : goal.load-requires
load-requires g c =
    let a = the_advancer c.args.seat.now.me.0 in (
      heap_table _ _ _ c.requires.heap c.self.view_is,
      word_inside _ _ _ c.self.view_is c.requires.inside,
      checks_as _ _ _ _ _ _ _ (c.requires.opening ∙ ap (λ (z : HeapShown). z.opening) (sym c.self.view_is)) c.requires.view
          (c.requires.place ∙ ap (λ (z : HeapShown). announcement_place z.opening.layout (unit_at_hand a.part)) (sym c.self.view_is))
          c.requires.may
          (λ rests. ap (λ (z : HeapShown). are_clean (units_of z.opening.layout) a.clean) c.self.view_is ∙ c.requires.clean rests)
          c.requires.hand,
    )
