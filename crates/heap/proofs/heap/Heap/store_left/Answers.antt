use Rattle.std.proofs.Common.{ap, refl, subst, sym, ◌∙◌}
use Rattle.mont_base.specs.declared.operation.Op.{Op}
use Rattle.mont_base.specs.declared.operation.Reply.{Reply}
use Rattle.core_steps.specs.CallAnswers.{CanLeave}
use Rattle.core_steps.specs.Stages.{epoch_of}
use Rattle.heap_rule.specs.TableWords.{announcement_place}
use Rattle.heap_rule.specs.Views.{the_unit, the_caller}
use Rattle.heap_rule.proofs.SeatedPlays.{leaves_as}
use Rattle.heap.specs.HeapShown.{HeapShown}
use Rattle.heap.proofs.SeatTables.{heap_table, word_inside}
use Rattle.heap.proofs.heap.Heap.store_left.Goals as goal

pub store-requires : goal.store-requires
store-requires g c =
    let h = the_unit c.args.seat.now.me.0 in
    let q = the_caller c.args.seat.now.me.0 in (
      heap_table _ _ _ c.requires.heap c.self.view_is,
      word_inside _ _ _ c.self.view_is c.requires.inside,
      leaves_as _ _ _ _ _ _ _ _ _ _ _ (c.requires.opening ∙ ap (λ (z : HeapShown). z.opening) (sym c.self.view_is)) c.requires.view
          (c.requires.place ∙ ap (λ (z : HeapShown). announcement_place z.opening.layout h.unit) (sym c.self.view_is)) refl
          (subst (λ (z : HeapShown × Op × Reply). CanLeave z.0.opening.layout h.unit h.part q.part z.1 z.2 (epoch_of h.part.stage))
          (λ j. (sym c.self.view_is j, sym c.requires.op j, sym c.requires.reply j)) c.requires.may)
          c.requires.given,
    )
