use Rattle.std.proofs.Common.{ap, refl, subst, sym, arith, ◌∙◌}
use Rattle.mont_base.specs.declared.operation.Op.{Op}
use Rattle.mont_base.specs.declared.operation.Reply.{Reply}
use Rattle.core_steps.specs.CallAnswers.{CanRead}
use Rattle.mont_base.specs.Layout.{units_of}
use Rattle.heap_rule.specs.Views.{the_unit, the_caller, are_clean}
use Rattle.heap_rule.proofs.SeatedPlays.{reads_as}
use Rattle.heap.specs.HeapShown.{HeapShown}
use Rattle.heap.proofs.SeatTables.{heap_table}
use Rattle.heap.proofs.heap.Heap.load_read.Goals as goal

pub load-requires : goal.load-requires
load-requires g c =
    let words = c.self.invariant.words in
    let h = the_unit c.args.seat.now.me.0 in
    let q = the_caller c.args.seat.now.me.0 in (
      heap_table _ _ _ c.requires.heap c.self.view_is,
      omega (arith, words),
      reads_as _ _ _ _ _ _ _ _ _ _ (c.requires.opening ∙ ap (λ (z : HeapShown). z.opening) (sym c.self.view_is)) c.requires.view refl
          (subst (λ (z : HeapShown × Op × Reply). CanRead z.0.opening.layout h.unit h.part q.part z.1 z.2)
          (λ j. (sym c.self.view_is j, sym c.requires.op j, sym c.requires.reply j)) c.requires.may)
          (ap (λ (z : HeapShown). are_clean (units_of z.opening.layout) h.clean) c.self.view_is ∙ c.requires.clean),
    )
