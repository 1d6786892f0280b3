use Rattle.std.proofs.Common.{◌<◌, ◌∷◌, [], ◌++◌, length, sym, ◌∙◌, subst}
use Rattle.std.proofs.lemmas.Option.{get_or_from_slice_get}
use Rattle.core_steps.proofs.RowFacts.{item_at}
use Rattle.store_stop.proofs.Items.{take_next}
use Rattle.store_stop.proofs.told_histories.told_histories.Goals as goal

pub loop-unit-preserved : goal.loop-unit-preserved
loop-unit-preserved c histories count tell =
    let n = c.loop-unit.unit in
    let inside : n < length histories = subst (λ (k : _). n < k) (sym count) c.loop-unit-test.true in
    let h = item_at histories n inside in
    let told = c.in_ok-told_history.ensures h.0 (tell n h.0 h.1) in
    c.in_ok-push.ensures.ok ∙ ((λ i. c.loop-unit.invariant histories count tell i ++ told i ∷ [])
    ∙ sym (take_next histories n h.0 inside (sym (get_or_from_slice_get histories n h.0 h.0 h.1))))
