use Rattle.std.proofs.Common.{sym, ◌∙◌}
use Rattle.std.proofs.lemmas.Bool.Decides.{Decides-eqb}
use Rattle.plain.proofs.Order.{order_of_parts, tells_from_order, callers_from_order, fit_from_order}
use Rattle.plain.proofs.callers.is_callers_order.Goals as goal
use Rattle.plain.proofs.callers.is_callers_order.Goals.{then-views-receipts, else-views-receipts}

pub returns-then-tell_histories : goal.returns-then-tell_histories
returns-then-tell_histories c = elim c.if-views-receipts.branch [
  | then-views-receipts w ↦ (
    λ t.
        order_of_parts c.args.histories.now c.args.receipts.now c.args.views.now w.if-views-receipts.true
        (w.tell_histories.ensures.0 (sym w.value-is ∙ c.if-tell_histories.true)) (c.all_fit.ensures.0 t),
    λ h. c.all_fit.ensures.1 (fit_from_order c.args.histories.now c.args.receipts.now c.args.views.now h),
  )
  | else-views-receipts w ↦ absurd (w.if-views-receipts.false ((Decides-eqb _ _).0 (sym w.value-is ∙ c.if-tell_histories.true)))
]

pub returns-else-tell_histories : goal.returns-else-tell_histories
returns-else-tell_histories c = elim c.if-views-receipts.branch [
  | then-views-receipts w ↦ (
    λ t. absurd (cc),
    λ h. w.value-is ∙ w.tell_histories.ensures.1 (tells_from_order c.args.histories.now c.args.receipts.now c.args.views.now h),
  )
  | else-views-receipts w ↦ (
    λ t. absurd (cc),
    λ h. absurd (w.if-views-receipts.false (callers_from_order c.args.histories.now c.args.receipts.now c.args.views.now h)),
  )
]
