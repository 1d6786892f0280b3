use Rattle.std.proofs.Common.{◌≡◌, ℕ, ◌+◌, max, take, sym, ap, ◌∙◌, arith}
use Rattle.std.proofs.lemmas.List.Sums.{fold_more}
use Rattle.job_text.specs.declared.outcome.Outcome.{Outcome}
use Rattle.report_drawing.specs.Lanes.{shown_of, outcome_shown, reached, told_epoch}
use Rattle.report_drawing.proofs.Lists.{placed_more, placed_all}
use Rattle.report_drawing.proofs.Epochs.{outcome_at}
use Rattle.report_drawing.proofs.lanes.caller_cells.Goals as goal

pub loop-outcome-preserved : goal.loop-outcome-preserved
loop-outcome-preserved c =
    let r = c.args.report.now in
    let os = c.args.outcomes.now in
    let i = c.loop-outcome.outcome-index in
    let now : c.max-reached.result ≡ reached r.base_clock r.histories (take (i + 1) os) =
    c.max-reached.ensures
    ∙ ap (λ epoch. max epoch c.told_epoch.result) c.loop-outcome.invariant.0
    ∙ ap (λ told. max (reached r.base_clock r.histories (take i os)) told)
    c.told_epoch.ensures
    ∙ sym (fold_more (λ epoch o. max epoch (told_epoch r.histories o)) r.base_clock os i _ (omega arith)) in (
      now,
      placed_more shown_of (λ (p : ℕ × Outcome). outcome_shown r.image_clock
          (reached r.base_clock r.histories (take (p.0 + 1) os)) p.1) os i _ _ _ _ (omega arith) c.in_ok-push.ensures.items
          (outcome_at r.image_clock _ _ _ _ c.in_ok-outcome_cell.ensures now)
          c.loop-outcome.invariant.1,
    )

pub returns : goal.returns
returns c =
    let r = c.args.report.now in
    let os = c.args.outcomes.now in
    placed_all (λ (p : ℕ × Outcome). outcome_shown r.image_clock
    (reached r.base_clock r.histories (take (p.0 + 1) os)) p.1) os c.loop-outcome.outcome-index _ (omega arith)
    c.loop-outcome.invariant.1
