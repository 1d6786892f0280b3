use Rattle.std.proofs.Common.{ℕ, ◌+◌, ◌-◌, ◌^◌, min, ap, ◌∙◌}
use Rattle.job_text.proofs.Saturated.{count_more, none_first, one_first}
use Rattle.job_text.proofs.ranks.texts_behind.Goals as goal

pub loop-room-init : goal.loop-room-init
loop-room-init c = (one_first, none_first c.args.text.now c.requires.short)

pub loop-room-preserved : goal.loop-room-preserved
loop-room-preserved c = (
  count_more c.loop-room.room _ _ c.loop-room.invariant.0
      (c.saturating_add-count.ensures ∙ ap (λ (n : ℕ). min (n + 1) (2 ^ 64 - 1)) c.saturating_mul.ensures),
  c.behind_with-behind.ensures,
)
