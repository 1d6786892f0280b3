use Rattle.std.proofs.Common.{◌≡◌, ◌<◌, ◌≤◌, ℕ, ◌+◌, ◌-◌, ◌*◌, ◌^◌, min, length, ap, ◌∙◌, arith}
use Rattle.mont_base.specs.declared.constants.TheConstants.{TEXT_BYTES}
use Rattle.job_text.proofs.Saturated.{byte_more, none_more}
use Rattle.job_text.proofs.ranks.behind_with.Goals as goal

pub returns-then-at-len : goal.returns-then-at-len
returns-then-at-len c =
    let low : c.args.room < TEXT_BYTES = c.requires.low in
    let place : (TEXT_BYTES - 1 - c.args.room) + 1 + c.args.room ≡ TEXT_BYTES = omega arith in
    let within : TEXT_BYTES - 1 - c.args.room < length c.args.text.now = omega (arith, c.if-at-len.true, c.len.ensures.value) in
    byte_more c.args.text.now c.args.room c.args.count c.args.behind (TEXT_BYTES - 1 - c.args.room) c.byte.result _ c.requires.count
    c.requires.behind place within c.byte.ensures
    (c.saturating_add.ensures
    ∙ ap (λ (n : ℕ). min (n + c.args.behind) (2 ^ 64 - 1))
    (c.saturating_mul.ensures ∙ ap (λ (n : ℕ). min (c.args.count * (255 - n)) (2 ^ 64 - 1)) c.from-above.ensures))

pub returns-else-at-len : goal.returns-else-at-len
returns-else-at-len c =
    let low : c.args.room < TEXT_BYTES = c.requires.low in
    let place : (TEXT_BYTES - 1 - c.args.room) + 1 + c.args.room ≡ TEXT_BYTES = omega arith in
    let past : length c.args.text.now ≤ TEXT_BYTES - 1 - c.args.room = omega (arith, c.if-at-len.false, c.len.ensures.value) in
    none_more c.args.text.now c.args.room c.args.count (TEXT_BYTES - 1 - c.args.room) _ c.requires.count place past
    c.saturating_mul-else-at-len.ensures
