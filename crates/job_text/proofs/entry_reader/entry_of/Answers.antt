use Rattle.std.proofs.Common.{◌<◌, ◌^◌, [], ◌∷◌, inl, inr, refl, sym, ◌∙◌, arith}
use Rattle.job_text.proofs.AnswerWords.{entry_parts, four_numbers, leading_numbers}
use Rattle.job_text.proofs.entry_reader.entry_of.Goals as goal

pub returns-in_err-own : goal.returns-in_err-own
returns-in_err-own c =
    rw c.from_residual.ensures
    (λ p spelled words.
    let e = p.0 in
    let is = spelled.0 in
    let low = is.caller in
    c.in_err-own.ensures (c.args.place ∷ e.caller ∷ e.call ∷ e.epoch ∷ []) refl
    (four_numbers c.args.place e.caller e.call e.epoch c.ranges.place.fits
    (let few : c.args.callers < 2 ^ 64 = c.ranges.callers.fits in omega arith) is.call is.epoch)
    (entry_parts c.args.words.now _ _ _ _ _ words).0)

pub returns-else-own-place : goal.returns-else-own-place
returns-else-own-place c = λ p spelled words.
    let e = p.0 in
    let is = spelled.0 in
    let low = is.caller in
    let few : c.args.callers < 2 ^ 64 = c.ranges.callers.fits in
    let parts = leading_numbers c.in_ok-own.field-0 c.args.place e.caller e.call e.epoch 0 0 c.in_ok-own.ensures.1
    (sym c.in_ok-own.ensures.2 ∙ (entry_parts c.args.words.now _ _ _ _ _ words).0) c.ranges.place.fits (omega arith) in
    elim c.else-own-place.either [
      | inl h ↦ let high = h.1 in let caller = parts.1 in omega arith
      | inr h ↦ h parts.0
    ]
