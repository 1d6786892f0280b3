-- What is said of words, of the line that has them.
use Rattle.std.proofs.Common.{◌≡◌, ℕ, Option, Some, None, Result, Ok, Err, IfOk, MatchOption, List, subst, inr}
use Rattle.refusal_help.specs.declared.cause.Cause.{Cause}
use Rattle.refusal_help.specs.LineBytes.{IsClean}
use Rattle.refusal_help.specs.Lines.{words_of}
use Rattle.refusal_help.specs.Judged.{IsSoundBy, IsCauseBy}

pub judged_words : (Are : List (List ℕ) → Type 0) (Is : List (List ℕ) → Cause → Type 0) (line : List ℕ) (words : List (List ℕ))
    (cause : Option Cause) → IsClean line → words ≡ words_of line → MatchOption cause (Are words) (λ c. Is words c)
    → MatchOption cause (IsSoundBy Are line) (λ c. IsCauseBy Is line c)
judged_words Are Is line words None clean same h = (clean, subst Are same h)
judged_words Are Is line words (Some c) clean same h = inr (clean, subst (λ (ws : List (List ℕ)). Is ws c) same h)

pub judged_line : {E : Type 0} (Are : List (List ℕ) → Type 0) (Is : List (List ℕ) → Cause → Type 0) (line : List ℕ)
    (words : List (List ℕ)) (r : Result (Option Cause) E) → IsClean line → words ≡ words_of line
    → IfOk r (λ cause. MatchOption cause (Are words) (λ c. Is words c))
    → IfOk r (λ cause. MatchOption cause (IsSoundBy Are line) (λ c. IsCauseBy Is line c))
judged_line {E} Are Is line words (Ok cause) clean same h = judged_words Are Is line words cause clean same h
judged_line {E} Are Is line words (Err e) clean same h = tt
