use Rattle.std.proofs.Common.{◌≡◌, ◌≢◌, ℕ, ◌^◌, ◌<◌, ◌≤◌, Bool, true, ◌&&◌, Result, Ok, Err, MatchResult, List, [], ◌∷◌, length, get_or, sym, ap, ◌∙◌, refl, arith, decimal, inl, inr}
use Rattle.std.specs.Char.{is_ascii_digit}
use Rattle.std.specs.Str.{all_ascii_digits, IsAscii}
use Rattle.std.specs.Str.Parse.{ParsesUnsigned, digits_value}
use Rattle.std.proofs.lemmas.Bool.{cases_lt}
use Rattle.std.proofs.lemmas.Str.{IsUtf8-from_ascii}
use Rattle.std.proofs.lemmas.Str.Parse.{IsNumeralModel, numerals_by_value, tells_all_ascii_digits, parse_plain}
use Rattle.std.proofs.lemmas.Fmt.{decimal-digits_value, IsAscii-from_digits}
use Rattle.refusal_help.specs.Numbers.{are_digits}
use Rattle.refusal_help.proofs.number_word.digits_number.Goals as goal

own : IsNumeralModel (λ ds. all_ascii_digits ds ≡ true) (digits_value 10)
own = numerals_by_value (λ ds. all_ascii_digits ds ≡ true) tells_all_ascii_digits

same_digits : (ds : List ℕ) → are_digits ds ≡ all_ascii_digits ds
same_digits [] = refl
same_digits (c ∷ cs) = ap (λ (b : Bool). is_ascii_digit c && b) (same_digits cs)

told : (word : List ℕ) → are_digits word ≡ true → all_ascii_digits word ≡ true
told word digits = sym (same_digits word) ∙ digits

ascii : (word : List ℕ) → are_digits word ≡ true → IsAscii word
ascii word digits = IsAscii-from_digits word (own.to word (told word digits))

-- a digit is no sign
no_sign : (word : List ℕ) → are_digits word ≡ true → 0 < length word → get_or word 0 0 ≢ 43
no_sign [] digits some = absurd (omega arith)
no_sign (c ∷ cs) digits some = λ sign.
    let range = (tells_all_ascii_digits.parts c cs (told (c ∷ cs) digits)).0 in
    omega (arith, range.0, range.1, sign)

read : {E : Type 0} (word : List ℕ) (r : Result ℕ E) → are_digits word ≡ true → 0 < length word → (get_or word 0 0 ≡ 48 → length word ≤ 1)
    → ParsesUnsigned 64 10 word r
    → MatchResult r (λ n. (n < 2 ^ 64) × (word ≡ decimal n)) (λ _. 2 ^ 64 ≤ digits_value 10 word)
read {E} word (Ok n) digits some plain h =
    let p = parse_plain own {E = E} 64 word (Ok n) h (no_sign word digits some) in
    let one : get_or word 0 0 ≡ 48 → length word ≡ 1 = λ z. omega (arith, p.0.1, plain z) in
    let back : decimal (digits_value 10 word) ≡ word = decimal-digits_value own word p.0.0 p.0.1 one p.0.2 in
    let value : n ≡ digits_value 10 word = p.1 in
    (rw value p.0.2, sym back ∙ ap decimal (sym value))
read {E} word (Err e) digits some plain h =
    let p = parse_plain own {E = E} 64 word (Err e) h (no_sign word digits some) in
    elim (cases_lt (digits_value 10 word) (2 ^ 64)) [
      | inl low ↦ absurd (p (told word digits, some, low))
      | inr high ↦ high
    ]

pub from_utf8_unchecked-text-requires : goal.from_utf8_unchecked-text-requires
from_utf8_unchecked-text-requires c = IsUtf8-from_ascii c.args.word.now (ascii c.args.word.now c.requires.digits)

pub returns-in-Ok : goal.returns-in-Ok
returns-in-Ok c =
    let parsed = rw c.from_utf8_unchecked-text.ensures at c.parse.ensures.value.0 in
    let known = read c.args.word.now c.parse.result c.requires.digits c.requires.some c.requires.plain parsed in
    rw c.in-Ok.is at known

pub returns-in-Err : goal.returns-in-Err
returns-in-Err c =
    let parsed = rw c.from_utf8_unchecked-text.ensures at c.parse.ensures.value.0 in
    let known = read c.args.word.now c.parse.result c.requires.digits c.requires.some c.requires.plain parsed in
    (c.requires.digits, rw c.in-Err.is at known)
