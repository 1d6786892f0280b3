-- Decimal digits, from the last to the first.
use Rattle.std.proofs.Common.{◌≡◌, ℕ, ◌+◌, ◌-◌, ◌/◌, ◌%◌, ◌^◌, ◌<◌, ◌≤◌, List, [], ◌∷◌, ◌++◌, length, drop, set, refl, sym, ap, ◌∙◌, arith, ⊎_elim, length-append, length-drop, append_assoc}
use Rattle.std.specs.Fmt.{decimal}
use Rattle.std.proofs.Math.Nat.{mod-eq_of_lt}
use Rattle.std.proofs.lemmas.Bool.{cases_lt, lt-ltb, le-ltb}
use Rattle.std.proofs.lemmas.Fmt.{decimal_digit, decimal_step, decimal_nonempty, length-decimal-le}
use Rattle.std.proofs.lemmas.List.{drop-set}
use Rattle.mont_base.specs.TextDigits.{front_digits}

no_front : (n : ℕ) → n < 10 → front_digits n ≡ []
no_front n h = rw (lt-ltb n 10 h) refl

some_front : (n : ℕ) → 10 ≤ n → front_digits n ≡ decimal (n / 10)
some_front n h = rw (le-ltb n 10 h) refl

-- a number's digits are those in front and the last one
pub decimal_split : (n d : ℕ) → n < 2 ^ 64 → d ≡ 48 + n % 10 → decimal n ≡ front_digits n ++ d ∷ []
decimal_split n d fits is = ⊎_elim
    (λ (h : n < 10). decimal_digit n h ∙ (λ i. sym (no_front n h) i ++ (ap (λ (m : ℕ). 48 + m) (sym (mod-eq_of_lt h)) ∙ sym is) i ∷ []))
    (λ (h : 10 ≤ n). decimal_step n h fits ∙ (λ i. sym (some_front n h) i ++ sym is i ∷ []))
    (cases_lt n 10)

module _
    (number n at d : ℕ) (digits : List ℕ) (fits : number < 2 ^ 64) (fit : n < 2 ^ 64) (more : 10 ≤ n) (long : length digits ≡ 20)
    (inside : at < 20) (written : decimal number ≡ front_digits n ++ drop at digits) where
  -- there is a place for one more digit
  pub place_left : 1 ≤ at
  place_left =
      let all : length (decimal number) ≤ 20 = length-decimal-le 20 number (omega arith) (omega arith) fits in
      let some : 0 < length (decimal (n / 10)) = decimal_nonempty (n / 10) (omega arith) in
      let parts : length (decimal number) ≡ length (decimal (n / 10)) + (20 - at) =
      ap length (written ∙ ap (λ (ds : List ℕ). ds ++ drop at digits) (some_front n more))
      ∙ omega (arith, length-append (decimal (n / 10)) (drop at digits), length-drop at digits, long) in
      omega arith

  pub digit_more : d ≡ 48 + n / 10 % 10 → decimal number ≡ front_digits (n / 10) ++ drop (at - 1) (set digits (at - 1) d)
  digit_more is =
      let here : at - 1 + 1 ≡ at = (let p = place_left in omega arith) in
      let behind : drop (at - 1) (set digits (at - 1) d) ≡ d ∷ drop at digits =
      drop-set digits (at - 1) d (omega arith) ∙ ap (λ (k : ℕ). d ∷ drop k digits) here in
      written
      ∙ ap (λ (ds : List ℕ). ds ++ drop at digits) (some_front n more ∙ decimal_split (n / 10) d (omega arith) is)
      ∙ append_assoc (front_digits (n / 10)) (d ∷ []) (drop at digits)
      ∙ ap (λ (ds : List ℕ). front_digits (n / 10) ++ ds) (sym behind)
