-- Numbers in decimal digits.
use Rattle.std.proofs.Common.{◌≡◌, ◌≢◌, ℕ, ◌+◌, ◌%◌, ◌^◌, ◌<◌, ◌≤◌, true, false, ◌==◌, MatchOption, Result, Ok, Err, List, [], length, get_or, sym, ap, ◌∙◌, arith, lit<, inl, inr, decimal}
use Rattle.std.specs.Result.{result_ok}
use Rattle.std.specs.Str.{all_ascii_digits}
use Rattle.std.specs.Str.Parse.{ParsesUnsigned, digits_value}
use Rattle.std.proofs.lemmas.Str.Parse.{IsNumeralModel, numerals_by_value, tells_all_ascii_digits, parse_plain}
use Rattle.std.proofs.lemmas.Fmt.{decimal_by_steps, decimal-digits_value, parse-decimal, length-decimal-le, first_decimal, decimal_digit, decimal_nonempty}
use Rattle.std.proofs.lemmas.List.Elements.{All-push, All-cons, All-nil}
use Rattle.std.proofs.lemmas.Bool.Decides.{nat_tests, Decides-eqb}
use Rattle.std.proofs.lemmas.Bool.{cases_eq}
use Rattle.job_text.specs.Parts.{Lacks, IsUnpadded}

own : IsNumeralModel (λ ds. all_ascii_digits ds ≡ true) (digits_value 10)
own = numerals_by_value (λ ds. all_ascii_digits ds ≡ true) tells_all_ascii_digits

-- such a word is parsed exactly where it is a number's
pub parsed_plain : {E : Type 0} (word : List ℕ) (r : Result ℕ E) → IsUnpadded word → ParsesUnsigned 64 10 word r
    → MatchOption (result_ok r) ((n : ℕ) → n < 2 ^ 64 → word ≢ decimal n) (λ n. (n < 2 ^ 64) × (word ≡ decimal n))
parsed_plain {E} word (Ok n) plain h =
    let p = parse_plain own {E = E} 64 word (Ok n) h plain.unsigned in
    let one : get_or word 0 0 ≡ 48 → length word ≡ 1 = λ z. omega (arith, p.0.1, plain.no_zero z) in
    let back : decimal (digits_value 10 word) ≡ word = decimal-digits_value own word p.0.0 p.0.1 one p.0.2 in
    let value : n ≡ digits_value 10 word = p.1 in
    (rw value p.0.2, sym back ∙ ap decimal (sym value))
parsed_plain {E} word (Err e) plain h = λ n small is.
    let r : ◌≡◌ {A = Result ℕ E} (Err e) (Ok n) = parse-decimal 64 n word (Err e) small small is h in
    cc

-- a byte that is no digit stands in no number
pub decimal_lacks : (byte n : ℕ) → byte < 48 → n < 2 ^ 64 → Lacks byte (decimal n)
decimal_lacks byte n low small =
    decimal_by_steps (λ m ds. Lacks byte ds)
    (λ m h. All-cons (λ b. (b == byte) ≡ false) (48 + m) [] (grind (arith, nat_tests)) (All-nil (λ b. (b == byte) ≡ false)))
    (λ m ds h more. All-push (λ b. (b == byte) ≡ false) ds (48 + m % 10) more (grind (arith, nat_tests)))
    n small

pub decimal_short : (n : ℕ) → n < 2 ^ 64 → length (decimal n) ≤ 20
decimal_short n small = length-decimal-le 20 n (omega arith) (omega arith) small

-- the text of a number begins with its greatest digit
pub decimal_plain : (n : ℕ) → n < 2 ^ 64 → IsUnpadded (decimal n)
decimal_plain n small =
    let some : 0 < length (decimal n) = decimal_nonempty n small in
    record {
      unsigned = λ sign.
          let lacks : (get_or (decimal n) 0 0 == 43) ≡ false = decimal_lacks 43 n (lit< tt) small 0 0 some in
          let is : (get_or (decimal n) 0 0 == 43) ≡ true = (Decides-eqb (get_or (decimal n) 0 0) 43).1 sign in
          cc;
      no_zero = λ zero.
          elim (cases_eq n 0) [
            | inl e ↦ rw (e, decimal_digit 0 (lit< tt)) (omega arith)
            | inr ne ↦ absurd
                (omega (arith, first_decimal n (omega arith) small))
          ];
    }
