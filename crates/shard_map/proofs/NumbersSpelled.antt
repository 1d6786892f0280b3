-- Digits that are read one by one, modulo 2^64.
use Rattle.std.proofs.Common.{◌≡◌, ℕ, ◌+◌, ◌-◌, ◌*◌, ◌%◌, ◌^◌, ◌<◌, true, List, sym, ap, ◌∙◌, rules, take, get_or, length}
use Rattle.std.specs.List.{fold}
use Rattle.std.specs.Str.{all_ascii_digits}
use Rattle.std.specs.Fmt.{decimal}
use Rattle.std.proofs.Math.Nat.{mod-add-mod, mod-eq_of_lt}
use Rattle.std.proofs.lemmas.Nat.{mul-mod_first}
use Rattle.std.proofs.lemmas.List.Sums.{fold_more}
use Rattle.std.proofs.lemmas.Str.Parse.{IsNumeralModel, numerals_by_fold}
use Rattle.std.proofs.lemmas.Fmt.{digits_value-decimal}
use Rattle.shard_map.specs.NumberTexts.{number_spelled}

own : IsNumeralModel (λ ds. all_ascii_digits ds ≡ true) number_spelled
own = numerals_by_fold _ (search rules) (λ n ds. fold (λ number digit. number * 10 + (digit - 48)) n ds) (search rules)

pub spelled-decimal : (n : ℕ) → n < 2 ^ 64 → number_spelled (decimal n) ≡ n
spelled-decimal n small = digits_value-decimal own n small

-- a step modulo m is a step of the number, modulo m
pub step_mod : (s d m : ℕ) → (s % m * 10 % m + d) % m ≡ (s * 10 + d) % m
step_mod s d m =
    ap (λ r. (r + d) % m) (mul-mod_first s 10 m) ∙ mod-add-mod (s * 10) m d

pub spelled_more : (digits : List ℕ) (i n d : ℕ) → i < length digits → n ≡ number_spelled (take i digits) % 2 ^ 64
    → d ≡ get_or digits i 0 - 48 → (n * 10 % 2 ^ 64 + d) % 2 ^ 64 ≡ number_spelled (take (i + 1) digits) % 2 ^ 64
spelled_more digits i n d within is digit =
    ap (λ r. (r * 10 % 2 ^ 64 + d) % 2 ^ 64) is ∙ step_mod (number_spelled (take i digits)) d (2 ^ 64)
    ∙ ap (λ r. (number_spelled (take i digits) * 10 + r) % 2 ^ 64) digit
    ∙ ap (λ r. r % 2 ^ 64) (sym (fold_more (λ number digit. number * 10 + (digit - 48)) 0 digits i 0 within))

-- what was read of a number's digits is the number
pub spelled_all : (digits : List ℕ) (r n : ℕ) → r ≡ number_spelled digits % 2 ^ 64 → n < 2 ^ 64 → digits ≡ decimal n → r ≡ n
spelled_all digits r n is small e =
    is ∙ ap (λ ds. number_spelled ds % 2 ^ 64) e ∙ ap (λ m. m % 2 ^ 64) (spelled-decimal n small) ∙ mod-eq_of_lt small
