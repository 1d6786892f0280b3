-- Which map unit keeps an account, and that a shift goes to another.
use Rattle.std.proofs.Common.{◌≡◌, ◌≢◌, ℕ, zero, suc, ◌+◌, ◌%◌, ◌<◌, [], ◌∷◌, Some, sym, ap, ◌∙◌, refl, arith}
use Rattle.std.proofs.lemmas.Fmt.{decimal_digit}
use Rattle.std.proofs.lemmas.Option.{same_Some}
use Rattle.mont_base.specs.Layout.{unit_of_key}
use Rattle.bank_job.specs.Bank.{account, bank_layout}

unit_of_digit : (number : ℕ) → number < 8 → unit_of_key bank_layout ((48 + number) ∷ []) ≡ Some (number % 4)
unit_of_digit zero low = refl
unit_of_digit (suc zero) low = refl
unit_of_digit (suc (suc zero)) low = refl
unit_of_digit (suc (suc (suc zero))) low = refl
unit_of_digit (suc (suc (suc (suc zero)))) low = refl
unit_of_digit (suc (suc (suc (suc (suc zero))))) low = refl
unit_of_digit (suc (suc (suc (suc (suc (suc zero)))))) low = refl
unit_of_digit (suc (suc (suc (suc (suc (suc (suc zero))))))) low = refl
unit_of_digit (suc (suc (suc (suc (suc (suc (suc (suc n)))))))) low = absurd (omega arith)

pub unit_of_account : (number : ℕ) → number < 8 → unit_of_key bank_layout (account number) ≡ Some (number % 4)
unit_of_account number low = ap (unit_of_key bank_layout) (decimal_digit number (omega arith)) ∙ unit_of_digit number low

pub units_differ : (from near : ℕ) → from < 8 → near < 3
    → unit_of_key bank_layout (account from) ≢ unit_of_key bank_layout (account ((from + 1 + near) % 8))
units_differ from near low close same =
    let to = (from + 1 + near) % 8 in
    let within : to < 8 = omega arith in
    let e : from % 4 ≡ to % 4 = same_Some (from % 4) (to % 4) (sym (unit_of_account from low) ∙ same ∙ unit_of_account to within) in
    omega (arith, e)
