-- Numbers that stand in texts.
use Rattle.std.specs.Prelude.{◌≡◌, ℕ, ◌+◌, ◌-◌, ◌*◌, ◌^◌, ◌<◌, List, decimal}
use Rattle.std.specs.List.{fold}

-- the text is the digits of a number that a word may hold
pub record IsNumberText (text : List ℕ) (number : ℕ) : Type 0 where
  pub is : text ≡ decimal number
  pub short : number < 2 ^ 64

-- the number that bytes spell as digits, that of the highest place first
abbrev pub number_spelled : List ℕ → ℕ
number_spelled digits = fold (λ number digit. number * 10 + (digit - 48)) 0 digits
