-- The numbers under two keys, and those that are there once an amount has gone from one to the
-- other.
use Rattle.std.specs.Prelude.{◌≡◌, ℕ, ◌+◌, ◌^◌, ◌<◌, ◌≤◌, ◌⊎◌, Bool, true, false, Option, Some, None}
use Rattle.mont_base.specs.State.{Key, Value}
use Rattle.shard_map.specs.declared.shift_refusal.ShiftRefusal.{ShiftRefusal}
use Rattle.shard_map.specs.declared.shift_refusal.ShiftRefusal.TheVariants.{Missing, Short, Over}
use Rattle.shard_map.specs.NumberTexts.{IsNumberText}

-- ---- two sides, those of `from` and of `to`, and which of them is of the lower unit
abbrev pub of_low : {A : Type 0} → Bool → A × A → A
of_low true sides = sides.0
of_low false sides = sides.1

abbrev pub of_high : {A : Type 0} → Bool → A × A → A
of_high true sides = sides.1
of_high false sides = sides.0

-- ---- numbers under keys
abbrev pub IsNumber : Option Value → ℕ → Type 0
IsNumber None n = ⊥
IsNumber (Some value) n = IsNumberText value n

abbrev pub HasNumber : Option Value → Type 0
HasNumber value = (n : ℕ) × IsNumber value n

abbrev pub HasNoNumber : Option Value → Type 0
HasNoNumber value = (n : ℕ) → IsNumber value n → ⊥

-- ---- moved
-- why the amount can't go from the value under a key to that under another
abbrev pub CannotMove : Key → Key → Option Value → Option Value → ℕ → ShiftRefusal → Type 0
CannotMove from to out into amount (Missing key) =
    ((key ≡ from) × HasNoNumber out) ⊎ ((key ≡ to) × HasNumber out × HasNoNumber into)
CannotMove from to out into amount (Short have) =
    IsNumber out have × HasNumber into × (have < amount)
CannotMove from to out into amount (Over have) =
    ((n : ℕ) × IsNumber out n × (amount ≤ n)) × IsNumber into have × (2 ^ 64 ≤ have + amount)
CannotMove from to out into amount _ = ⊥

-- these numbers are under both keys once the amount has gone
pub record AreMoved (out into : Option Value) (amount : ℕ) (numbers : ℕ × ℕ) : Type 0 where
  pub less : IsNumber out (numbers.0 + amount)
  pub had : ℕ
  pub into_what : IsNumber into had
  pub more : numbers.1 ≡ had + amount
  pub fits : numbers.1 < 2 ^ 64
