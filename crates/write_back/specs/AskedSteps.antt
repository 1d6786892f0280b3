-- How often a gate was asked, by the steps that the seat counts.
use Rattle.std.specs.Prelude.{◌≡◌, ℕ, zero, suc, ◌+◌, Bool, true, false}

-- A gate was asked so many times, one after another, and let each step be made.
abbrev pub IsAskedTimes : {G : Type 0} → (G → G → Bool → Type 0) → ℕ → G → G → Type 0
IsAskedTimes asked zero g h = h ≡ g
IsAskedTimes {G} asked (suc n) g h = (i : G) × IsAskedTimes asked n g i × asked i h false

-- A call asked its gate once for each step of its seat, whose counts before and after are these.
-- Where the call was cut, the gate was asked once more, and cut.
pub record AsksEachStep {G : Type 0} (asked : G → G → Bool → Type 0) (first last : ℕ)
    (before after : G) (cut : Bool) : Type 0 where
  pub many : ℕ
  pub counted : last ≡ first + many
  pub passing : G
  pub steps : IsAskedTimes asked many before passing
  pub passed : cut ≡ false → after ≡ passing
  pub refused : cut ≡ true → asked passing after true
