-- What contracts see of a list of slots.
use Rattle.std.specs.Prelude.{ℕ, List}

-- the slots, and how many of them there is room for
pub record Roomy : Type 0 where
  pub slots : List ℕ
  pub room : ℕ
