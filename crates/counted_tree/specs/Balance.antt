-- How many items the two sides of a node may have: with one more on each side, neither more than
-- three times as many as the other.
use Rattle.std.specs.Prelude.{◌≡◌, ℕ, ◌+◌, ◌*◌, ◌≤◌, List, ◌∷◌, ◌++◌, length}

pub record IsBalanced (left right : ℕ) : Type 0 where
  pub left_light : left + 1 ≤ 3 * (right + 1)
  pub right_light : right + 1 ≤ 3 * (left + 1)

-- so it is once one of them has an item more or less
pub record IsNearlyBalanced (left right : ℕ) : Type 0 where
  pub left_light : left + 1 ≤ 3 * (right + 1) + 3
  pub right_light : right + 1 ≤ 3 * (left + 1) + 3

-- a list that is an item between two others, which are balanced
pub record IsForked {T : Type 0} (whole left : List T) (item : T) (right : List T) : Type 0 where
  pub parts : whole ≡ left ++ item ∷ right
  pub balanced : IsBalanced (length left) (length right)
