-- Steps from place to place in a ring.
use Rattle.std.proofs.Common.{◌≡◌, ℕ, ◌+◌, ◌<◌, ◌≤◌, arith}
use Rattle.std.proofs.lemmas.Bool.Decides.{nat_tests}
use Rattle.index_kit.specs.Ring.{steps, place_behind}

module _ (n : ℕ) where
  pub steps-lt : (a b : ℕ) → a < n → b < n → steps n a b < n
  unfolding steps
  steps-lt a b ha hb = grind (arith, nat_tests)

  pub steps-self : (a : ℕ) → steps n a a ≡ 0
  unfolding steps
  steps-self a = grind (arith, nat_tests)

  -- from one place, only one is so many steps on
  pub steps-same : (a b c : ℕ) → a < n → b < n → c < n → steps n a b ≡ steps n a c → b ≡ c
  unfolding steps
  steps-same a b c ha hb hc e = grind (arith, nat_tests)

  pub place_behind-lt : (a : ℕ) → a < n → place_behind n a < n
  place_behind-lt a h = grind (arith, nat_tests)

  -- the place after is one step further on, or where the steps began
  pub steps-behind : (a b : ℕ) → a < n → b < n → steps n a b + 1 < n → steps n a (place_behind n b) ≡ steps n a b + 1
  unfolding steps
  steps-behind a b ha hb h = grind (arith, nat_tests)

  pub steps-behind-le : (a b : ℕ) → a < n → b < n → steps n a (place_behind n b) ≤ steps n a b + 1
  unfolding steps
  steps-behind-le a b ha hb = grind (arith, nat_tests)

  -- steps on the way add up
  pub steps-left : (a b c : ℕ) → a < n → b < n → c < n → steps n a b ≤ steps n a c → steps n a b + steps n b c ≡ steps n a c
  unfolding steps
  steps-left a b c ha hb hc h = grind (arith, nat_tests)

  pub steps-sum : (a b c : ℕ) → a < n → b < n → c < n → steps n a b + steps n b c < n → steps n a b + steps n b c ≡ steps n a c
  unfolding steps
  steps-sum a b c ha hb hc h = grind (arith, nat_tests)

  -- places between two others stay between them wherever the steps begin
  pub steps-between :
      (a b x y z : ℕ) → a < n → b < n → x < n → y < n → z < n → steps n a x < steps n a y → steps n a y < steps n a z
      → steps n b x < steps n b z
      → (steps n b x < steps n b y) × (steps n b y < steps n b z)
  steps-between a b x y z ha hb hx hy hz xy yz xz =
      let y_on = steps-left a x y ha hx hy (omega arith) in
      let z_on = steps-left a x z ha hx hz (omega arith) in
      let z_too = steps-left b x z hb hx hz (omega arith) in
      let z_short = steps-lt b z hb hz in
      let y_too = steps-sum b x y hb hx hy (omega arith) in
      (omega arith, omega arith)
