-- What is counted of the effects of a history.
use Rattle.std.proofs.Common.{◌≡◌, ℕ, ◌+◌, List, [], ◌∷◌, ◌++◌, arith}
use Rattle.mont_base.specs.declared.effect.Effect.{Effect}
use Rattle.mont_base.specs.declared.operation.Entry.{Entry}
use Rattle.mont_base.specs.Counting.{sum_over}
use Rattle.mont_base.specs.History.{state_after}
use Rattle.mont_base.specs.State.{State, step}

-- one entry more
pub sum_more : (count : List Effect → ℕ) (s : State) (es : List Entry) (e : Entry)
    → sum_over count s (es ++ e ∷ []) ≡ sum_over count s es + count (step (state_after s es) e.op).effects
sum_more count s [] e = omega arith
sum_more count s (d ∷ es) e = let more = sum_more count (step s d.op).state es e in omega (arith, more)
