-- What one question to a gate tells, and what many tell.
use Rattle.std.specs.Prelude.{◌≡◌, ℕ, ◌≤◌, Bool, true, false, is_err}
use Rattle.std.specs.declared.result.Result.{Result}
use Rattle.mont_base.specs.declared.gate.Cut.{Cut}
use Rattle.mont_base.specs.Faults.{Rose, HasCause}

-- the gate before and after, and what the call answered
module _ {G T : Type 0} (cuts : G → ℕ) (endless : G → Bool) (asked : G → G → Bool → Type 0) where
  pub record IsAskedOnce (old new : G) (result : Result T Cut) : Type 0 where
    pub asks : asked old new (is_err result)
    pub cause : HasCause (cuts old) (cuts new) result
    pub same : endless new ≡ endless old
    pub passes : endless old ≡ true → is_err result ≡ false

-- a call that asks before each of its steps, and whether the gate cut it
module _ {G : Type 0} (cuts : G → ℕ) (endless : G → Bool) where
  pub record IsAskedOften (old new : G) (cut : Bool) : Type 0 where
    -- the count of cuts never falls
    pub later : cuts old ≤ cuts new
    -- a call that wasn't cut counted no cut
    pub kept : cut ≡ false → cuts new ≡ cuts old
    -- a cut is counted
    pub counted : cut ≡ true → Rose (cuts old) (cuts new)
    pub same : endless new ≡ endless old
    pub passes : endless old ≡ true → cut ≡ false
