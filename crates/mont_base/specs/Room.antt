-- How many slots of a unit are in use, told from its history alone.
use Rattle.std.specs.Prelude.{◌≡◌, ℕ, ◌+◌, ◌-◌, ◌<◌, nat_lt, List, [], ◌∷◌, sum_by, if◌then◌else◌}
use Rattle.mont_base.specs.declared.operation.Entry.{Entry}
use Rattle.mont_base.specs.declared.effect.Effect.{Effect}
use Rattle.mont_base.specs.declared.effect.Effect.TheVariants.{Inserts, Replaces, Removes}
use Rattle.mont_base.specs.State.{State, step, size_of}
use Rattle.mont_base.specs.History.{state_after}

-- How many slots an effect retires: the version that it replaces or removes, and an anti-payload
-- itself.
abbrev pub retires : Effect → ℕ
retires (Inserts thing) = 0
retires (Replaces thing) = 1
retires (Removes thing) = 2

-- how many slots were retired with an epoch above x - 2
abbrev pub retired_late : ℕ → State → List Entry → ℕ
retired_late x s [] = 0
retired_late x s (e ∷ es) =
    (if nat_lt x (e.epoch + 2) then sum_by retires (step s e.op).effects else 0) + retired_late x
    (step s e.op).state es

-- the slots in use after a history, where what was retired up to epoch x - 2 is closed
abbrev pub used_slots : State → List Entry → ℕ → ℕ
used_slots base h x = size_of (state_after base h) + retired_late x base h

-- the slots that are then free
abbrev pub room_of : ℕ → State → List Entry → ℕ → ℕ
room_of slots base h x = slots - used_slots base h x

-- so many slots were needed, and so many were free, which are fewer
pub record LacksRoom (needed room need free : ℕ) : Type 0 where
  pub as_needed : needed ≡ need
  pub as_free : room ≡ free
  pub few : free < need
