-- How far a unit and the advancer are.
use Rattle.std.specs.Prelude.{ℕ, Bool, true, false, ◌||◌, ◌==◌, List, [], ◌∷◌, Option, Some, None, is_none}
use Rattle.core_steps.specs.declared.parts.UnitPart.{UnitPart}
use Rattle.core_steps.specs.declared.parts.UnitStage.{UnitStage}
use Rattle.core_steps.specs.declared.parts.UnitStage.TheVariants.{Idle, Told, Within, Closing}
use Rattle.core_steps.specs.declared.parts.AdvPart.{AdvPart}
use Rattle.core_steps.specs.declared.parts.AdvPart.TheVariants.{Rest, Checking, Flushing, Holding, Clocked}

-- ---- a unit
abbrev pub is_idle : UnitStage → Bool
is_idle Idle = true
is_idle _ = false

abbrev pub is_told : UnitStage → Bool
is_told (Told e) = true
is_told _ = false

abbrev pub is_within : UnitStage → Bool
is_within (Within e) = true
is_within _ = false

-- an epoch is announced
abbrev pub is_announced : UnitStage → Bool
is_announced stage = is_told stage || is_within stage

-- the announced epoch, and 0 where none is
abbrev pub epoch_of : UnitStage → ℕ
epoch_of (Told e) = e
epoch_of (Within e) = e
epoch_of _ = 0

-- the epoch that the unit is within, if it is within one
abbrev pub epoch_within : UnitStage → Option ℕ
epoch_within (Within e) = Some e
epoch_within _ = None

-- the slot is the one that is being closed
abbrev pub is_closing : UnitStage → ℕ → Bool
is_closing (Closing s) slot = slot == s
is_closing _ slot = false

-- the slot that is being closed, if one is
abbrev pub closing_slot : UnitStage → Option ℕ
closing_slot (Closing slot) = Some slot
closing_slot _ = None

-- Nothing of a unit has an epoch above this, where the clock shows now.
abbrev pub limit_of : ℕ → UnitStage → ℕ
limit_of now (Within e) = e
limit_of now _ = now

-- a unit in which a caller was cut makes no step
abbrev pub is_unfrozen : UnitPart → Bool
is_unfrozen p = is_none p.frozen

abbrev pub is_empty : {A : Type 0} → List A → Bool
is_empty [] = true
is_empty (x ∷ xs) = false

-- ---- the advancer, seen in two ways: whether an advance is under way, and how many of n units it
-- has passed
pub data Phase : Type 0 where
  Resting : Phase
  UnderWay : Phase
  Ahead : Phase

abbrev pub phase_of : AdvPart → Phase
phase_of Rest = Resting
phase_of (Checking j) = UnderWay
phase_of (Flushing done field) = UnderWay
phase_of (Holding done field value) = UnderWay
phase_of Clocked = Ahead

abbrev pub passed_of : ℕ → AdvPart → ℕ
passed_of n Rest = 0
passed_of n (Checking j) = j
passed_of n (Flushing done field) = n
passed_of n (Holding done field value) = n
passed_of n Clocked = 0
