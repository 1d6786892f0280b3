-- What a registration, or a try of one, leaves of a unit's seat.
use Rattle.std.specs.Prelude.{◌≡◌, ◌≢◌, ℕ, ◌+◌, ◌≤◌, Bool, true, false, ◌||◌, Err}
use Rattle.std.specs.declared.result.Result.{Result}
use Rattle.core_steps.specs.declared.parts.UnitStage.{UnitStage}
use Rattle.core_steps.specs.declared.parts.UnitStage.TheVariants.{Told, Within}
use Rattle.core_steps.specs.Announcing.{confirmed}
use Rattle.core_steps.specs.Stages.{is_idle, is_told}
use Rattle.heap_rule.specs.declared.views.UnitKnown.{UnitKnown}
use Rattle.heap_rule.specs.Plays.{IsClock}
use Rattle.heap.specs.HeapShown.{UnitShown}
use Rattle.announce.specs.declared.register_refusal.RegisterRefusal.{RegisterRefusal}
use Rattle.announce.specs.declared.register_refusal.RegisterRefusal.TheVariants.{Moved, Cut}

-- the same unit at a stage, when it has made so many steps and has loaded this word last
abbrev pub at_stage : UnitKnown → UnitStage → ℕ → ℕ → UnitKnown
at_stage h stage steps loaded =
    record h { part = record h.part { stage = stage }; steps = steps; loaded = loaded }

-- A seat before and after: the unit came to this stage, and nothing else of it changed.
abbrev pub Comes : UnitShown → UnitShown → UnitStage → ℕ → ℕ → Type 0
Comes old new stage steps loaded =
    new ≡ record { table = old.table; known = at_stage old.known stage steps loaded }

-- ---- one try: an epoch was announced, and then the clock showed this
abbrev pub HasTried : UnitShown → UnitShown → ℕ → ℕ → Type 0
HasTried old new epoch clock =
    Comes old new (confirmed clock (Told epoch)) (old.known.steps + 2) clock

-- ---- registrations
-- The clock was loaded before the epoch was announced and again after that, and showed it.
pub record IsRegistered (old new : UnitShown) (epoch : ℕ) : Type 0 where
  pub within : Comes old new (Within epoch) new.known.steps epoch
  pub steps : old.known.steps + 3 ≤ new.known.steps

-- not registered: at most an epoch is announced
pub record IsOut (old new : UnitShown) : Type 0 where
  pub only : Comes old new new.known.part.stage new.known.steps new.known.loaded
  pub out : (is_idle new.known.part.stage || is_told new.known.part.stage) ≡ true

-- ---- at an epoch that was asked for
pub record IsRegisteredAt (old new : UnitShown) (epoch : ℕ) : Type 0 where
  pub within : Comes old new (Within epoch) (old.known.steps + 2) epoch
  pub clock : IsClock old.known.learnt old.known.part epoch

-- the clock that was loaded is another, and the unit is as it was
pub record HasMoved (old new : UnitShown) (epoch clock : ℕ) : Type 0 where
  pub as_before : Comes old new old.known.part.stage (old.known.steps + 3) clock
  pub other : clock ≢ epoch
  pub is_clock : IsClock old.known.learnt old.known.part clock

abbrev pub LeavesOut : UnitShown → UnitShown → ℕ → RegisterRefusal → Type 0
LeavesOut old new epoch (Moved clock) = HasMoved old new epoch clock
LeavesOut old new epoch Cut = IsOut old new

abbrev pub was_cut : {T : Type 0} → Result T RegisterRefusal → Bool
was_cut (Err Cut) = true
was_cut _ = false
