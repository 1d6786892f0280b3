-- The stage of an advance, and where its flush stands then.
use Rattle.std.specs.Prelude.{◌≡◌, ℕ, ◌+◌, ◌<◌, ◌≤◌, ◌==◌, nat_lt, Bool, true, false, if◌then◌else◌}
use Rattle.mont_base.specs.declared.constants.TheConstants.{LAST}
use Rattle.core_steps.specs.declared.parts.AdvPart.{AdvPart}
use Rattle.core_steps.specs.declared.parts.AdvPart.TheVariants as parts
use Rattle.core_steps.specs.Advancing.{can_check, unit_at_hand, is_clocked}
use Rattle.heap_rule.specs.declared.views.AdvKnown.{AdvKnown}
use Rattle.heap_rule.specs.Views.{full_rest}
use Rattle.write_back.specs.declared.flush.Flush.{Flush}
use Rattle.write_back.specs.Flush.{StandsAt, IsFlushed, flush_start, is_flushing}
use Rattle.advance.specs.declared.stage.AdvStage.{AdvStage}
use Rattle.advance.specs.declared.stage.AdvStage.TheVariants.{Rest, Checking, Flushing, Ready, Clocked}

-- all lists were given back, or not yet
abbrev pub flush_stage : Bool → AdvStage
flush_stage true = Ready
flush_stage false = Flushing

abbrev pub stage_at : AdvPart → Bool → AdvStage
stage_at parts.Rest given = Rest
stage_at (parts.Checking j) given = Checking j
stage_at (parts.Flushing done field) given = flush_stage given
stage_at (parts.Holding done field value) given = flush_stage given
stage_at parts.Clocked given = Clocked

-- once unit j of n was passed
abbrev pub past_stage : ℕ → ℕ → AdvStage
past_stage n j = if nat_lt (j + 1) n then Checking (j + 1) else Flushing

-- the stage of an advancer whose seat shows this
abbrev pub stage_of : AdvKnown → AdvStage
stage_of a = stage_at a.part (a.turn.emptied == a.units)

-- no advance is under way, and no list was taken
pub record IsAtRest (a : AdvKnown) : Type 0 where
  pub part : a.part ≡ parts.Rest
  pub turn : a.turn ≡ full_rest

-- ---- how far an advance is
-- all units were passed
abbrev pub has_passed : AdvPart → Bool
has_passed parts.Rest = false
has_passed (parts.Checking j) = false
has_passed _ = true

-- this unit is to be passed next
pub record IsWaitingAt (a : AdvKnown) (unit : ℕ) : Type 0 where
  pub hand : unit ≡ unit_at_hand a.part
  pub inside : unit < a.units
  pub may : can_check a.clock a.part ≡ true

-- all is written back, or the clock has moved already
abbrev pub IsReady : AdvKnown → Type 0
IsReady a = is_clocked a.part ≡ false → IsFlushed a

-- ---- what an advancer keeps beside its seat
-- the flush has not begun
pub record HasNotBegun (flush : Flush) (a : AdvKnown) : Type 0 where
  pub is_start : flush ≡ flush_start
  pub turn : a.turn ≡ full_rest

abbrev pub FlushFitsPart : Bool → Flush → AdvKnown → Type 0
FlushFitsPart true flush a = StandsAt flush a
FlushFitsPart false flush a = HasNotBegun flush a

pub record FitsSeat
    (units clock : ℕ) (stage : AdvStage) (flush : Flush) (a : AdvKnown) : Type 0 where
  pub units_are : units ≡ a.units
  pub hand : unit_at_hand a.part < units
  pub clock_is : clock ≡ a.clock
  pub last : clock ≤ LAST
  pub stage_is : stage ≡ stage_of a
  pub flush_fits : FlushFitsPart (is_flushing a.part) flush a
