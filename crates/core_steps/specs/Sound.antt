-- What every step keeps.
use Rattle.std.specs.Prelude.{◌≡◌, ℕ, ◌+◌, ◌-◌, ◌*◌, ◌<◌, ◌≤◌, false, List, [], length, slice_get, unwrap_or, Option, Some, None}
use Rattle.std.specs.List.{Contains}
use Rattle.mont_base.specs.declared.constants.TheConstants.{FIRST_CLOCK, LAST}
use Rattle.mont_base.specs.Layout.{Shape, IsLayout, units_of, words_of}
use Rattle.mont_base.specs.State.{State, QueueOf}
use Rattle.core_steps.specs.declared.parts.Core.{Core}
use Rattle.core_steps.specs.declared.parts.UnitPart.{UnitPart}
use Rattle.core_steps.specs.declared.parts.CallerPart.{CallerPart}
use Rattle.core_steps.specs.declared.parts.UnitStage.{UnitStage}
use Rattle.core_steps.specs.declared.parts.UnitStage.TheVariants.{Told, Within}
use Rattle.core_steps.specs.declared.parts.AdvPart.{AdvPart}
use Rattle.core_steps.specs.declared.parts.AdvPart.TheVariants.{Rest, Checking}
use Rattle.core_steps.specs.Places.{EachAt}
use Rattle.core_steps.specs.Clock.{clock, durable_clock}
use Rattle.core_steps.specs.Stages.{Phase, Resting, UnderWay, Ahead, phase_of, passed_of, is_announced}
use Rattle.core_steps.specs.Flushing.{all_listed}
use Rattle.core_steps.specs.Roles.{HasSlots}
use Rattle.core_steps.specs.WriteBack.{FlushFits}
use Rattle.core_steps.specs.UnitClauses.{UnitFits}
use Rattle.core_steps.specs.Notes.{histories_of, cuts_of}
use Rattle.core_steps.specs.CallerClauses.{CallersFit}

-- what a store held when it was opened, and its clock then
pub record Base : Type 0 where
  pub clock : ℕ
  pub states : List State

-- the state of a unit then
abbrev pub base_state : Base → ℕ → State
base_state base u = unwrap_or (slice_get base.states u) (QueueOf [])

-- ---- sizes
-- the unit at which the advancer stands is one of the store's
abbrev pub IsInStore : ℕ → AdvPart → Type 0
IsInStore units (Checking j) = j < units
IsInStore units _ = Unit {0}

-- the core has as many words and units as its layout says
pub record Sizes
    (s : Shape) (cur dur : List ℕ) (states : List State) (units : List UnitPart) (a : AdvPart)
    : Type 0 where
  pub layout : IsLayout s
  pub current : length cur ≡ words_of s
  pub durable : length dur ≡ words_of s
  pub unit_count : length units ≡ units_of s
  pub state_count : length states ≡ units_of s
  pub place : IsInStore (length units) a

-- ---- clocks
-- while an advance is under way, both clocks are one, and there is a next one
pub record IsUnderWay (now durable : ℕ) : Type 0 where
  pub same : durable ≡ now
  pub room : now < LAST

-- the durable clock is behind only between the store of the clock and its write-back
abbrev pub ClocksStand : Phase → ℕ → ℕ → Type 0
ClocksStand Resting now durable = durable ≡ now
ClocksStand UnderWay now durable = IsUnderWay now durable
ClocksStand Ahead now durable = durable + 1 ≡ now

-- Nobody has loaded a durable clock that wasn't reached.
pub record Clocks
    (base now durable : ℕ) (phase : Phase) (units : List UnitPart) (callers : List CallerPart)
    : Type 0 where
  pub low : FIRST_CLOCK ≤ base
  pub begun : base ≤ durable
  pub behind : durable ≤ now
  pub last : now ≤ LAST
  pub stand : ClocksStand phase now durable
  pub of_units : EachAt (λ _ p. p.durable ≤ durable) units
  pub of_callers : EachAt (λ _ q. q.durable ≤ durable) callers

-- ---- announcements
-- an announced epoch, odd where a caller was cut
abbrev pub announced : ℕ → Option ℕ → ℕ
announced e None = 2 * e
announced e (Some k) = 2 * e + 1

abbrev pub announcement : UnitStage → Option ℕ → ℕ
announcement (Told e) frozen = announced e frozen
announcement (Within e) frozen = announced e frozen
announcement _ frozen = 0

-- each unit's announcement is that of its stage
pub record Announcements (told : List ℕ) (units : List UnitPart) : Type 0 where
  pub as_many : length told ≡ length units
  pub each : EachAt (λ u p. slice_get told u ≡ Some (announcement p.stage p.frozen)) units

-- ---- registration
-- A registered unit writes with the clock as its epoch, or with the one before; once it was passed
-- only with the clock.
pub record IsRegistered (base now : ℕ) (passed : Type 0) (e : ℕ) : Type 0 where
  pub begun : base ≤ e
  pub reached : e ≤ now
  pub near : now ≤ e + 1
  pub same : passed → e ≡ now

abbrev pub StageFits : ℕ → ℕ → Type 0 → UnitStage → Type 0
StageFits base now passed (Within e) = IsRegistered base now passed e
StageFits base now passed _ = Unit {0}

-- the advancer has passed the first of the units
abbrev pub Registration : ℕ → ℕ → ℕ → List UnitPart → Type 0
Registration base now passed units =
    EachAt (λ u p. StageFits base now (u < passed) p.stage) units

-- ---- while a slot is lost, no advance is under way and no unit has an epoch announced
pub record IsUnswept (units : List UnitPart) (a : AdvPart) : Type 0 where
  pub advancer : a ≡ Rest
  pub unannounced : EachAt (λ _ p. is_announced p.stage ≡ false) units

abbrev pub LostWait : List UnitPart → AdvPart → Type 0
LostWait units a =
    (u slot : ℕ) (p : UnitPart) → slice_get units u ≡ Some p → Contains p.lost slot
    → IsUnswept units a

-- ---- A core of a store that was opened with this base, where the clocks show now and durable.
pub record IsSoundAt (base : Base) (now durable : ℕ) (c : Core) : Type 0 where
  pub sizes : Sizes c.layout c.cur c.dur base.states c.units c.advancer
  pub clocks : Clocks base.clock now durable (phase_of c.advancer) c.units c.callers
  pub announcements : Announcements c.told c.units
  pub registration : Registration base.clock now (passed_of (length c.units) c.advancer) c.units
  pub slots : HasSlots c.layout now c.cur c.dur c.units
  pub lost : LostWait c.units c.advancer
  pub flush : FlushFits c.cur c.dur (all_listed (now - 1) c.units) c.advancer
  pub units : EachAt
      (λ u p. UnitFits c.layout base.clock now durable u (base_state base u) p) c.units
  pub callers : CallersFit (histories_of c.units) (cuts_of c.units) now c.callers c.odd

abbrev pub IsSound : Base → Core → Type 0
IsSound base c = IsSoundAt base (clock c) (durable_clock c) c
