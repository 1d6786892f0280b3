-- Why a line wasn't answered as it asked. A report doesn't show at which moment a call was made
-- that left no entry, so its cause is told of some moment that the caller's other entries allow: of
-- what the unit held when the store was opened, and of its entries until then.
use Rattle.std.specs.Prelude.{◌≡◌, ℕ, ◌<◌, ◌≤◌, List, length, take, All, Contains, slice_get, Some}
use Rattle.mont_base.specs.declared.operation.Entry.{Entry}
use Rattle.mont_base.specs.declared.operation.Op.{Op}
use Rattle.mont_base.specs.State.{State, unit_of_op}
use Rattle.mont_base.specs.Room.{LacksRoom, room_of}
use Rattle.mont_base.specs.Counting.{effects_then}
use Rattle.job_text.specs.declared.outcome.Outcome.{Outcome}
use Rattle.job_text.specs.declared.outcome.Outcome.TheVariants.{CutIn}
use Rattle.job_text.specs.Report.{Report}
use Rattle.job_text.specs.Outcomes.{place_of, clock_of}

-- ---- the moment of a call
-- A number of entries that the unit may have had when the call was made: all that the caller did
-- there before are among them, and none that it did later.
pub record IsPoint (before after : List Outcome) (unit : ℕ) (h : List Entry) (point : ℕ)
    : Type 0 where
  pub there : point ≤ length h
  pub behind : All (λ o. (place : ℕ) → place_of o ≡ Some (unit, place) → place < point) before
  pub ahead : All (λ o. (place : ℕ) → place_of o ≡ Some (unit, place) → point ≤ place) after

-- There is a moment of the call at which this held of its unit, of what the unit held at the
-- opening, and of its entries until then.
pub record SomeMoment (r : Report) (before after : List Outcome) (op : Op)
    (Held : ℕ → State → List Entry → Type 0) : Type 0 where
  pub unit : ℕ
  pub of_unit : unit_of_op r.layout op ≡ Some unit
  pub base : State
  pub opened : slice_get r.base unit ≡ Some base
  pub history : List Entry
  pub kept : slice_get r.histories unit ≡ Some history
  pub point : ℕ
  pub is_point : IsPoint before after unit history point
  pub held : Held unit base (take point history)

-- ---- want of room
-- a clock that the run may have had
pub record IsReached (r : Report) (clock : ℕ) : Type 0 where
  pub begun : r.base_clock ≤ clock
  pub last : clock ≤ r.image_clock

pub record IsFull (r : Report) (before after : List Outcome) (op : Op) (need free clock : ℕ)
    : Type 0 where
  pub reached : IsReached r clock
  pub lacks :
      SomeMoment r before after op
      (λ unit base h. LacksRoom (length (effects_then base h op))
      (room_of r.layout.slots base h clock) need free)

-- The call may have found its unit full, and then tried to sync: there is a clock, and a moment of
-- the call, with too little room.
pub record MayBeFull (r : Report) (before after : List Outcome) (op : Op) : Type 0 where
  pub clock : ℕ
  pub reached : IsReached r clock
  pub learnt : All (λ o. (d : ℕ) → clock_of o ≡ Some d → d ≤ clock) before
  pub lacks :
      SomeMoment r before after op
      (λ unit base h. room_of r.layout.slots base h clock < length (effects_then base h op))

-- ---- callers that were cut
-- the caller was cut in the unit
abbrev pub WasCutIn : Report → ℕ → ℕ → Type 0
WasCutIn r caller unit =
    (os : List Outcome) × (slice_get r.outcomes caller ≡ Some os) × Contains os (CutIn unit)

pub record IsHalted (r : Report) (op : Op) (unit by : ℕ) : Type 0 where
  pub of_unit : unit_of_op r.layout op ≡ Some unit
  pub cut : WasCutIn r by unit

-- the clock can't pass an epoch that a caller announced in the unit in which it was cut
pub record IsStuck (r : Report) (unit epoch : ℕ) : Type 0 where
  pub by : ℕ
  pub cut : WasCutIn r by unit
  pub late : epoch < r.image_clock
