-- What is true of a unit's records, of the slots that wait to be closed, and of its history.
use Rattle.std.specs.Prelude.{◌≡◌, ℕ, ◌+◌, ◌≤◌, ◌⊎◌, List, All, AllPairs}
use Rattle.std.specs.List.{Contains}
use Rattle.mont_base.specs.declared.record.Held.{Held}
use Rattle.mont_base.specs.declared.operation.Entry.{Entry}
use Rattle.mont_base.specs.Layout.{Shape}
use Rattle.mont_base.specs.State.{State}
use Rattle.mont_base.specs.History.{IsLegal}
use Rattle.mont_base.specs.Room.{retired_late}
use Rattle.mont_laws.specs.declared.retiring.Retired.{Retired}
use Rattle.mont_laws.specs.Records.{AreApart}
use Rattle.mont_laws.specs.Structures.{FollowsHistory}
use Rattle.mont_laws.specs.Retiring.{Retires, count_late}
use Rattle.core_steps.specs.declared.parts.UnitPart.{UnitPart}
use Rattle.core_steps.specs.declared.parts.UnitStage.{UnitStage}
use Rattle.core_steps.specs.declared.parts.UnitStage.TheVariants.{Closing}
use Rattle.core_steps.specs.Stages.{limit_of}
use Rattle.core_steps.specs.Closing.{IsDueNow}

-- ---- versions, in a store that was opened at the clock base
-- a record of a retired slot isn't younger than what superseded it, or was found
abbrev pub IsOwnEpoch : ℕ → List Held → Retired → Type 0
IsOwnEpoch base records t =
    (r : Held) → Contains records r → r.slot ≡ t.slot
    → (r.label.epoch ≤ t.epoch) ⊎ (r.label.epoch + 2 ≤ base)

-- An earlier and a later slot of the queue: the epochs don't fall, after those of slots that were
-- found.
abbrev pub RetiresBefore : ℕ → Retired → Retired → Type 0
RetiresBefore base t u = (t.epoch + 2 ≤ base) ⊎ (t.epoch ≤ u.epoch)

pub record HasVersions (base : ℕ) (records : List Held) (retired : List Retired) : Type 0 where
  pub apart : AreApart records
  pub retires : Retires records retired
  pub own : All (IsOwnEpoch base records) retired
  pub rising : AllPairs (RetiresBefore base) retired

-- ---- objects: from the durable cut on, the records up to an epoch show the history up to it
abbrev pub ShowsCuts : Shape → ℕ → State → ℕ → List Held → List Entry → Type 0
ShowsCuts s u state durable records history =
    (x : ℕ) → durable ≤ x + 2 → FollowsHistory s u state x records history

-- ---- nothing is of a later epoch than this
pub record AreReached (limit : ℕ) (records : List Held) (history : List Entry) : Type 0 where
  pub of_records : All (λ (r : Held). r.label.epoch ≤ limit) records
  pub of_entries : All (λ (e : Entry). e.epoch ≤ limit) history

-- ---- room: at a durable clock that the unit may know, as many slots wait as the history tells
abbrev pub WaitsAsTold : ℕ → State → ℕ → List Retired → List Entry → Type 0
WaitsAsTold base state known retired history =
    (x : ℕ) → base ≤ x → known ≤ x → count_late x retired ≡ retired_late x state history

-- ---- a slot that is being closed may be closed
abbrev pub ClosesDue : UnitStage → UnitPart → Type 0
ClosesDue (Closing slot) p = IsDueNow p slot
ClosesDue _ p = Unit {0}

-- A unit of a store that was opened at the clock base, when it had this state, where the clocks
-- show now and durable.
pub record UnitFits
    (s : Shape) (base now durable u : ℕ) (state : State) (p : UnitPart) : Type 0 where
  pub versions : HasVersions base p.records p.retired
  pub objects : ShowsCuts s u state durable p.records p.history
  pub legal : IsLegal s u state base p.history
  pub reached : AreReached (limit_of now p.stage) p.records p.history
  pub room : WaitsAsTold base state p.durable p.retired p.history
  pub closing : ClosesDue p.stage p
