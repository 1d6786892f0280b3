-- What the invariant tells the seat of a unit, in a store that was opened with some words.
use Rattle.std.specs.Prelude.{◌≡◌, ◌≢◌, ℕ, ◌+◌, ◌<◌, ◌≤◌, true, List, [], ◌∷◌, ◌++◌, map, All, AllPairs, Option, Some, None}
use Rattle.mont_base.specs.declared.constants.TheConstants.{LAST}
use Rattle.mont_base.specs.declared.record.Held.{Held}
use Rattle.mont_base.specs.Image.{clock_of, IsRecovered, IsWellFormed}
use Rattle.mont_base.specs.Layout.{Shape, total_of, unit_of_slot}
use Rattle.mont_base.specs.State.{State}
use Rattle.mont_base.specs.History.{state_after}
use Rattle.mont_laws.specs.SlotReadings.{IsRecordOf}
use Rattle.mont_laws.specs.Structures.{HasStructure}
use Rattle.core_steps.specs.declared.parts.UnitPart.{UnitPart}
use Rattle.core_steps.specs.declared.parts.Writing.{Writing}
use Rattle.core_steps.specs.Opened.{opened_at}
use Rattle.core_steps.specs.Sound.{base_state}
use Rattle.core_steps.specs.UnitClauses.{UnitFits}
use Rattle.heap_rule.specs.declared.rule.Opening.{Opening}
use Rattle.heap_rule.specs.declared.views.UnitKnown.{UnitKnown}
use Rattle.heap_rule.specs.Views.{slots_written, is_among}

-- ---- slots
-- the one into which the unit has begun to write
abbrev pub slot_begun : Option Writing → List ℕ
slot_begun None = []
slot_begun (Some w) = w.slot ∷ []

-- the slots of records, of what the unit writes, and those that were left open by a crash
abbrev pub slots_in_use : UnitPart → List ℕ
slots_in_use p =
    map (λ (r : Held). r.slot) p.records
    ++ (slots_written p ++ (slot_begun p.writing ++ p.lost))

-- Each is in use for one thing, and is one of the unit's own.
pub record HasOwnSlots (s : Shape) (u : ℕ) (p : UnitPart) : Type 0 where
  pub inside : All (λ (slot : ℕ). slot < total_of s) (slots_in_use p)
  pub of_unit : All (λ (slot : ℕ). unit_of_slot s slot ≡ u) (slots_in_use p)
  pub apart : AllPairs (λ (slot other : ℕ). slot ≢ other) (slots_in_use p)

-- ---- The unit's clauses of the invariant, from whatever state recovery gave it when the store was
-- opened, where the clocks show now and durable.
pub record IsSoundUnit (o : Opening) (now durable : ℕ) (h : UnitKnown) : Type 0 where
  pub accepted : IsWellFormed o.layout o.words
  pub begun : clock_of o.words ≤ durable
  pub behind : durable ≤ now
  pub near : now ≤ durable + 1
  pub last : now ≤ LAST
  pub known : h.part.durable ≤ durable
  pub valid : All (IsRecordOf h.unit) h.part.records
  pub clean : is_among h.clean h.unit ≡ true → h.part.lost ≡ []
  pub slots : HasOwnSlots o.layout h.unit h.part
  pub fits : (states : List State) → IsRecovered o.layout o.words states
      → UnitFits o.layout (clock_of o.words) now durable h.unit
      (base_state (opened_at (clock_of o.words) states) h.unit) h.part

-- the state of the unit's history, from what recovery gave it
abbrev pub state_shown : Opening → List State → UnitKnown → State
state_shown o states h =
    state_after (base_state (opened_at (clock_of o.words) states) h.unit) h.part.history

-- its records show that state
abbrev pub SoundUnitsShowHistories : Type 0
SoundUnitsShowHistories =
    (o : Opening) (now durable : ℕ) (h : UnitKnown) (states : List State)
    → IsSoundUnit o now durable h → IsRecovered o.layout o.words states
    → HasStructure o.layout h.unit h.part.records (state_shown o states h)
