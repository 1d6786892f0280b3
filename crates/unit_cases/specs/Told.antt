-- What is told of units.
use Rattle.std.specs.Prelude.{◌≡◌, ◌↔◌, ℕ, ◌-◌, IsTrue, List, length, Some, MatchOption, slice_get}
use Rattle.mont_base.specs.declared.operation.Entry.{Entry}
use Rattle.mont_base.specs.declared.operation.Op.{Op}
use Rattle.mont_base.specs.Layout.{Shape}
use Rattle.mont_base.specs.State.{State, step, size_of, unit_of_op}
use Rattle.mont_base.specs.History.{cut_at}
use Rattle.mont_base.specs.Image.{records_of}
use Rattle.mont_base.specs.Room.{used_slots}
use Rattle.mont_base.specs.Versions.{live_objects}
use Rattle.plain.specs.Built.{IsFirstFault, MakesStructure}
use Rattle.job_text.specs.Faithful.{CutAt}
use Rattle.job_text.specs.Report.{Report}
use Rattle.unit_cases.specs.declared.history_told.CutTold.{CutTold}
use Rattle.unit_cases.specs.declared.image_findings.UnitRecords.{UnitRecords}
use Rattle.unit_cases.specs.declared.step_told.StepTold.{StepTold}

-- so many slots of a unit are in use at a clock, after the unit's whole history in the report
abbrev pub UsedAt : Report → ℕ → ℕ → ℕ → Type 0
UsedAt r unit clock used =
    (state : State) (h : List Entry) → slice_get r.base unit ≡ Some state
    → slice_get r.histories unit ≡ Some h → used ≡ used_slots state h clock

-- the cut of a unit's history in the report has so many entries, and whether it leads to what the
-- report tells of the unit
pub record IsCutTold (r : Report) (unit : ℕ) (told : CutTold) : Type 0 where
  pub entries : (h : List Entry) → slice_get r.histories unit ≡ Some h
      → told.entries ≡ length (cut_at (r.image_clock - 2) h)
  pub same : IsTrue told.same ↔ CutAt r r.base unit

-- what an operation does to a state
pub record IsStepTold (s : Shape) (before after : State) (op : Op) (told : StepTold) : Type 0 where
  pub of_unit : told.unit ≡ unit_of_op s op
  pub effects : told.effects.items ≡ (step before op).effects
  pub reply : told.reply ≡ (step before op).reply
  pub state : after ≡ (step before op).state
  pub size : told.size ≡ size_of after

-- the records of a unit that recovery keeps, the live objects among them, and the first fault of
-- these, which make a structure where they have none
pub record AreUnitRecords (s : Shape) (image : List ℕ) (unit : ℕ) (found : UnitRecords)
    : Type 0 where
  pub held : found.held.items ≡ records_of s image unit
  pub live : found.live.items ≡ live_objects (records_of s image unit)
  pub fault : MatchOption found.fault (MakesStructure s unit found.live.items)
      (λ f. IsFirstFault s unit found.live.items f.0 f.1)
