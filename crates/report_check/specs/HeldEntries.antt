-- Which entries of a report's histories hold.
use Rattle.std.specs.Prelude.{◌≡◌, ℕ, ◌+◌, ◌<◌, List, ◌++◌, take, All, slice_get, Some}
use Rattle.mont_base.specs.declared.operation.Entry.{Entry}
use Rattle.mont_base.specs.History.{IsLegal, runs_of}
use Rattle.mont_base.specs.State.{State, Run}
use Rattle.job_text.specs.Report.{Report}

-- the runs begin with these
abbrev pub BeginWith : List Run → List Run → Type 0
BeginWith runs first = (behind : List Run) × (runs ≡ first ++ behind)

-- The first entries of a unit's history hold together: they are legal from the state and the clock
-- with which the unit began, the runs of their ranges are those that the states after the entries
-- before give, and the report has their callers.
pub record HoldTogether (r : Report) (unit : ℕ) (base : State) (beside : List Run)
    (first : List Entry) : Type 0 where
  pub legal : IsLegal r.layout unit base r.base_clock first
  pub runs : BeginWith beside (runs_of base first)
  pub callers : All (λ (e : Entry). e.caller < r.callers) first

-- the entry at a place holds with all before it
abbrev pub FrontHolds : Report → ℕ → State → List Run → List Entry → ℕ → Type 0
FrontHolds r unit base beside h place = HoldTogether r unit base beside (take (place + 1) h)

-- so does that of a unit's history, if the unit has one
abbrev pub EntryHolds : Report → ℕ → ℕ → Type 0
EntryHolds r unit place =
    (base : State) (h : List Entry) (beside : List Run) → slice_get r.base unit ≡ Some base
    → slice_get r.histories unit ≡ Some h → slice_get r.runs unit ≡ Some beside
    → FrontHolds r unit base beside h place
