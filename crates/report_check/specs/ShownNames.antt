-- What the outcomes of a caller have named so far.
use Rattle.std.specs.Prelude.{◌≡◌, ◌↔◌, ℕ, ◌<◌, ◌≤◌, List, length, All, count_by, slice_get, Some}
use Rattle.mont_base.specs.declared.operation.Entry.{Entry}
use Rattle.mont_base.specs.Seen.{IsEntryAt}
use Rattle.mont_base.specs.State.{unit_of_op}
use Rattle.job_text.specs.declared.outcome.Outcome.{Outcome}
use Rattle.job_text.specs.Outcomes.{HasEpoch, is_at, place_of}
use Rattle.job_text.specs.Report.{Report}
use Rattle.report_check.specs.declared.shown_names.ShownNames.{ShownNames}

-- the epochs that they name are at most this
abbrev pub AreBy : List (List Entry) → ℕ → List Outcome → Type 0
AreBy histories epoch before =
    All (λ (o : Outcome). (d : ℕ) → HasEpoch histories o d → d ≤ epoch) before

-- the places that they name in a unit are before this one
abbrev pub AreBefore : ℕ → ℕ → List Outcome → Type 0
AreBefore unit place before =
    All (λ (o : Outcome). (m : ℕ) → place_of o ≡ Some (unit, m) → m < place) before

-- Their calls, the greatest epoch, and of each unit the number of entries up to the last named.
pub record HaveShown (histories : List (List Entry)) (before : List Outcome) (n : ShownNames)
    : Type 0 where
  pub calls : n.calls ≡ count_by is_at before
  pub units : length n.fronts ≡ length histories
  pub newest : (epoch : ℕ) → (n.newest ≤ epoch) ↔ AreBy histories epoch before
  pub fronts :
      (unit front place : ℕ) → slice_get n.fronts unit ≡ Some front
      → (front ≤ place) ↔ AreBefore unit place before

-- this is the entry at a place, the caller's next call, and it stands after all that was shown
pub record IsNextEntry (r : Report) (caller : ℕ) (n : ShownNames) (unit place : ℕ) (e : Entry)
    : Type 0 where
  pub there : IsEntryAt r.histories unit place e
  pub by : e.caller ≡ caller
  pub number : e.call ≡ n.calls
  pub of_unit : unit_of_op r.layout e.op ≡ Some unit
  pub later : n.newest ≤ e.epoch
  pub front : ℕ
  pub known : slice_get n.fronts unit ≡ Some front
  pub behind : front ≤ place
