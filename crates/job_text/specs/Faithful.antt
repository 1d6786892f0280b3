-- When a report is faithful to the job that was run.
use Rattle.std.specs.Prelude.{◌≡◌, ℕ, ◌-◌, ◌≤◌, List, length, slice_get, Some, Any}
use Rattle.mont_base.specs.declared.constants.TheConstants.{LAST}
use Rattle.mont_base.specs.declared.operation.Entry.{Entry}
use Rattle.mont_base.specs.declared.record.Held.{Held}
use Rattle.mont_base.specs.Layout.{Shape, units_of}
use Rattle.mont_base.specs.State.{State}
use Rattle.mont_base.specs.History.{IsLegal, cut_at, state_after, runs_of}
use Rattle.mont_base.specs.Seen.{IsEntryAt}
use Rattle.job_text.specs.declared.job.Job.{Job}
use Rattle.job_text.specs.declared.job.Stop.{Stop}
use Rattle.job_text.specs.declared.outcome.Outcome.{Outcome}
use Rattle.job_text.specs.Report.{Report, lines_of}
use Rattle.job_text.specs.Outcomes.{times_named}
use Rattle.job_text.specs.AnsweredLines.{AnswersLines}

-- ---- the frame
-- the report is of the job's layout and callers
pub record IsOfJob (j : Job) (r : Report) : Type 0 where
  pub layout : r.layout ≡ j.layout
  pub callers : r.callers ≡ j.callers

-- the clocks are in order, and the run began at this one
pub record HasClocks (clock : ℕ) (r : Report) : Type 0 where
  pub base_clock : r.base_clock ≡ clock
  pub begun : clock ≤ r.image_clock
  pub last : r.image_clock ≤ LAST

-- there is something of each unit and each caller, and nothing else
pub record IsWhole (j : Job) (r : Report) : Type 0 where
  pub base : length r.base ≡ units_of j.layout
  pub histories : length r.histories ≡ units_of j.layout
  pub runs : length r.runs ≡ units_of j.layout
  pub outcomes : length r.outcomes ≡ j.callers
  pub contents : length r.contents ≡ units_of j.layout

-- the report is of the job, is whole, and has its clocks in order
pub record HasFrame (j : Job) (clock : ℕ) (r : Report) : Type 0 where
  pub job : IsOfJob j r
  pub clocks : HasClocks clock r
  pub whole : IsWhole j r

-- ---- what is said of each unit and of each caller
-- the history of a unit is legal from its state
abbrev pub LegalAt : Shape → ℕ → List State → List (List Entry) → ℕ → Type 0
LegalAt s clock base histories unit =
    (state : State) (h : List Entry) → slice_get base unit ≡ Some state
    → slice_get histories unit ≡ Some h → IsLegal s unit state clock h

-- the runs of a unit are those that its ranges have on the states after the entries before them
abbrev pub RunsAt : Report → List State → ℕ → Type 0
RunsAt r base unit =
    (state : State) (h : List Entry) → slice_get base unit ≡ Some state
    → slice_get r.histories unit ≡ Some h → slice_get r.runs unit ≡ Some (runs_of state h)

-- the contents of a unit are what its operations up to two epochs before the image's clock lead to
abbrev pub CutAt : Report → List State → ℕ → Type 0
CutAt r base unit =
    (state : State) (h : List Entry) → slice_get base unit ≡ Some state
    → slice_get r.histories unit ≡ Some h
    → slice_get r.contents unit ≡ Some (state_after state (cut_at (r.image_clock - 2) h))

-- the job stops the caller after some steps
abbrev pub HasStop : Job → ℕ → Type 0
HasStop j caller = Any (λ (s : Stop). s.who ≡ caller) j.stops

-- the outcomes of a caller answer the caller's lines
abbrev pub AnsweredAt : Job → List (List Held) → Report → ℕ → Type 0
AnsweredAt j records r caller =
    (os : List Outcome) → slice_get r.outcomes caller ≡ Some os
    → AnswersLines r (HasStop j caller) records caller (lines_of j caller) os

-- one outcome names the entry at a place
abbrev pub NamedOnce : List (List Outcome) → ℕ → ℕ → Type 0
NamedOnce outcomes unit place = times_named outcomes unit place ≡ 1

-- each entry of a unit's history is named once
abbrev pub AllNamedAt : Report → ℕ → Type 0
AllNamedAt r unit =
    (place : ℕ) (e : Entry) → IsEntryAt r.histories unit place e → NamedOnce r.outcomes unit place

-- ---- the whole
-- A report is faithful to a job that was run on a store that was opened at this clock with these
-- states, of which these were the records of each unit. A fresh store had none.
pub record IsFaithful (j : Job) (clock : ℕ) (base : List State) (records : List (List Held))
    (r : Report) : Type 0 where
  pub frame : HasFrame j clock r
  pub base_states : r.base ≡ base
  pub legal : (unit : ℕ) → LegalAt j.layout clock base r.histories unit
  pub runs : (unit : ℕ) → RunsAt r base unit
  pub answers : (caller : ℕ) → AnsweredAt j records r caller
  pub named_once : (unit : ℕ) → AllNamedAt r unit
  pub cut : (unit : ℕ) → CutAt r base unit
