-- What a run of a job reports.
use Rattle.std.specs.Prelude.{ℕ, List, filter, ◌==◌}
use Rattle.mont_base.specs.declared.operation.Entry.{Entry}
use Rattle.mont_base.specs.Layout.{Shape}
use Rattle.mont_base.specs.State.{State, Run}
use Rattle.job_text.specs.declared.job.Job.{Job}
use Rattle.job_text.specs.declared.job.Line.{Line}
use Rattle.job_text.specs.declared.outcome.Outcome.{Outcome}

-- a report, with states, histories and the runs of their ranges by unit, and outcomes by caller
pub record Report : Type 0 where
  pub layout : Shape
  pub callers : ℕ
  pub base_clock : ℕ
  pub base : List State
  pub histories : List (List Entry)
  pub runs : List (List Run)
  pub outcomes : List (List Outcome)
  pub image_clock : ℕ
  pub contents : List State

-- the lines of one caller, in their order
abbrev pub lines_by : ℕ → List Line → List Line
lines_by caller lines = filter (λ (l : Line). l.caller == caller) lines

-- those of a job
abbrev pub lines_of : Job → ℕ → List Line
lines_of j caller = lines_by caller j.lines
