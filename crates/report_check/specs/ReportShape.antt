-- The shape of a report: there is something of each unit and of each caller, and a run for each
-- range. What the histories, the outcomes and the states are is no part of it, nor which callers
-- the entries name.
use Rattle.std.specs.Prelude.{◌≡◌, length}
use Rattle.mont_base.specs.Layout.{units_of}
use Rattle.job_text.specs.Report.{Report}
use Rattle.job_text.specs.ReportRanges.{IsReport}
use Rattle.job_text.specs.Runs.{HaveRuns}

pub record HasShape (r : Report) : Type 0 where
  pub base : length r.base ≡ units_of r.layout
  pub histories : length r.histories ≡ units_of r.layout
  pub runs : HaveRuns r.histories r.runs
  pub outcomes : length r.outcomes ≡ r.callers
  pub contents : length r.contents ≡ units_of r.layout

-- each report of which there is a text has it
abbrev pub ReportsHaveShape : Type 0
ReportsHaveShape = (r : Report) → IsReport r → HasShape r
