-- The jobs that there are.
use Rattle.std.specs.Prelude.{◌≢◌, ◌+◌, ◌<◌, ◌≤◌, List, length, All, AllPairs, None}
use Rattle.mont_base.specs.Layout.{Shape, IsLayout}
use Rattle.mont_base.specs.State.{unit_of_op}
use Rattle.job_text.specs.declared.limits.TheConstants.{MOST_LINES, MOST_CALLERS, MOST_ATTEMPTS, MOST_STEPS}
use Rattle.job_text.specs.declared.header.Head.{Head}
use Rattle.job_text.specs.declared.job.Job.{Job}
use Rattle.job_text.specs.declared.job.Line.{Line}
use Rattle.job_text.specs.declared.job.Stop.{Stop}
use Rattle.job_text.specs.declared.job.Deed.{Deed}
use Rattle.job_text.specs.declared.job.Deed.TheVariants.{Call, Tick, Sync}
use Rattle.job_text.specs.Operations.{IsNumber, IsOp}

-- what the first line of a job's text names, and the job of it that has these stops and lines
abbrev pub head_of : Job → Head
head_of j =
    record { layout = j.layout; callers = j.callers; attempts = j.attempts; mask = j.mask }

abbrev pub job_of : Head → List Stop → List Line → Job
job_of h stops lines =
    record {
      layout = h.layout;
      callers = h.callers;
      attempts = h.attempts;
      mask = h.mask;
      stops = stops;
      lines = lines;
    }

pub record IsHead (h : Head) : Type 0 where
  pub layout : IsLayout h.layout
  pub some_callers : 1 ≤ h.callers
  pub few_callers : h.callers ≤ MOST_CALLERS
  pub few_attempts : h.attempts ≤ MOST_ATTEMPTS
  pub mask : IsNumber h.mask

-- a stop is a caller's, or that of the advancer, which counts after the callers
pub record IsStop (h : Head) (s : Stop) : Type 0 where
  pub who : s.who ≤ h.callers
  pub few_steps : s.steps ≤ MOST_STEPS

abbrev pub Rises : Stop → Stop → Type 0
Rises s t = s.who < t.who

-- an operation has a unit: a map unit for its key, or the one that it names, which is of its kind
abbrev pub HasUnit : Shape → Deed → Type 0
HasUnit s (Call op) = unit_of_op s op ≢ None
HasUnit s Tick = Unit {0}
HasUnit s Sync = Unit {0}

-- what words can ask
abbrev pub IsAsked : Deed → Type 0
IsAsked (Call op) = IsOp op
IsAsked Tick = Unit {0}
IsAsked Sync = Unit {0}

pub record IsLine (h : Head) (l : Line) : Type 0 where
  pub caller : l.caller < h.callers
  pub asked : IsAsked l.deed
  pub unit : HasUnit h.layout l.deed

-- all jobs: at most one stop of each, in their order, and no more lines than a text has
pub record IsJob (j : Job) : Type 0 where
  pub head : IsHead (head_of j)
  pub stops : All (IsStop (head_of j)) j.stops
  pub rising : AllPairs Rises j.stops
  pub lines : All (IsLine (head_of j)) j.lines
  pub few_lines : length j.stops + length j.lines + 1 ≤ MOST_LINES
