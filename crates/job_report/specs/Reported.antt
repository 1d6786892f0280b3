-- What is known of a job that was run on a store, once the store was stopped and an image of it was
-- read.
use Rattle.std.specs.Prelude.{◌≡◌, ℕ, List, [], length, slice_get, Some}
use Rattle.mont_base.specs.Faults.{Rose}
use Rattle.mont_base.specs.Image.{IsPermitted, IsRecovered, clock_of}
use Rattle.mont_base.specs.State.{State, Run}
use Rattle.plain.specs.States.{states_of}
use Rattle.heap_rule.specs.declared.rule.Opening.{Opening}
use Rattle.heap_rule.specs.declared.views.CallerKnown.{CallerKnown}
use Rattle.heap.specs.HeapShown.{CallerShown}
use Rattle.job_text.specs.declared.job.Job.{Job}
use Rattle.job_text.specs.declared.outcome.Outcome.{Outcome}
use Rattle.job_text.specs.Faithful.{HasStop}
use Rattle.job_text.specs.Report.{Report, lines_of}
use Rattle.job_worker.specs.Worked.{HasWorked}
use Rattle.store_stop.specs.declared.headline.Stopped.{Stopped}
use Rattle.store_stop.specs.Headline.{IsBaseOf, IsStopped}

-- A caller of the job was left with this. It wasn't cut before it began, its gate showed these
-- counts before its lines and after them, and it cuts no caller that the job doesn't stop.
pub record HasRun (j : Job) (o : Opening) (caller : ℕ) (left : CallerKnown)
    (outcomes : List Outcome) : Type 0 where
  pub begun : CallerKnown
  pub number : begun.caller ≡ caller
  pub uncut : begun.part.cuts ≡ []
  pub first : ℕ
  pub last : ℕ
  pub stops : Rose first last → HasStop j caller
  pub worked : HasWorked o (Rose first last) begun left (lines_of j caller) outcomes

-- Each caller of the job ran its lines on a store that opened so. The store was stopped with what
-- the tickets of the callers then showed, and this is an image that a crash permits of its words,
-- with its clock, and with what recovery rebuilds of it.
pub record WasRun (j : Job) (o : Opening) (callers : List CallerShown)
    (outcomes : List (List Outcome)) (t : Stopped) (image : List ℕ) (image_clock : ℕ)
    (contents : List State) : Type 0 where
  pub layout : o.layout ≡ j.layout
  pub opened : IsBaseOf o t.base_clock (states_of t.base)
  pub callers_are : length callers ≡ j.callers
  pub answered : length outcomes ≡ j.callers
  pub each :
      (caller : ℕ) (left : CallerShown) (of_caller : List Outcome)
      → slice_get callers caller ≡ Some left → slice_get outcomes caller ≡ Some of_caller
      → HasRun j o caller left.known of_caller
  pub stopped : IsStopped o.layout t.base_clock t.base callers t
  pub permitted : IsPermitted t.words.cur t.words.dur image
  pub clock : image_clock ≡ clock_of image
  pub recovered : IsRecovered o.layout image contents

-- the report of a job, beside what the stopped store told and the runs of its ranges, with an
-- image's clock and contents
abbrev pub report_made :
    Job → Stopped → List (List Run) → List (List Outcome) → ℕ → List State → Report
report_made j t runs outcomes image_clock contents = record {
  layout = j.layout;
  callers = j.callers;
  base_clock = t.base_clock;
  base = states_of t.base;
  histories = t.histories;
  runs = runs;
  outcomes = outcomes;
  image_clock = image_clock;
  contents = contents;
}
