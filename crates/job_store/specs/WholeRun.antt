-- What a run of a job leaves, what its report tells, and which image it leaves.
use Rattle.std.specs.Prelude.{◌≡◌, ℕ, false, List, [], length, map, slice_get, Some}
use Rattle.mont_base.specs.Image.{IsPermitted, IsRecovered, clock_of}
use Rattle.mont_base.specs.Layout.{Shape}
use Rattle.plain.specs.declared.contents.Contents.{Contents}
use Rattle.plain.specs.States.{states_of}
use Rattle.core_steps.specs.declared.parts.CallerPart.{CallerPart}
use Rattle.heap.specs.HeapShown.{HeapShown, CallerShown}
use Rattle.job_text.specs.declared.job.Job.{Job}
use Rattle.job_text.specs.declared.outcome.Outcome.{Outcome}
use Rattle.job_text.specs.Faithful.{IsFaithful}
use Rattle.job_text.specs.PlainReport.{report_of}
use Rattle.job_text.specs.Report.{Report, lines_of}
use Rattle.job_worker.specs.Ending.{place_answered, places_named, units_cut}
use Rattle.job_report.specs.Reported.{HasRun}
use Rattle.mont_image.specs.ImageReader.{parts_of}
use Rattle.mont_image.specs.ImageText.{IsTextOf, image_text}
use Rattle.mont_image.specs.Picking.{IsPick}
use Rattle.store_stop.specs.declared.headline.Stopped.{Stopped}
use Rattle.store_stop.specs.Headline.{IsBaseOf, IsStopped}
use Rattle.job_store.specs.Base.{Base, IsBaseIn}
use Rattle.job_store.specs.CarriedOut.{AreCarriedOut}
use Rattle.job_store.specs.declared.whole_run.WholeRun.{WholeRun}

-- ---- after the threads
-- Each caller of the job ran its lines on a store of this heap, and was left with this ticket.
pub record HaveRun (j : Job) (heap : HeapShown) (callers : List CallerShown)
    (outcomes : List (List Outcome)) : Type 0 where
  pub callers_are : length callers ≡ j.callers
  pub answered : length outcomes ≡ j.callers
  pub each :
      (caller : ℕ) (left : CallerShown) (of_caller : List Outcome)
      → slice_get callers caller ≡ Some left → slice_get outcomes caller ≡ Some of_caller
      → HasRun j heap.opening caller left.known of_caller

-- So did all, and the store was stopped with what their tickets then showed.
pub record IsEndOf (j : Job) (heap : HeapShown) (callers : List CallerShown)
    (outcomes : List (List Outcome)) (t : Stopped) : Type 0 where
  pub layout : heap.opening.layout ≡ j.layout
  pub opened : IsBaseOf heap.opening t.base_clock (states_of t.base)
  pub ran : HaveRun j heap callers outcomes
  pub stopped : IsStopped heap.opening.layout t.base_clock t.base callers t

-- whatever their tickets showed
pub record HasEnded (j : Job) (heap : HeapShown) (outcomes : List (List Outcome)) (t : Stopped)
    : Type 0 where
  pub callers : List CallerShown
  pub end : IsEndOf j heap callers outcomes t

-- an image that a crash permits of the words, as the job's mask picks it
pub record IsPickOf (j : Job) (t : Stopped) (image : List ℕ) : Type 0 where
  pub picked : IsPick j.mask t.words.cur t.words.dur image
  pub permitted : IsPermitted t.words.cur t.words.dur image

-- ---- the report and the image
-- The report tells these outcomes, the histories of this store, and what recovery rebuilds of the
-- image, which is one that the job's mask picks.
pub record TellsEnd (j : Job) (outcomes : List (List Outcome)) (t : Stopped) (w : WholeRun)
    : Type 0 where
  pub outcomes_are : w.report.outcomes ≡ outcomes
  pub base : states_of w.report.base ≡ states_of t.base
  pub histories : w.report.histories ≡ t.histories
  pub pick : IsPickOf j t w.image.words
  pub clock : w.report.image_clock ≡ clock_of w.image.words
  pub rebuilt : IsRecovered j.layout w.image.words (states_of w.report.contents)

-- The ticket of a caller that had these outcomes: they name the entries of its receipts, one each
-- and in their order, and the units in which it was cut.
pub record IsTicketOf (outcomes : List Outcome) (q : CallerPart) : Type 0 where
  pub named : places_named outcomes ≡ map place_answered q.receipts
  pub cuts : q.cuts ≡ units_cut outcomes

-- The report is of a store that was opened with these for the callers of the job, and was stopped
-- with these histories. The image is what the job's mask picks of
-- its words, and the contents are what recovery rebuilds from it.
pub record IsOfStore (j : Job) (b : Base) (r : Report) (image : List ℕ) : Type 0 where
  pub heap : HeapShown
  pub opened : IsBaseIn j.layout heap.opening.words b
  pub base : Contents
  pub base_is : states_of base ≡ b.states
  pub callers : List CallerShown
  pub callers_are : length callers ≡ j.callers
  pub tickets :
      (caller : ℕ) (q : CallerShown) (outcomes : List Outcome)
      → slice_get callers caller ≡ Some q → slice_get r.outcomes caller ≡ Some outcomes
      → IsTicketOf outcomes q.known.part
  pub store : Stopped
  pub stopped : IsStopped j.layout b.clock base callers store
  pub histories : r.histories ≡ store.histories
  pub pick : IsPickOf j store image
  pub clock : r.image_clock ≡ clock_of image
  pub rebuilt : IsRecovered j.layout image r.contents

-- A report of a run of the job on a store that opened with this base, and the image that was left.
-- The report is faithful, and where the job stops nobody all lines were carried out.
pub record IsRun (j : Job) (b : Base) (r : Report) (image : List ℕ) : Type 0 where
  pub faithful : IsFaithful j b.clock b.states b.records r
  pub of_store : IsOfStore j b r image
  pub unstopped :
      j.stops ≡ [] → (caller : ℕ) (outcomes : List Outcome)
      → slice_get r.outcomes caller ≡ Some outcomes
      → AreCarriedOut r.image_clock (lines_of j caller) outcomes

-- ---- what a run gives
-- its image is one of the layout, as images are now, and has a text
pub record IsLeftOf (s : Shape) (w : WholeRun) : Type 0 where
  pub layout : w.image.layout ≡ s
  pub new : w.image.old ≡ false
  pub text : IsTextOf (image_text s w.image.words) (parts_of w.image)

-- a run on a store that opened with this base
pub record IsRunOn (j : Job) (b : Base) (w : WholeRun) : Type 0 where
  pub run : IsRun j b (report_of w.report) w.image.words
  pub left : IsLeftOf j.layout w

-- a run on a store that opened with what recovery finds in these words
pub record IsRunFrom (j : Job) (words : List ℕ) (w : WholeRun) : Type 0 where
  pub base : Base
  pub opened : IsBaseIn j.layout words base
  pub run : IsRunOn j base w
