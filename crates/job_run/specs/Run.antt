-- What a run leaves of each caller.
use Rattle.std.specs.Prelude.{◌≡◌, ℕ, Bool, false, List, length, slice_get, Option, Some, None, IfSome}
use Rattle.std.specs.List.{list_any}
use Rattle.mont_base.specs.Faults.{Rose}
use Rattle.heap_rule.specs.declared.rule.Opening.{Opening}
use Rattle.heap_rule.specs.declared.views.CallerKnown.{CallerKnown}
use Rattle.heap.specs.GateAsked.{IsAskedOften}
use Rattle.job_text.specs.declared.job.Job.{Job}
use Rattle.job_text.specs.declared.job.Line.{Line}
use Rattle.job_text.specs.declared.outcome.Outcome.{Outcome}
use Rattle.job_text.specs.Outcomes.{is_cut}
use Rattle.job_text.specs.Report.{lines_of}
use Rattle.caller.specs.Continued.{GoesOn, IsUnanswered}
use Rattle.job_worker.specs.Worked.{HasWorked}

-- the caller was cut in one of its lines, if they were all carried out
abbrev pub was_cut_in : Option (List Outcome) → Bool
was_cut_in (Some outcomes) = list_any is_cut outcomes
was_cut_in None = false

-- a pass of the store, on which no call was answered yet
pub record IsFresh {P : Type 0} (has : P → Type 0) (held : P → CallerKnown) (pass : P)
    : Type 0 where
  pub own : has pass
  pub unanswered : IsUnanswered (held pass)

-- a store's opening, which passes are its own, and what a pass shows
module _ {P : Type 0} (o : Opening) (has : P → Type 0) (held : P → CallerKnown) (cuts : P → ℕ)
    (endless : P → Bool) where
  -- The lines were carried out with these outcomes, or as far as memory allowed.
  pub record IsWorked (lines : List Line) (old new : P) (done : Option (List Outcome))
      : Type 0 where
    pub own : has new
    pub goes_on : GoesOn (held old) (held new)
    pub gate : IsAskedOften cuts endless old new (was_cut_in done)
    pub worked :
        IfSome done
        (λ outcomes. HasWorked o (Rose (cuts old) (cuts new)) (held old) (held new) lines outcomes)
    pub short : done ≡ None → (held new).part.cuts ≡ (held old).part.cuts

  -- So were the lines of each caller of a job: each pass is still there, in its place.
  pub record AreWorked (job : Job) (olds news : List P) (done : List (Option (List Outcome)))
      : Type 0 where
    pub passes : length news ≡ length olds
    pub callers : length done ≡ length olds
    pub each :
        (caller : ℕ) (old new : P) (outcomes : Option (List Outcome))
        → slice_get olds caller ≡ Some old → slice_get news caller ≡ Some new
        → slice_get done caller ≡ Some outcomes
        → IsWorked (lines_of job caller) old new outcomes
