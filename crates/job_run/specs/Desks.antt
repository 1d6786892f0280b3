-- What all callers leave on their desks.
use Rattle.std.specs.Prelude.{◌≡◌, ℕ, Bool, List, length, slice_get, Some, None}
use Rattle.heap_rule.specs.declared.rule.Opening.{Opening}
use Rattle.heap_rule.specs.declared.views.CallerKnown.{CallerKnown}
use Rattle.job_text.specs.declared.job.Job.{Job}
use Rattle.job_text.specs.Report.{lines_of}
use Rattle.job_run.specs.declared.desks.Desk.{Desk}
use Rattle.job_run.specs.Run.{IsWorked}

-- where nothing was done yet
abbrev pub empty_desk : {P : Type 0} → P → Desk P
empty_desk p = record { pass = p; done = None }

-- each has carried out what the job asks of it
pub record AreLeft {P : Type 0} (o : Opening) (has : P → Type 0) (held : P → CallerKnown)
    (cuts : P → ℕ) (endless : P → Bool) (job : Job) (olds news : List (Desk P)) : Type 0 where
  pub places : length news ≡ length olds
  pub each :
      (caller : ℕ) (old new : Desk P) → slice_get olds caller ≡ Some old
      → slice_get news caller ≡ Some new
      → IsWorked o has held cuts endless (lines_of job caller) old.pass new.pass new.done
