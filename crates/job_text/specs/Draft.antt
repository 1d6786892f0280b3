-- A job in the making.
use Rattle.std.specs.Prelude.{◌≡◌, ℕ, ◌+◌, List, [], ◌∷◌, ◌++◌, length, map, All}
use Rattle.job_text.specs.declared.draft.Draft.{Draft}
use Rattle.job_text.specs.declared.job.Job.{Job}
use Rattle.job_text.specs.declared.job.Stop.{Stop}
use Rattle.job_text.specs.declared.job.JobFault.{JobFault}
use Rattle.job_text.specs.declared.job.JobFault.TheVariants as faults
use Rattle.job_text.specs.declared.job_refusal.JobRefusal.{JobRefusal}
use Rattle.job_text.specs.declared.job_refusal.JobRefusal.TheVariants.{Text, Read, Memory}
use Rattle.job_text.specs.Lines.{spaced}
use Rattle.job_text.specs.Grammar.{job_of, IsJob, Rises, IsStop}
use Rattle.job_text.specs.JobText.{job_lines, BeginsStop}

abbrev pub so_far : Draft → Job
so_far d = job_of d.head d.stops d.lines

-- how many lines its text has
abbrev pub lines_so_far : Draft → ℕ
lines_so_far d = 1 + length d.stops + length d.lines

-- a stop may come next: after stops of lower callers alone
pub record MayStop (d : Draft) (s : Stop) : Type 0 where
  pub early : d.lines ≡ []
  pub is_stop : IsStop d.head s
  pub rising : All (λ t. Rises t s) d.stops

-- the same job with one line more
pub record Adds (old new : Draft) (line : List ℕ) : Type 0 where
  pub draft : IsJob (so_far new)
  pub lines : map spaced (job_lines (so_far new)) ≡ map spaced (job_lines (so_far old)) ++ line ∷ []
  pub count : lines_so_far new ≡ lines_so_far old + 1

-- no job goes on with this line
abbrev pub NoneGoesOn : Draft → List ℕ → Type 0
NoneGoesOn d line =
    (k : Job) → IsJob k
    → map spaced (job_lines k) ≡ map spaced (job_lines (so_far d)) ++ line ∷ [] → ⊥

abbrev pub IsFaultBehind : Draft → List ℕ → JobFault → Type 0
IsFaultBehind d line faults.Many = ⊥
IsFaultBehind d line faults.Long = ⊥
IsFaultBehind d line faults.Unended = ⊥
IsFaultBehind d line faults.Header = ⊥
IsFaultBehind d line faults.Stop = BeginsStop line × NoneGoesOn d line
IsFaultBehind d line faults.Operation = ¬ BeginsStop line × NoneGoesOn d line

abbrev pub IsNotAdded : Draft → List ℕ → JobRefusal → Type 0
IsNotAdded d line (Text at fault) = (at ≡ lines_so_far d + 1) × IsFaultBehind d line fault
IsNotAdded d line Read = ⊥
IsNotAdded d line Memory = Unit {0}
