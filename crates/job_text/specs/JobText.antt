-- The text of a job, and which line of another text is refused.
use Rattle.std.specs.Prelude.{◌≡◌, ℕ, ◌+◌, ◌<◌, List, [], ◌∷◌, ◌++◌, length, take, map, codes, decimal, ◌==◌}
use Rattle.std.specs.List.{before_first}
use Rattle.mont_base.specs.Layout.{Shape, letters_of}
use Rattle.job_text.specs.declared.limits.TheConstants.{MOST_LINES, LINE_BYTES}
use Rattle.job_text.specs.declared.header.Head.{Head}
use Rattle.job_text.specs.declared.job.Job.{Job}
use Rattle.job_text.specs.declared.job.Line.{Line}
use Rattle.job_text.specs.declared.job.Stop.{Stop}
use Rattle.job_text.specs.declared.job.Deed.{Deed}
use Rattle.job_text.specs.declared.job.Deed.TheVariants.{Call, Tick, Sync}
use Rattle.job_text.specs.declared.job.JobFault.{JobFault}
use Rattle.job_text.specs.declared.job.JobFault.TheVariants as faults
use Rattle.job_text.specs.Lines.{spaced, text_of, parts_of, line_at, IsEnded, HasLine}
use Rattle.job_text.specs.Spelling.{hex_digits, op_words}
use Rattle.job_text.specs.Grammar.{IsJob, head_of}

-- the version, the kinds and the slots of the units, and the callers: so begin jobs and reports
abbrev pub store_words : Shape → ℕ → List (List ℕ)
store_words s callers = codes "3" ∷ letters_of s.kinds ∷ decimal s.slots ∷ decimal callers ∷ []

abbrev pub head_words : Head → List (List ℕ)
head_words h =
    codes "montage-job"
    ∷ (store_words h.layout h.callers ++ decimal h.attempts ∷ hex_digits 16 h.mask ∷ [])

-- the words after the first two
abbrev pub head_tail : Head → List (List ℕ)
head_tail h =
    letters_of h.layout.kinds
    ∷ decimal h.layout.slots ∷ decimal h.callers ∷ decimal h.attempts ∷ hex_digits 16 h.mask ∷ []

-- what stands before the mask
abbrev pub head_front : Head → List ℕ
head_front h =
    codes "montage-job 3 "
    ++ (letters_of h.layout.kinds ++ 32
    ∷ (decimal h.layout.slots ++ 32
    ∷ (decimal h.callers ++ 32 ∷ (decimal h.attempts ++ 32 ∷ []))))

abbrev pub deed_words : Deed → List (List ℕ)
deed_words (Call op) = op_words op
deed_words Tick = codes "tick" ∷ []
deed_words Sync = codes "sync" ∷ []

abbrev pub stop_words : Stop → List (List ℕ)
stop_words s = codes "stop" ∷ decimal s.who ∷ decimal s.steps ∷ []

abbrev pub line_words : Line → List (List ℕ)
line_words l = decimal l.caller ∷ deed_words l.deed

abbrev pub job_lines : Job → List (List (List ℕ))
job_lines j = head_words (head_of j) ∷ (map stop_words j.stops ++ map line_words j.lines)

-- the one text of a job
abbrev pub job_text : Job → List ℕ
job_text j = text_of (job_lines j)

-- the first word of a line
abbrev pub first_word : List ℕ → List ℕ
first_word line = before_first (λ b. b == 32) line

abbrev pub BeginsStop : List ℕ → Type 0
BeginsStop line = first_word line ≡ codes "stop"

-- a line, counted from 0, may stand where the lines up to it are those of some job
pub record MayStand (text : List ℕ) (i : ℕ) : Type 0 where
  pub job : Job
  pub is_job : IsJob job
  pub lines : take (i + 1) (parts_of text) ≡ map spaced (job_lines job)

-- what each fault says of a line
abbrev pub IsFaultOf : List ℕ → ℕ → JobFault → Type 0
IsFaultOf text i faults.Many = i ≡ MOST_LINES
IsFaultOf text i faults.Long = LINE_BYTES < length (line_at text i)
IsFaultOf text i faults.Unended = ¬ IsEnded text i
IsFaultOf text i faults.Header = (i ≡ 0) × ¬ MayStand text i
IsFaultOf text i faults.Stop =
    (0 < i) × BeginsStop (line_at text i) × ¬ MayStand text i
IsFaultOf text i faults.Operation =
    (0 < i) × ¬ BeginsStop (line_at text i) × ¬ MayStand text i

-- the order in which faults are tried
abbrev pub rank : JobFault → ℕ
rank faults.Many = 0
rank faults.Long = 1
rank faults.Unended = 2
rank faults.Header = 3
rank faults.Stop = 4
rank faults.Operation = 5

-- The first line that has a fault, counted from 1, and the first fault that it has.
pub record IsFirstRefused (text : List ℕ) (line : ℕ) (fault : JobFault) : Type 0 where
  pub place : ℕ
  pub counted : line ≡ place + 1
  pub there : HasLine text place
  pub has_fault : IsFaultOf text place fault
  pub first_fault :
      (other : JobFault) → rank other < rank fault → ¬ IsFaultOf text place other
  pub first_line : (i : ℕ) → i < place → (other : JobFault) → ¬ IsFaultOf text i other
