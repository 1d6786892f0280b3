-- What is found where a job's text is read line by line.
use Rattle.std.specs.Prelude.{◌≡◌, ℕ, ◌<◌, ◌≤◌, ◌⊎◌, List, [], ◌++◌, length}
use Rattle.job_text.specs.declared.limits.TheConstants.{MOST_LINES, LINE_BYTES, READ_BYTES}
use Rattle.job_text.specs.declared.header.Head.{Head}
use Rattle.job_text.specs.declared.job.JobFault.{JobFault}
use Rattle.job_text.specs.declared.job.JobFault.TheVariants as faults
use Rattle.job_text.specs.declared.job_refusal.JobRefusal.{JobRefusal}
use Rattle.job_text.specs.declared.job_refusal.JobRefusal.TheVariants.{Text, Read, Memory}
use Rattle.job_text.specs.Lines.{spaced, line_at}
use Rattle.job_text.specs.Grammar.{IsHead}
use Rattle.job_text.specs.JobText.{head_words, IsFirstRefused}
use Rattle.job_text.specs.Parts.{Lacks, IsSplit}

-- what may follow the bytes that were read: nothing, unless so many were
abbrev pub MayExtend : List ℕ → List ℕ → Type 0
MayExtend text more = (more ≡ []) ⊎ (READ_BYTES ≤ length text)

-- the front of a text that was read of it
abbrev pub IsReadOf : List ℕ → List ℕ → Type 0
IsReadOf text bytes = (more : List ℕ) × (text ≡ bytes ++ more) × MayExtend bytes more

-- a refusal for what the source or memory did, and not for the text
abbrev pub IsOutside : JobRefusal → Type 0
IsOutside (Text line fault) = ⊥
IsOutside Read = Unit {0}
IsOutside Memory = Unit {0}

-- why these bytes of a text give no job
abbrev pub IsRefusal : List ℕ → JobRefusal → Type 0
IsRefusal text (Text line fault) =
    (more : List ℕ) → MayExtend text more → IsFirstRefused (text ++ more) line fault
IsRefusal text Read = ⊥
IsRefusal text Memory = Unit {0}

-- the text begins with a line that is ended, short and not one too many
pub record BeginsWith (text : List ℕ) (place : ℕ) (line after : List ℕ) : Type 0 where
  pub ended : IsSplit 10 text line after
  pub early : place < MOST_LINES
  pub short : length line ≤ LINE_BYTES

-- the first line is too long, whatever follows
abbrev pub IsLong : List ℕ → Type 0
IsLong text = (more : List ℕ) → LINE_BYTES < length (line_at (text ++ more) 0)

-- why the text doesn't, whatever follows it
abbrev pub IsNoLine : List ℕ → ℕ → JobFault → Type 0
IsNoLine text place faults.Many = MOST_LINES ≤ place
IsNoLine text place faults.Long = (place < MOST_LINES) × IsLong text
IsNoLine text place faults.Unended =
    (place < MOST_LINES) × Lacks 10 text × (length text ≤ LINE_BYTES)
IsNoLine text place faults.Header = ⊥
IsNoLine text place faults.Stop = ⊥
IsNoLine text place faults.Operation = ⊥

-- the text begins with a header
pub record BeginsWithHead (text : List ℕ) (h : Head) (after : List ℕ) : Type 0 where
  pub line : List ℕ
  pub begins : BeginsWith text 0 line after
  pub is_head : IsHead h
  pub spelled : line ≡ spaced (head_words h)

-- it begins with a line that is no header
pub record HasNoHead (text : List ℕ) : Type 0 where
  pub line : List ℕ
  pub after : List ℕ
  pub begins : BeginsWith text 0 line after
  pub none : (h : Head) → IsHead h → line ≡ spaced (head_words h) → ⊥

abbrev pub IsNoHead : List ℕ → JobFault → Type 0
IsNoHead text faults.Many = IsNoLine text 0 faults.Many
IsNoHead text faults.Long = IsNoLine text 0 faults.Long
IsNoHead text faults.Unended = IsNoLine text 0 faults.Unended
IsNoHead text faults.Header = HasNoHead text
IsNoHead text faults.Stop = ⊥
IsNoHead text faults.Operation = ⊥
