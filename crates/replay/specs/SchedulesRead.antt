-- What is left of a source, and of its count of faults, where a schedule was read of it.
use Rattle.std.specs.Prelude.{◌≡◌, ℕ, ◌<◌, ◌≤◌, ◌⊎◌, List, [], ◌++◌, length, Option, Result, Ok, Err}
use Rattle.std.specs.Io.KnownBytes.{IsAtEnd}
use Rattle.mont_base.specs.Faults.{Rose}
use Rattle.mont_base.specs.Losses.{LosesAtMost, LosesFirst}
use Rattle.source_bytes.specs.declared.read_refusal.ReadRefusal.{ReadRefusal}
use Rattle.source_bytes.specs.declared.read_refusal.ReadRefusal.TheVariants as reads
use Rattle.replay.specs.declared.schedule_limits.TheConstants.{SCHEDULE_LINES, SCHEDULE_LINE_BYTES, SCHEDULE_BYTES}
use Rattle.job_text.specs.Parts.{Lacks, IsSplit}
use Rattle.replay.specs.ScheduleText.{IsFirstRefused}
use Rattle.replay.specs.declared.schedule_refusal.ScheduleRefusal.{ScheduleRefusal}
use Rattle.replay.specs.declared.schedule_refusal.ScheduleRefusal.TheVariants.{Text, Read, Memory}

-- a source that wasn't read gives no schedule
abbrev pub as_schedule_refusal : ReadRefusal → ScheduleRefusal
as_schedule_refusal reads.Read = Read
as_schedule_refusal reads.Memory = Memory

-- a refusal for what the source or memory did, and not for the text
abbrev pub IsOutside : ScheduleRefusal → Type 0
IsOutside (Text line) = ⊥
IsOutside Read = Unit {0}
IsOutside Memory = Unit {0}

-- A schedule was read to the end. For a line of a text it was read to the end, or as many bytes as
-- are read at most. Where the source failed or memory ran out it may be fewer.
abbrev pub IsTaken : {X : Type 0} (old new : Option (List ℕ)) → Result X ScheduleRefusal → Type 0
IsTaken old new (Ok schedule) = LosesFirst SCHEDULE_BYTES old new × IsAtEnd new
IsTaken old new (Err (Text line)) = LosesFirst SCHEDULE_BYTES old new
IsTaken old new (Err Read) = LosesAtMost SCHEDULE_BYTES old new
IsTaken old new (Err Memory) = LosesAtMost SCHEDULE_BYTES old new

-- the count of faults rose where it is said that the source failed, and nowhere else
abbrev pub TellsFaults : {X : Type 0} (before now : ℕ) → Result X ScheduleRefusal → Type 0
TellsFaults before now (Ok schedule) = now ≡ before
TellsFaults before now (Err (Text line)) = now ≡ before
TellsFaults before now (Err Read) = (before ≤ now) × Rose before now
TellsFaults before now (Err Memory) = now ≡ before

-- ---- the bytes that were read
-- what may follow them: nothing, unless so many were
abbrev pub MayExtend : List ℕ → List ℕ → Type 0
MayExtend text more = (more ≡ []) ⊎ (SCHEDULE_BYTES ≤ length text)

-- why these bytes of a text give no schedule
abbrev pub IsRefusal : List ℕ → ScheduleRefusal → Type 0
IsRefusal text (Text line) =
    (more : List ℕ) → MayExtend text more → IsFirstRefused (text ++ more) line
IsRefusal text Read = ⊥
IsRefusal text Memory = Unit {0}

-- the text begins with a line that is ended, short and not one too many
pub record BeginsWith (text : List ℕ) (place : ℕ) (line after : List ℕ) : Type 0 where
  pub ended : IsSplit 10 text line after
  pub early : place < SCHEDULE_LINES
  pub short : length line ≤ SCHEDULE_LINE_BYTES

-- it begins with one that is too long
pub record IsTooLong (text : List ℕ) : Type 0 where
  pub line : List ℕ
  pub after : List ℕ
  pub ended : IsSplit 10 text line after
  pub long : SCHEDULE_LINE_BYTES < length line

-- why it doesn't begin with such a line
abbrev pub IsNoLine : List ℕ → ℕ → Type 0
IsNoLine text place = (SCHEDULE_LINES ≤ place) ⊎ Lacks 10 text ⊎ IsTooLong text
