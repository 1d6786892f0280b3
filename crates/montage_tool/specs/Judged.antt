-- A report that is held against an image, and a schedule that is replayed: what is given, what may
-- be written of it, and why nothing is.
use Rattle.std.specs.Prelude.{◌≡◌, ◌⊎◌, ℕ, ◌<◌, ◌≤◌, List, [], ◌∷◌, ◌++◌, length, false, true, Option, Some, IfSome}
use Rattle.image_units.specs.declared.image_fault.ImageFault.{ImageFault}
use Rattle.image_units.specs.declared.image_fault.ImageFault.TheVariants.{Magic, Version, Layout, Clock, Short, Long, Slot, Twice, Object}
use Rattle.job_text.specs.Report.{Report}
use Rattle.job_text.specs.ReportRanges.{IsFirstWrong, IsReport}
use Rattle.job_text.specs.ReportText.{report_text}
use Rattle.mont_image.specs.declared.image_refusal.ImageRefusal.TheVariants as bytes
use Rattle.mont_image.specs.ImageText.{ImageParts}
use Rattle.replay.specs.declared.schedule.Schedule.{Schedule}
use Rattle.replay.specs.Replays.{IsAllAllowed, IsFirstNotAllowed, IsReplay}
use Rattle.replay.specs.Schedules.{IsSchedule}
use Rattle.replay.specs.ScheduleText.{IsFirstRefused, schedule_text}
use Rattle.report_check.specs.declared.verdict.Verdict.{Verdict}
use Rattle.report_check.specs.ReportVerdict.{IsVerdict}
use Rattle.report_check.specs.VerdictWords.{verdict_words}
use Rattle.montage_tool.specs.declared.read_inputs.TheConstants.{REPORT_BYTES}
use Rattle.montage_tool.specs.declared.status.Status.{Status}
use Rattle.montage_tool.specs.declared.status.Status.TheVariants.{BadImage, ReadFault, Memory, BadReport, NotAllowed, BadSchedule}
use Rattle.montage_tool.specs.declared.status.SourceName.TheVariants as sources
use Rattle.montage_tool.specs.Inputs.{HasBadBytes, IsImageOf, TellsImage}

-- ---- a report
-- a report that a source had left: where the source tells its bytes, they are the report's text
pub record IsReportOf (left : Option (List ℕ)) (r : Report) : Type 0 where
  pub is_report : IsReport r
  pub spelled : IfSome left (λ text. (text ≡ report_text r) × (length text ≤ REPORT_BYTES))

-- it tells the report's text, which isn't too long
pub record TellsReport (left : Option (List ℕ)) (r : Report) : Type 0 where
  pub is_report : IsReport r
  pub told : left ≡ Some (report_text r)
  pub few : length (report_text r) ≤ REPORT_BYTES

-- its bytes are too many, which is told as line 0, or no report's text, which is refused at this
-- line
abbrev pub IsWrongReport : List ℕ → ℕ → Type 0
IsWrongReport text line =
    ((line ≡ 0) × (REPORT_BYTES < length text))
    ⊎ ((length text ≤ REPORT_BYTES) × IsFirstWrong text line)

abbrev pub RefusesReport : Option (List ℕ) → Status → Type 0
RefusesReport left (ReadFault sources.Job) = Unit {0}
RefusesReport left (BadReport line) = IfSome left (λ text. IsWrongReport text line)
RefusesReport left Memory = Unit {0}
RefusesReport left _ = ⊥

-- ---- the image beside it, of whose faults those of the bytes are told
abbrev pub HasFaultyBytes : Option (List ℕ) → ImageFault → Type 0
HasFaultyBytes left Magic = HasBadBytes left bytes.Magic
HasFaultyBytes left Version = HasBadBytes left bytes.Version
HasFaultyBytes left Layout = HasBadBytes left bytes.Layout
HasFaultyBytes left Clock = HasBadBytes left bytes.Clock
HasFaultyBytes left (Short words) = HasBadBytes left (bytes.Short words)
HasFaultyBytes left Long = HasBadBytes left bytes.Long
HasFaultyBytes left (Slot slot fault) = ⊥
HasFaultyBytes left (Twice slot other) = ⊥
HasFaultyBytes left (Object unit slot fault) = ⊥

abbrev pub RefusesBytes : Option (List ℕ) → Status → Type 0
RefusesBytes left (ReadFault sources.Image) = Unit {0}
RefusesBytes left (BadImage fault) = HasFaultyBytes left fault
RefusesBytes left Memory = Unit {0}
RefusesBytes left _ = ⊥

-- a whole text of the first version has a wrong version here
pub record IsOldImage (left : Option (List ℕ)) : Type 0 where
  pub parts : ImageParts
  pub of_image : IsImageOf left parts
  pub old : parts.old ≡ true

abbrev pub RefusesNewImage : Option (List ℕ) → Status → Type 0
RefusesNewImage left (BadImage Version) = HasBadBytes left bytes.Version ⊎ IsOldImage left
RefusesNewImage left status = RefusesBytes left status

-- ---- both
-- the line that tells the verdict of a report on an image
pub record IsHeld (left image : Option (List ℕ)) (text : List ℕ) : Type 0 where
  pub report : Report
  pub of_report : IsReportOf left report
  pub parts : ImageParts
  pub of_image : IsImageOf image parts
  pub new : parts.old ≡ false
  pub verdict : Verdict
  pub is : IsVerdict report parts.layout parts.words verdict
  pub text_is : text ≡ verdict_words verdict ++ 10 ∷ []

abbrev pub RefusesCheck : Option (List ℕ) → Option (List ℕ) → Status → Type 0
RefusesCheck left image status =
    RefusesReport left status
    ⊎ (((r : Report) × IsReportOf left r) × RefusesNewImage image status)

pub record MayBeHeld (left image : Option (List ℕ)) : Type 0 where
  pub report : Report
  pub parts : ImageParts
  pub told : TellsReport left report
  pub told_image : TellsImage image parts
  pub new : parts.old ≡ false

-- ---- a schedule
-- a schedule that a source had left: where the source tells its bytes, they are the schedule's text
pub record IsScheduleOf (left : Option (List ℕ)) (s : Schedule) : Type 0 where
  pub is_schedule : IsSchedule s
  pub spelled : IfSome left (λ text. text ≡ schedule_text s)

abbrev pub RefusesSchedule : Option (List ℕ) → Status → Type 0
RefusesSchedule left (ReadFault sources.Job) = Unit {0}
RefusesSchedule left (BadSchedule line) = IfSome left (λ text. IsFirstRefused text line)
RefusesSchedule left Memory = Unit {0}
RefusesSchedule left _ = ⊥

-- the text of its replay
abbrev pub IsReplayed : Option (List ℕ) → List ℕ → Type 0
IsReplayed left text = (s : Schedule) × IsScheduleOf left s × IsReplay s text

abbrev pub RefusesReplay : Option (List ℕ) → Status → Type 0
RefusesReplay left (NotAllowed line) =
    (s : Schedule) × IsScheduleOf left s × IsFirstNotAllowed s line
RefusesReplay left status = RefusesSchedule left status

pub record MayBeReplayed (left : Option (List ℕ)) : Type 0 where
  pub schedule : Schedule
  pub is_schedule : IsSchedule schedule
  pub told : left ≡ Some (schedule_text schedule)
  pub allowed : IsAllAllowed schedule
