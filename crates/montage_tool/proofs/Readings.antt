-- What was read of the sources, by what came of reading.
use Rattle.std.proofs.Common.{◌≡◌, ℕ, ◌+◌, List, [], ◌++◌, take, take-append-drop, length-take, refl, sym, ap, ◌∙◌, subst, arith}
use Rattle.std.specs.Prelude.{◌≢◌, Option, Some, None, IfSome, IfOk, IsErrAnd, Result, Ok, Err}
use Rattle.std.specs.Io.KnownBytes.{IsAtEnd}
use Rattle.std.proofs.lemmas.List.{drop_all}
use Rattle.mont_base.specs.Losses.{LosesAtMost, LosesFirst}
use Rattle.job_text.specs.declared.job.Job.{Job}
use Rattle.job_text.specs.declared.job.JobFault.{JobFault}
use Rattle.job_text.specs.declared.limits.TheConstants.{READ_BYTES}
use Rattle.job_text.specs.declared.job_refusal.JobRefusal.{JobRefusal}
use Rattle.job_text.specs.declared.job_refusal.JobRefusal.TheVariants as jobs
use Rattle.job_text.specs.JobText.{IsFirstRefused}
use Rattle.job_text.specs.Taken as taken
use Rattle.mont_image.specs.declared.image_refusal.ImageRefusal.{ImageRefusal}
use Rattle.mont_image.specs.declared.image_refusal.ImageRefusal.TheVariants as bytes
use Rattle.mont_image.specs.declared.image_text.TheConstants.{IMAGE_BYTES}
use Rattle.mont_image.specs.declared.stored_image.Image.{Image}
use Rattle.mont_image.specs.ImageReader.{IsAnswerTo, parts_of}
use Rattle.mont_image.specs.ImageReader as reader
use Rattle.mont_image.specs.ImageRefusal as refusals
use Rattle.mont_image.specs.ImageText.{IsTextOf, asked_of, image_in}
use Rattle.mont_image.proofs.Texts.{text_asked}
use Rattle.replay.specs.declared.schedule.Schedule.{Schedule}
use Rattle.replay.specs.declared.schedule_limits.TheConstants.{SCHEDULE_BYTES}
use Rattle.replay.specs.declared.schedule_refusal.ScheduleRefusal.{ScheduleRefusal}
use Rattle.replay.specs.declared.schedule_refusal.ScheduleRefusal.TheVariants as schedules
use Rattle.replay.specs.SchedulesRead as scheduled
use Rattle.montage_tool.specs.declared.status.Status.{Status}
use Rattle.montage_tool.specs.declared.status.Status.TheVariants.{Done, ReadFault}
use Rattle.montage_tool.specs.declared.status.SourceName.{SourceName}
use Rattle.montage_tool.specs.declared.status.SourceName.TheVariants as sources
use Rattle.montage_tool.specs.Devices.{HasOutput, IsRead, SourceSeen, ended_as}
use Rattle.montage_tool.specs.Inputs.{HasBadBytes}
use Rattle.montage_tool.specs.Service.{RefusesImage, RefusesJob}
use Rattle.montage_tool.specs.StatusCauses.{of_image, of_job, of_schedule}

-- what has lost its first bytes has lost some of them
pub lost_some : (most : ℕ) (old new : Option (List ℕ)) → LosesFirst most old new → LosesAtMost most old new
lost_some most None new lost = ([], omega arith, tt)
lost_some most (Some bytes) None lost = absurd lost
lost_some most (Some bytes) (Some rest) lost =
    (take most bytes, omega (arith, length-take most bytes), sym (take-append-drop most bytes) ∙ ap (λ l. take most bytes ++ l) (sym lost))

if_told : (known : Option (List ℕ)) (P : Type 0) → P → IfSome known (λ text. P)
if_told None P p = tt
if_told (Some text) P p = p

-- what is told of a refusal is told of the result that has it
pub read_as : {A : Type 0} (P : Status → Type 0) (result : Result A Status) (status : Status) → IsErrAnd result (λ s. s ≡ status)
    → P status → P (ended_as result)
read_as P (Ok a) status is has = absurd is
read_as P (Err s) status is has = subst P (sym is) has

-- where nothing is written, and for another cause than that the source failed
pub unread : (most : ℕ) (name : SourceName) (old new : SourceSeen) (status : Status) → status ≢ ReadFault name → ¬ HasOutput status
    → LosesAtMost most old.left new.left → new.faults ≡ old.faults → IsRead most name old new status
unread most name old new status read none few cause = record {
  few = few;
  ended = λ written. absurd (none written);
  failed = λ e. absurd (read e);
  kept = λ others. cause;
}

-- what holds of a result's value
pub if_ok : {A : Type 0} (P : A → Type 0) (result : Result A Status) (a : A) → result ≡ Ok a → P a → IfOk result P
if_ok P result a is has = subst (λ (r : Result _ Status). IfOk r P) (sym is) has

-- ---- the job
module _ (old new : SourceSeen) where
  pub job_read : (j : Job) → taken.IsTaken {J = Job} old.left new.left (Ok j) → taken.TellsFaults {J = Job} old.faults new.faults (Ok j)
      → IsRead READ_BYTES sources.Job old new Done
  job_read j took cause = record {
    few = lost_some READ_BYTES old.left new.left took.0;
    ended = λ written. if_told old.left (IsAtEnd new.left) took.1;
    failed = λ e. absurd (cc);
    kept = λ others. cause;
  }

  pub job_unread : (refusal : JobRefusal) → taken.IsTaken {J = Job} old.left new.left (Err refusal)
      → taken.TellsFaults {J = Job} old.faults new.faults (Err refusal) → IsRead READ_BYTES sources.Job old new (of_job refusal)
  job_unread (jobs.Text line fault) took cause = record {
    few = lost_some READ_BYTES old.left new.left took;
    ended = λ written. absurd written;
    failed = λ e. absurd (cc);
    kept = λ others. cause;
  }
  job_unread jobs.Read took cause = record {
    few = took;
    ended = λ written. absurd written;
    failed = λ e. cause.1;
    kept = λ others. absurd (others refl);
  }
  job_unread jobs.Memory took cause = record {
    few = took;
    ended = λ written. absurd written;
    failed = λ e. absurd (cc);
    kept = λ others. cause;
  }

-- ---- a schedule
module _ (old new : SourceSeen) where
  pub schedule_read : (s : Schedule) → scheduled.IsTaken {X = Schedule} old.left new.left (Ok s)
      → scheduled.TellsFaults {X = Schedule} old.faults new.faults (Ok s) → IsRead SCHEDULE_BYTES sources.Job old new Done
  schedule_read s took cause = record {
    few = lost_some SCHEDULE_BYTES old.left new.left took.0;
    ended = λ written. if_told old.left (IsAtEnd new.left) took.1;
    failed = λ e. absurd (cc);
    kept = λ others. cause;
  }

  pub schedule_unread : (refusal : ScheduleRefusal) → scheduled.IsTaken {X = Schedule} old.left new.left (Err refusal)
      → scheduled.TellsFaults {X = Schedule} old.faults new.faults (Err refusal)
      → IsRead SCHEDULE_BYTES sources.Job old new (of_schedule refusal)
  schedule_unread (schedules.Text line) took cause =
      unread SCHEDULE_BYTES sources.Job old new (of_schedule (schedules.Text line)) (λ e. absurd (cc)) (λ w. w)
      (lost_some SCHEDULE_BYTES old.left new.left took) cause
  schedule_unread schedules.Read took cause = record {
    few = took;
    ended = λ written. absurd written;
    failed = λ e. cause.1;
    kept = λ others. absurd (others refl);
  }
  schedule_unread schedules.Memory took cause =
      unread SCHEDULE_BYTES sources.Job old new (of_schedule schedules.Memory) (λ e. absurd (cc)) (λ w. w) took cause

pub job_refused : (left : Option (List ℕ)) (refusal : JobRefusal)
    → ((line : ℕ) (fault : JobFault) → refusal ≡ jobs.Text line fault → IfSome left (λ text. IsFirstRefused text line fault))
    → RefusesJob left (of_job refusal)
job_refused left (jobs.Text line fault) refused = refused line fault refl
job_refused left jobs.Read refused = tt
job_refused left jobs.Memory refused = tt

-- ---- the image
ended_of : (known new : Option (List ℕ)) (i : Image) → IfSome known (λ text. IsTextOf text (parts_of i))
    → IfSome known (λ text. reader.IsTaken {A = Image} text new (Ok i)) → IfSome known (λ _. IsAtEnd new)
ended_of None new i is took = tt
ended_of (Some text) None i is took = absurd took
ended_of (Some text) (Some rest) i is took = took ∙ drop_all (asked_of text) text (text_asked text (parts_of i) is)

module _ (old new : SourceSeen) where
  pub image_read : (i : Image) → IfSome old.left (λ text. IsTextOf text (parts_of i)) → LosesAtMost (IMAGE_BYTES + 1) old.left new.left
      → IfSome old.left (λ text. reader.IsTaken {A = Image} text new.left (Ok i))
      → refusals.TellsFaults {A = Image} old.faults new.faults (Ok i) → IsRead (IMAGE_BYTES + 1) sources.Image old new Done
  image_read i is few took cause = record {
    few = few;
    ended = λ written. ended_of old.left new.left i is took;
    failed = λ e. absurd (cc);
    kept = λ others. cause;
  }

  pub image_unread : (refusal : ImageRefusal) → LosesAtMost (IMAGE_BYTES + 1) old.left new.left
      → refusals.TellsFaults {A = Image} old.faults new.faults (Err refusal)
      → IsRead (IMAGE_BYTES + 1) sources.Image old new (of_image refusal)
  image_unread bytes.Magic few cause =
      unread (IMAGE_BYTES + 1) sources.Image old new (of_image bytes.Magic) (λ e. absurd (cc)) (λ w. w) few cause
  image_unread bytes.Version few cause =
      unread (IMAGE_BYTES + 1) sources.Image old new (of_image bytes.Version) (λ e. absurd (cc)) (λ w. w) few cause
  image_unread bytes.Layout few cause =
      unread (IMAGE_BYTES + 1) sources.Image old new (of_image bytes.Layout) (λ e. absurd (cc)) (λ w. w) few cause
  image_unread bytes.Clock few cause =
      unread (IMAGE_BYTES + 1) sources.Image old new (of_image bytes.Clock) (λ e. absurd (cc)) (λ w. w) few cause
  image_unread (bytes.Short words) few cause =
      unread (IMAGE_BYTES + 1) sources.Image old new (of_image (bytes.Short words)) (λ e. absurd (cc)) (λ w. w) few cause
  image_unread bytes.Long few cause =
      unread (IMAGE_BYTES + 1) sources.Image old new (of_image bytes.Long) (λ e. absurd (cc)) (λ w. w) few cause
  image_unread bytes.Read few cause = record {
    few = few;
    ended = λ written. absurd written;
    failed = λ e. cause.1;
    kept = λ others. absurd (others refl);
  }
  image_unread bytes.Memory few cause =
      unread (IMAGE_BYTES + 1) sources.Image old new (of_image bytes.Memory) (λ e. absurd (cc)) (λ w. w) few cause

refused_bytes : (known : Option (List ℕ)) (refusal : ImageRefusal)
    → ((text : List ℕ) → IsAnswerTo (Err refusal) text → image_in text ≡ Err refusal) → IfSome known (IsAnswerTo (Err refusal))
    → HasBadBytes known refusal
refused_bytes None refusal told answer = tt
refused_bytes (Some text) refusal told answer = told text answer

pub image_refused : (left : Option (List ℕ)) (refusal : ImageRefusal) → IfSome left (IsAnswerTo (Err refusal))
    → RefusesImage left (of_image refusal)
image_refused left bytes.Magic answer = refused_bytes left bytes.Magic (λ text is. is) answer
image_refused left bytes.Version answer = refused_bytes left bytes.Version (λ text is. is) answer
image_refused left bytes.Layout answer = refused_bytes left bytes.Layout (λ text is. is) answer
image_refused left bytes.Clock answer = refused_bytes left bytes.Clock (λ text is. is) answer
image_refused left (bytes.Short words) answer = refused_bytes left (bytes.Short words) (λ text is. is) answer
image_refused left bytes.Long answer = refused_bytes left bytes.Long (λ text is. is) answer
image_refused left bytes.Read answer = tt
image_refused left bytes.Memory answer = tt
