-- What came of a form is what its contract says.
use Rattle.std.proofs.Common.{◌≡◌, ◌⊎◌, ℕ, List, inl, inr, refl, subst}
use Rattle.std.specs.Prelude.{◌≢◌, Option, Some, None}
use Rattle.std.specs.Io.KnownBytes.{IsAtEnd}
use Rattle.job_text.specs.declared.job.Job.{Job}
use Rattle.job_text.specs.declared.job.JobFault.{JobFault}
use Rattle.bank_job.specs.Bank.{bank_layout}
use Rattle.big_job.specs.Generated.{generated_head}
use Rattle.mont_base.specs.Faults.{Rose}
use Rattle.montage_tool.specs.declared.forms.Form.{Form}
use Rattle.montage_tool.specs.declared.forms.Form.TheVariants as forms
use Rattle.montage_tool.specs.declared.status.Status.{Status}
use Rattle.montage_tool.specs.declared.status.Status.TheVariants.{Done, BadWords, BadJob, BadImage, ReadFault, WriteFault, Memory, BadIndex, OtherLayout, BadReport, NotAllowed, BadSchedule}
use Rattle.montage_tool.specs.declared.status.SinkName.{SinkName}
use Rattle.montage_tool.specs.declared.status.SinkName.TheVariants as sinks
use Rattle.montage_tool.specs.declared.status.SourceName.{SourceName}
use Rattle.montage_tool.specs.declared.status.SourceName.TheVariants as sources
use Rattle.montage_tool.specs.Devices.{Devices, HasOutput, IsRead, IsUsed, IsWritten, Output, SinkSeen, SourceSeen, StopsAtJob, TakesImageFront}
use Rattle.montage_tool.specs.Forms.{AsksJob, KeepsImage, image_bytes, job_bytes}
use Rattle.montage_tool.specs.Inputs.{Inputs, TellsJob, inputs}
use Rattle.montage_tool.specs.Service.{Comes, Gives, IsOfInputs, MayBeDone, Refuses, RefusesFresh, RefusesImage, RefusesJob, RefusesResumed, Serves, SinksFail, SourcesFail, TellsInputs}
use Rattle.montage_tool.proofs.Told.{IsOutside, may_outside, never_words, told_not_refused}
use Rattle.montage_tool.proofs.StoreRefused.{store_quiet}
use Rattle.montage_tool.proofs.Exactly.{given_not_refused, refused_once}

-- ---- a refusal says that nothing was written
pub job_quiet : (left : Option (List ℕ)) (status : Status) → RefusesJob left status → ¬ HasOutput status
job_quiet left Done refused out = refused
job_quiet left (WriteFault which) refused out = refused
job_quiet left BadWords refused out = out
job_quiet left (BadJob line fault) refused out = out
job_quiet left (BadImage fault) refused out = out
job_quiet left (ReadFault which) refused out = out
job_quiet left Memory refused out = out
job_quiet left (BadIndex unit len) refused out = out
job_quiet left (OtherLayout kinds slots) refused out = out
job_quiet left (BadReport number) refused out = out
job_quiet left (NotAllowed number) refused out = out
job_quiet left (BadSchedule number) refused out = out

pub image_quiet : (left : Option (List ℕ)) (status : Status) → RefusesImage left status → ¬ HasOutput status
image_quiet left Done refused out = refused
image_quiet left (WriteFault which) refused out = refused
image_quiet left BadWords refused out = out
image_quiet left (BadJob line fault) refused out = out
image_quiet left (BadImage fault) refused out = out
image_quiet left (ReadFault which) refused out = out
image_quiet left Memory refused out = out
image_quiet left (BadIndex unit len) refused out = out
image_quiet left (OtherLayout kinds slots) refused out = out
image_quiet left (BadReport number) refused out = out
image_quiet left (NotAllowed number) refused out = out
image_quiet left (BadSchedule number) refused out = out

pub fresh_quiet : (i : Inputs) (status : Status) → RefusesFresh i status → ¬ HasOutput status
fresh_quiet i Done refused out = refused
fresh_quiet i (WriteFault which) refused out = refused
fresh_quiet i BadWords refused out = out
fresh_quiet i (BadJob line fault) refused out = out
fresh_quiet i (BadImage fault) refused out = out
fresh_quiet i (ReadFault which) refused out = out
fresh_quiet i Memory refused out = out
fresh_quiet i (BadIndex unit len) refused out = out
fresh_quiet i (OtherLayout kinds slots) refused out = out
fresh_quiet i (BadReport number) refused out = out
fresh_quiet i (NotAllowed number) refused out = out
fresh_quiet i (BadSchedule number) refused out = out

pub resumed_quiet : (i : Inputs) (status : Status) → RefusesResumed i status → ¬ HasOutput status
resumed_quiet i Done (inl refused) out = refused
resumed_quiet i Done (inr refused) out = refused.1
resumed_quiet i (WriteFault which) (inl refused) out = refused
resumed_quiet i (WriteFault which) (inr refused) out = refused.1
resumed_quiet i BadWords refused out = out
resumed_quiet i (BadJob line fault) refused out = out
resumed_quiet i (BadImage fault) refused out = out
resumed_quiet i (ReadFault which) refused out = out
resumed_quiet i Memory refused out = out
resumed_quiet i (BadIndex unit len) refused out = out
resumed_quiet i (OtherLayout kinds slots) refused out = out
resumed_quiet i (BadReport number) refused out = out
resumed_quiet i (NotAllowed number) refused out = out
resumed_quiet i (BadSchedule number) refused out = out

pub refuses_quiet : (form : Form) (i : Inputs) (status : Status) → Refuses form i status → ¬ HasOutput status
refuses_quiet forms.Run i status refused out = fresh_quiet i status refused out
refuses_quiet forms.Crash i status refused out = fresh_quiet i status refused out
refuses_quiet forms.Resume i status refused out = resumed_quiet i status refused out
refuses_quiet forms.ResumeTo i status refused out = resumed_quiet i status refused out
refuses_quiet (forms.Recover workers) i status refused out = image_quiet i.image status refused out
refuses_quiet forms.Check i Done (inl refused) out = refused
refuses_quiet forms.Check i Done (inr refused) out = refused.1
refuses_quiet forms.Check i (WriteFault which) (inl refused) out = refused
refuses_quiet forms.Check i (WriteFault which) (inr refused) out = refused.1
refuses_quiet forms.Check i BadWords refused out = out
refuses_quiet forms.Check i (BadJob line fault) refused out = out
refuses_quiet forms.Check i (BadImage fault) refused out = out
refuses_quiet forms.Check i (ReadFault which) refused out = out
refuses_quiet forms.Check i Memory refused out = out
refuses_quiet forms.Check i (BadIndex unit len) refused out = out
refuses_quiet forms.Check i (OtherLayout kinds slots) refused out = out
refuses_quiet forms.Check i (BadReport line) refused out = out
refuses_quiet forms.Check i (NotAllowed line) refused out = out
refuses_quiet forms.Check i (BadSchedule line) refused out = out
refuses_quiet forms.Replay i Done refused out = refused
refuses_quiet forms.Replay i (WriteFault which) refused out = refused
refuses_quiet forms.Replay i BadWords refused out = out
refuses_quiet forms.Replay i (BadJob line fault) refused out = out
refuses_quiet forms.Replay i (BadImage fault) refused out = out
refuses_quiet forms.Replay i (ReadFault which) refused out = out
refuses_quiet forms.Replay i Memory refused out = out
refuses_quiet forms.Replay i (BadIndex unit len) refused out = out
refuses_quiet forms.Replay i (OtherLayout kinds slots) refused out = out
refuses_quiet forms.Replay i (BadReport line) refused out = out
refuses_quiet forms.Replay i (NotAllowed line) refused out = out
refuses_quiet forms.Replay i (BadSchedule line) refused out = out
refuses_quiet (forms.Big number) i status refused out = store_quiet generated_head.layout i.boxes status refused out
refuses_quiet (forms.Bank number) i status refused out = store_quiet bank_layout i.boxes status refused out

-- ---- a sink or a source failed
front_fails : (image : Option (List ℕ)) (old new : SinkSeen) → TakesImageFront image old new → Rose old.faults new.faults
front_fails None old new front = absurd front
front_fails (Some bytes) old new front = front.failed

no_front : (image : Option (List ℕ)) (old new : SinkSeen) → image ≡ None → TakesImageFront image old new → ⊥
no_front image old new none front = subst (λ (im : Option (List ℕ)). TakesImageFront im old new) none front

-- an image is written by forms that keep one alone
front_kept : (form : Form) (i : Inputs) (o : Output) → Gives form i o → (old new : SinkSeen) → TakesImageFront o.image old new
    → KeepsImage form
front_kept forms.Run i o gives old new front = no_front o.image old new gives.2 front
front_kept forms.Crash i o gives old new front = tt
front_kept forms.Resume i o gives old new front = no_front o.image old new gives.2 front
front_kept forms.ResumeTo i o gives old new front = tt
front_kept (forms.Recover workers) i o gives old new front = no_front o.image old new gives.1 front
front_kept forms.Check i o gives old new front = no_front o.image old new gives.1 front
front_kept forms.Replay i o gives old new front = no_front o.image old new gives.1 front
front_kept (forms.Big number) i o gives old new front = no_front o.image old new gives.1 front
front_kept (forms.Bank number) i o gives old new front = no_front o.image old new gives.1 front

module _ (old new : Devices) where
  write_fails : (form : Form) (i : Inputs) (o : Output) (which : SinkName) → Gives form i o
      → IsWritten o old.out new.out old.image_out new.image_out (WriteFault which) → SinksFail form old new
  write_fails form i o sinks.Report gives written = inl written.0.failed
  write_fails form i o sinks.Image gives written =
      inr (front_kept form i o gives old.image_out new.image_out written.1, front_fails o.image old.image_out new.image_out written.1)

  read_fails : (form : Form) (i : Inputs) (which : SourceName) → Refuses form i (ReadFault which)
      → IsUsed (job_bytes form) sources.Job old.job new.job (ReadFault which)
      → IsUsed (image_bytes form) sources.Image old.image new.image (ReadFault which) → SourcesFail form old new
  read_fails forms.Run i sources.Job refused job image = inl (tt, job.failed refl)
  read_fails forms.Crash i sources.Job refused job image = inl (tt, job.failed refl)
  read_fails forms.Resume i sources.Job refused job image = inl (tt, job.failed refl)
  read_fails forms.ResumeTo i sources.Job refused job image = inl (tt, job.failed refl)
  read_fails (forms.Recover workers) i sources.Job refused job image = absurd refused
  read_fails forms.Run i sources.Image refused job image = absurd refused
  read_fails forms.Crash i sources.Image refused job image = absurd refused
  read_fails forms.Resume i sources.Image refused job image = inr (tt, image.failed refl)
  read_fails forms.ResumeTo i sources.Image refused job image = inr (tt, image.failed refl)
  read_fails (forms.Recover workers) i sources.Image refused job image = inr (tt, image.failed refl)
  read_fails forms.Check i sources.Job refused job image = inl (tt, job.failed refl)
  read_fails forms.Check i sources.Image refused job image = inr (tt, image.failed refl)
  read_fails forms.Replay i sources.Job refused job image = inl (tt, job.failed refl)
  read_fails forms.Replay i sources.Image refused job image = absurd refused
  read_fails (forms.Big number) i which refused job image = absurd refused
  read_fails (forms.Bank number) i which refused job image = absurd refused

-- ---- what may be done is done
module _ (form : Form) (boxes : List ℕ) (old new : Devices) where
  abbrev IsComplete : Status → Type 0
  IsComplete status =
      MayBeDone form (inputs old boxes) → ¬ SourcesFail form old new → ¬ SinksFail form old new → (status ≡ Done) ⊎ (status ≡ Memory)

  outside_done : (status : Status) → Refuses form (inputs old boxes) status
      → IsUsed (job_bytes form) sources.Job old.job new.job status
      → IsUsed (image_bytes form) sources.Image old.image new.image status → IsOutside status → ¬ SourcesFail form old new → status ≡ Memory
  outside_done (ReadFault which) refused job image outside none =
      absurd (none (read_fails old new form (inputs old boxes) which refused job image))
  outside_done Memory refused job image outside none = refl
  outside_done Done refused job image outside none = absurd outside
  outside_done BadWords refused job image outside none = absurd outside
  outside_done (BadJob line fault) refused job image outside none = absurd outside
  outside_done (BadImage fault) refused job image outside none = absurd outside
  outside_done (WriteFault which) refused job image outside none = absurd outside
  outside_done (BadIndex unit len) refused job image outside none = absurd outside
  outside_done (OtherLayout kinds slots) refused job image outside none = absurd outside
  outside_done (BadReport number) refused job image outside none = absurd outside
  outside_done (NotAllowed number) refused job image outside none = absurd outside
  outside_done (BadSchedule number) refused job image outside none = absurd outside

  written_done : (status : Status) (o : Output) → Gives form (inputs old boxes) o
      → IsWritten o old.out new.out old.image_out new.image_out status → ¬ SinksFail form old new → status ≡ Done
  written_done Done o gives written none = refl
  written_done (WriteFault which) o gives written none = absurd (none (write_fails old new form (inputs old boxes) o which gives written))
  written_done BadWords o gives written none = absurd written
  written_done (BadJob line fault) o gives written none = absurd written
  written_done (BadImage fault) o gives written none = absurd written
  written_done (ReadFault which) o gives written none = absurd written
  written_done Memory o gives written none = absurd written
  written_done (BadIndex unit len) o gives written none = absurd written
  written_done (OtherLayout kinds slots) o gives written none = absurd written
  written_done (BadReport number) o gives written none = absurd written
  written_done (NotAllowed number) o gives written none = absurd written
  written_done (BadSchedule number) o gives written none = absurd written

  completes : (status : Status) → Comes form (inputs old boxes) old new status
      → IsUsed (job_bytes form) sources.Job old.job new.job status
      → IsUsed (image_bytes form) sources.Image old.image new.image status → IsComplete status
  completes status (inl refused) job image may none able =
      inr (outside_done status refused.0 job image (may_outside form (inputs old boxes) may status refused.0) none)
  completes status (inr written) job image may none able = inl (written_done status written.0 written.1 written.2 able)

  exactly : (status : Status) → Comes form (inputs old boxes) old new status
      → IsUsed (job_bytes form) sources.Job old.job new.job status
      → IsUsed (image_bytes form) sources.Image old.image new.image status → (other : Status) → IsOfInputs other
      → TellsInputs form (inputs old boxes) → Refuses form (inputs old boxes) other → ¬ SourcesFail form old new
      → (status ≡ other) ⊎ (status ≡ Memory)
  exactly status (inr written) job image other of told refused none =
      absurd (given_not_refused form (inputs old boxes) told written.0 written.1 other of refused)
  exactly (BadJob line fault) (inl own) job image other of told refused none =
      inl (refused_once form (inputs old boxes) told (BadJob line fault) other tt of own.0 refused)
  exactly (BadImage fault) (inl own) job image other of told refused none =
      inl (refused_once form (inputs old boxes) told (BadImage fault) other tt of own.0 refused)
  exactly (OtherLayout kinds slots) (inl own) job image other of told refused none =
      inl (refused_once form (inputs old boxes) told (OtherLayout kinds slots) other tt of own.0 refused)
  exactly (BadReport number) (inl own) job image other of told refused none =
      inl (refused_once form (inputs old boxes) told (BadReport number) other tt of own.0 refused)
  exactly (NotAllowed number) (inl own) job image other of told refused none =
      inl (refused_once form (inputs old boxes) told (NotAllowed number) other tt of own.0 refused)
  exactly (BadSchedule number) (inl own) job image other of told refused none =
      inl (refused_once form (inputs old boxes) told (BadSchedule number) other tt of own.0 refused)
  exactly (BadIndex unit len) (inl own) job image other of told refused none =
      inl (refused_once form (inputs old boxes) told (BadIndex unit len) other tt of own.0 refused)
  exactly (ReadFault which) (inl own) job image other of told refused none =
      absurd (none (read_fails old new form (inputs old boxes) which own.0 job image))
  exactly Memory (inl own) job image other of told refused none = inr refl
  exactly Done (inl own) job image other of told refused none = absurd (refuses_quiet form (inputs old boxes) Done own.0 tt)
  exactly (WriteFault which) (inl own) job image other of told refused none =
      absurd (refuses_quiet form (inputs old boxes) (WriteFault which) own.0 tt)
  exactly BadWords (inl own) job image other of told refused none = absurd (never_words form (inputs old boxes) own.0)

  accepts : (status : Status) → Comes form (inputs old boxes) old new status → (j : Job) (line : ℕ) (fault : JobFault)
      → TellsJob old.job.left j → status ≢ BadJob line fault
  accepts (BadJob l f) (inl own) j line fault told e = told_not_refused form (inputs old boxes) j told l f own.0
  accepts (BadJob l f) (inr written) j line fault told e = written.2
  accepts Done comes j line fault told e = absurd (cc)
  accepts BadWords comes j line fault told e = absurd (cc)
  accepts (BadImage f) comes j line fault told e = absurd (cc)
  accepts (ReadFault which) comes j line fault told e = absurd (cc)
  accepts (WriteFault which) comes j line fault told e = absurd (cc)
  accepts Memory comes j line fault told e = absurd (cc)
  accepts (BadIndex unit len) comes j line fault told e = absurd (cc)
  accepts (OtherLayout kinds slots) comes j line fault told e = absurd (cc)
  accepts (BadReport number) comes j line fault told e = absurd (cc)
  accepts (NotAllowed number) comes j line fault told e = absurd (cc)
  accepts (BadSchedule number) comes j line fault told e = absurd (cc)

  pub serves : (status : Status) → Comes form (inputs old boxes) old new status
      → IsUsed (job_bytes form) sources.Job old.job new.job status
      → IsUsed (image_bytes form) sources.Image old.image new.image status → (StopsAtJob status → new.image ≡ old.image)
      → (AsksJob form → HasOutput status → IsAtEnd new.job.left) → Serves form boxes old new status
  serves status comes job image first whole = record {
    comes = comes;
    job = job;
    image = image;
    first = first;
    whole = whole;
    accepted = accepts status comes;
    exact = exactly status comes job image;
    complete = completes status comes job image;
  }

-- ---- a source that was read, by what was then written
read_status : (status : Status) (name : SourceName) → HasOutput status → status ≢ ReadFault name
read_status Done name out = λ e. absurd (cc)
read_status (WriteFault which) name out = λ e. absurd (cc)
read_status BadWords name out = absurd out
read_status (BadJob line fault) name out = absurd out
read_status (BadImage fault) name out = absurd out
read_status (ReadFault which) name out = absurd out
read_status Memory name out = absurd out
read_status (BadIndex unit len) name out = absurd out
read_status (OtherLayout kinds slots) name out = absurd out
read_status (BadReport number) name out = absurd out
read_status (NotAllowed number) name out = absurd out
read_status (BadSchedule number) name out = absurd out

pub read_on : (most : ℕ) (name : SourceName) (old new : SourceSeen) (status : Status) → HasOutput status
    → IsRead most name old new Done → IsRead most name old new status
read_on most name old new status out is = record {
  few = is.few;
  ended = λ written. is.ended tt;
  failed = λ e. absurd (read_status status name out e);
  kept = λ others. is.kept (λ e. absurd (cc));
}

-- what was written shows in the status
pub written_out : (status : Status) (o : Output) (out told image_out kept : SinkSeen) → IsWritten o out told image_out kept status
    → HasOutput status
written_out Done o out told image_out kept written = tt
written_out (WriteFault which) o out told image_out kept written = tt
written_out BadWords o out told image_out kept written = absurd written
written_out (BadJob line fault) o out told image_out kept written = absurd written
written_out (BadImage fault) o out told image_out kept written = absurd written
written_out (ReadFault which) o out told image_out kept written = absurd written
written_out Memory o out told image_out kept written = absurd written
written_out (BadIndex unit len) o out told image_out kept written = absurd written
written_out (OtherLayout kinds slots) o out told image_out kept written = absurd written
written_out (BadReport number) o out told image_out kept written = absurd written
written_out (NotAllowed number) o out told image_out kept written = absurd written
written_out (BadSchedule number) o out told image_out kept written = absurd written
