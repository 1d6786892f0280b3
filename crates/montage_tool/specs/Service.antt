-- What each form of words is answered: what may be written, and why nothing is.
use Rattle.std.specs.Prelude.{◌≡◌, ◌≢◌, ◌⊎◌, ℕ, List, false, Option, Some, None}
use Rattle.std.specs.Io.KnownBytes.{IsAtEnd}
use Rattle.mont_base.specs.Faults.{Rose}
use Rattle.mont_base.specs.Image.{IsRecovered, clock_of}
use Rattle.mont_base.specs.Layout.{Shape, shape}
use Rattle.mont_base.specs.State.{State}
use Rattle.bank_job.specs.Bank.{bank_layout}
use Rattle.big_job.specs.Generated.{generated_head}
use Rattle.job_store.specs.Base.{Base, IsBaseIn, nothing}
use Rattle.job_store.specs.ImageNow.{AreWordsNow, IsAccepted}
use Rattle.job_store.specs.ResumedRun.{Fits, IsOfOther, MayBeResumed}
use Rattle.job_store.specs.WholeRun.{IsRun}
use Rattle.job_text.specs.declared.job.Job.{Job}
use Rattle.job_text.specs.declared.job.JobFault.{JobFault}
use Rattle.job_text.specs.Report.{Report}
use Rattle.job_text.specs.ReportText.{contents_text, report_text}
use Rattle.mont_image.specs.ImageText.{ImageParts, IsTextOf, image_text}
use Rattle.store.specs.MapBoxes.{HaveEmptyBoxes, IsFirstLack}
use Rattle.montage_tool.specs.declared.forms.Form.{Form}
use Rattle.montage_tool.specs.declared.forms.Form.TheVariants.{Run, Crash, Resume, ResumeTo, Recover, Check, Replay, Big, Bank}
use Rattle.montage_tool.specs.declared.status.Status.{Status}
use Rattle.montage_tool.specs.declared.status.Status.TheVariants.{Done, BadJob, BadImage, OtherLayout, ReadFault, Memory, BadIndex, BadReport, NotAllowed, BadSchedule}
use Rattle.montage_tool.specs.declared.status.SourceName.TheVariants as sources
use Rattle.montage_tool.specs.Devices.{Devices, HasOutput, IsQuiet, IsUsed, IsWritten, Output, StopsAtJob}
use Rattle.montage_tool.specs.Forms.{AsksImage, AsksJob, KeepsImage, image_bytes, job_bytes}
use Rattle.montage_tool.specs.GeneratedForms.{IsBankText, IsBigText, RefusesStore}
use Rattle.montage_tool.specs.Judged.{IsHeld, IsReplayed, MayBeHeld, MayBeReplayed, RefusesCheck, RefusesReplay}
use Rattle.montage_tool.specs.Inputs.{AreOf, HasBadLine, HasImageFault, Inputs, IsImageOf, IsJobOf, TellsImage, TellsJob, inputs}

-- ---- a run of a job
-- the parts of an image that is written
abbrev pub image_now : Shape → List ℕ → ImageParts
image_now s words = record { layout = s; words = words; old = false }

-- A run of the job, on a store that opened with a base as is told. Report and image are of the same
-- run, and the image's text is read as that image.
pub record IsRunOf (opens : Job → Base → Type 0) (i : Inputs) (report image : List ℕ)
    : Type 0 where
  pub job : Job
  pub of_job : IsJobOf i.job job
  pub boxed : HaveEmptyBoxes job.layout i.boxes
  pub base : Base
  pub opened : opens job base
  pub told : Report
  pub left : List ℕ
  pub run : IsRun job base told left
  pub report_is : report ≡ report_text told
  pub image_is : image ≡ image_text job.layout left
  pub read_back : IsTextOf image (image_now job.layout left)

-- the store was never used
abbrev pub OpensFresh : Job → Base → Type 0
OpensFresh job base = base ≡ nothing job.layout

-- it opened with what recovery finds in the image, which is of the job's layout
pub record OpensFrom (image : Option (List ℕ)) (job : Job) (base : Base) : Type 0 where
  pub parts : ImageParts
  pub of_image : IsImageOf image parts
  pub fits : Fits job parts
  pub now : List ℕ
  pub words : AreWordsNow parts now
  pub opened : IsBaseIn job.layout now base

abbrev pub IsFreshRun : Inputs → List ℕ → List ℕ → Type 0
IsFreshRun i report image = IsRunOf OpensFresh i report image

abbrev pub IsResumedRun : Inputs → List ℕ → List ℕ → Type 0
IsResumedRun i report image = IsRunOf (OpensFrom i.image) i report image

-- ---- what an image holds
-- the text of the contents that recovery rebuilds of it
pub record AreContents (image : Option (List ℕ)) (text : List ℕ) : Type 0 where
  pub parts : ImageParts
  pub of_image : IsImageOf image parts
  pub accepted : IsAccepted parts
  pub now : List ℕ
  pub words : AreWordsNow parts now
  pub states : List State
  pub recovered : IsRecovered parts.layout now states
  pub text_is : text ≡ contents_text parts.layout (clock_of now) states

-- ---- what may be written
abbrev pub Gives : Form → Inputs → Output → Type 0
Gives Run i o = (image : List ℕ) × IsFreshRun i o.text image × (o.image ≡ None)
Gives Crash i o = (image : List ℕ) × IsFreshRun i o.text image × (o.image ≡ Some image)
Gives Resume i o = (image : List ℕ) × IsResumedRun i o.text image × (o.image ≡ None)
Gives ResumeTo i o = (image : List ℕ) × IsResumedRun i o.text image × (o.image ≡ Some image)
Gives (Recover workers) i o = AreContents i.image o.text × (o.image ≡ None)
Gives Check i o = IsHeld i.job i.image o.text × (o.image ≡ None)
Gives Replay i o = IsReplayed i.job o.text × (o.image ≡ None)
Gives (Big number) i o = IsBigText number i.boxes o.text × (o.image ≡ None)
Gives (Bank number) i o = IsBankText number i.boxes o.text × (o.image ≡ None)

-- ---- why nothing is: the first of these that holds, but that memory may run out at any time
-- the source of the job fails, or its bytes are no job's
abbrev pub RefusesJob : Option (List ℕ) → Status → Type 0
RefusesJob left (ReadFault sources.Job) = Unit {0}
RefusesJob left (BadJob line fault) = HasBadLine left line fault
RefusesJob left Memory = Unit {0}
RefusesJob left _ = ⊥

-- the source of the image fails, or the image has a fault
abbrev pub RefusesImage : Option (List ℕ) → Status → Type 0
RefusesImage left (ReadFault sources.Image) = Unit {0}
RefusesImage left (BadImage fault) = HasImageFault left fault
RefusesImage left Memory = Unit {0}
RefusesImage left _ = ⊥

-- the job is refused, or a map unit has no empty box
abbrev pub RefusesFresh : Inputs → Status → Type 0
RefusesFresh i (BadIndex unit len) =
    (job : Job) × IsJobOf i.job job × IsFirstLack job.layout i.boxes unit len
RefusesFresh i status = RefusesJob i.job status

-- the job is refused, or there is one and the image is, or this is another layout's, or a map unit
-- has no empty box
abbrev pub RefusesResumed : Inputs → Status → Type 0
RefusesResumed i (OtherLayout kinds slots) =
    (job : Job) × (parts : ImageParts) × AreOf i job parts × IsOfOther job parts (shape kinds slots)
RefusesResumed i (BadIndex unit len) =
    (job : Job) × (parts : ImageParts) × AreOf i job parts × Fits job parts
    × IsFirstLack job.layout i.boxes unit len
RefusesResumed i status =
    RefusesJob i.job status
    ⊎ (((job : Job) × IsJobOf i.job job) × RefusesImage i.image status)

abbrev pub Refuses : Form → Inputs → Status → Type 0
Refuses Run i status = RefusesFresh i status
Refuses Crash i status = RefusesFresh i status
Refuses Resume i status = RefusesResumed i status
Refuses ResumeTo i status = RefusesResumed i status
Refuses (Recover workers) i status = RefusesImage i.image status
Refuses Check i status = RefusesCheck i.job i.image status
Refuses Replay i status = RefusesReplay i.job status
Refuses (Big number) i status = RefusesStore generated_head.layout i.boxes status
Refuses (Bank number) i status = RefusesStore bank_layout i.boxes status

-- a refusal for what the inputs are, and not for what a source or memory did
abbrev pub IsOfInputs : Status → Type 0
IsOfInputs (BadJob line fault) = Unit {0}
IsOfInputs (BadImage fault) = Unit {0}
IsOfInputs (OtherLayout kinds slots) = Unit {0}
IsOfInputs (BadIndex unit len) = Unit {0}
IsOfInputs (BadReport line) = Unit {0}
IsOfInputs (NotAllowed line) = Unit {0}
IsOfInputs (BadSchedule line) = Unit {0}
IsOfInputs _ = ⊥

-- the sources that a form asks tell their bytes
abbrev pub HasBytes : Option (List ℕ) → Type 0
HasBytes left = (text : List ℕ) × (left ≡ Some text)

pub record TellsInputs (form : Form) (i : Inputs) : Type 0 where
  pub job : AsksJob form → HasBytes i.job
  pub image : AsksImage form → HasBytes i.image

-- ---- what is sure to be done
pub record MayRunFresh (i : Inputs) : Type 0 where
  pub job : Job
  pub told : TellsJob i.job job
  pub boxed : HaveEmptyBoxes job.layout i.boxes

pub record MayRunResumed (i : Inputs) : Type 0 where
  pub job : Job
  pub parts : ImageParts
  pub told : TellsJob i.job job
  pub told_image : TellsImage i.image parts
  pub fits : MayBeResumed job parts i.boxes

pub record MayTellContents (i : Inputs) : Type 0 where
  pub parts : ImageParts
  pub told : TellsImage i.image parts
  pub accepted : IsAccepted parts

abbrev pub MayBeDone : Form → Inputs → Type 0
MayBeDone Run i = MayRunFresh i
MayBeDone Crash i = MayRunFresh i
MayBeDone Resume i = MayRunResumed i
MayBeDone ResumeTo i = MayRunResumed i
MayBeDone (Recover workers) i = MayTellContents i
MayBeDone Check i = MayBeHeld i.job i.image
MayBeDone Replay i = MayBeReplayed i.job
MayBeDone (Big number) i = HaveEmptyBoxes generated_head.layout i.boxes
MayBeDone (Bank number) i = HaveEmptyBoxes bank_layout i.boxes

-- ---- what came of a form
-- the count of faults of a source or a sink that it asks rose, or stands at its last value
abbrev pub SourcesFail : Form → Devices → Devices → Type 0
SourcesFail form old new =
    (AsksJob form × Rose old.job.faults new.job.faults)
    ⊎ (AsksImage form × Rose old.image.faults new.image.faults)

abbrev pub SinksFail : Form → Devices → Devices → Type 0
SinksFail form old new =
    Rose old.out.faults new.out.faults
    ⊎ (KeepsImage form × Rose old.image_out.faults new.image_out.faults)

-- why nothing was written, or what was
abbrev pub Comes : Form → Inputs → Devices → Devices → Status → Type 0
Comes form i old new status =
    (Refuses form i status × IsQuiet old new)
    ⊎ ((o : Output) × Gives form i o
    × IsWritten o old.out new.out old.image_out new.image_out status)

-- What came of a form with boxes of so many keys, as is seen of the devices.
pub record Serves (form : Form) (boxes : List ℕ) (old new : Devices) (status : Status)
    : Type 0 where
  pub comes : Comes form (inputs old boxes) old new status
  pub job : IsUsed (job_bytes form) sources.Job old.job new.job status
  pub image : IsUsed (image_bytes form) sources.Image old.image new.image status
  -- where no job is read, no image is
  pub first : StopsAtJob status → new.image ≡ old.image
  -- a job was read to its end, and a job's text isn't refused
  pub whole : AsksJob form → HasOutput status → IsAtEnd new.job.left
  pub accepted :
      (job : Job) (line : ℕ) (fault : JobFault) → TellsJob old.job.left job
      → status ≢ BadJob line fault
  -- a refusal that the inputs have is told where no source that is asked fails, unless memory runs
  -- out
  pub exact :
      (other : Status) → IsOfInputs other → TellsInputs form (inputs old boxes)
      → Refuses form (inputs old boxes) other → ¬ SourcesFail form old new
      → (status ≡ other) ⊎ (status ≡ Memory)
  -- where the form may be done and no device that is asked fails, it is, unless memory runs out
  pub complete :
      MayBeDone form (inputs old boxes) → ¬ SourcesFail form old new → ¬ SinksFail form old new
      → (status ≡ Done) ⊎ (status ≡ Memory)
