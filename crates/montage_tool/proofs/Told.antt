-- A source that tells its bytes has one job or image left, and what may be done is refused for no fault of them.
use Rattle.std.proofs.Common.{arith, ◌≡◌, ◌⊎◌, ℕ, Bool, true, false, List, inl, inr, refl, sym, ap, ◌∙◌, subst}
use Rattle.std.specs.Prelude.{◌≢◌, Option, Some, IfSome, Result, Ok, Err}
use Rattle.image_units.specs.declared.image_fault.ImageFault.{ImageFault}
use Rattle.image_units.specs.declared.image_fault.ImageFault.TheVariants as faults
use Rattle.image_units.specs.declared.recovery_refusal.RecoverRefusal.{RecoverRefusal}
use Rattle.image_units.specs.declared.recovery_refusal.RecoverRefusal.TheVariants as held
use Rattle.image_units.proofs.Accepted.{malformed}
use Rattle.job_store.specs.ImageNow.{IsAccepted, IsAcceptedAs, IsRefused, IsRefusedAs}
use Rattle.job_store.specs.ResumedRun.{IsOfOther}
use Rattle.job_text.specs.declared.job.Job.{Job}
use Rattle.job_text.specs.declared.job.JobFault.{JobFault}
use Rattle.job_text.specs.JobText.{IsFirstRefused, job_text}
use Rattle.job_text.proofs.Jobs.{job_not_refused, job_once}
use Rattle.mont_base.specs.Layout.{Shape}
use Rattle.mont_image.specs.declared.image_refusal.ImageRefusal.{ImageRefusal}
use Rattle.mont_image.specs.declared.image_refusal.ImageRefusal.TheVariants as bytes
use Rattle.mont_image.specs.ImageText.{ImageParts, IsTextOf, image_in}
use Rattle.mont_image.proofs.Texts.{text_told}
use Rattle.old_image.proofs.MigratedUnits.{refused_old_images_are_malformed}
use Rattle.job_text.specs.Report.{Report}
use Rattle.job_text.specs.ReportText.{report_text}
use Rattle.replay.specs.declared.schedule.Schedule.{Schedule}
use Rattle.replay.specs.Replays.{IsFirstNotAllowed}
use Rattle.replay.specs.Schedules.{IsSchedule}
use Rattle.replay.specs.ScheduleText.{IsFirstRefused as IsScheduleRefused, schedule_text}
use Rattle.replay.proofs.OneSchedule.{schedule_once}
use Rattle.replay.proofs.Reaching.{all_or_none}
use Rattle.replay.proofs.ScheduleFronts.{not_refused}
use Rattle.montage_tool.specs.Judged.{HasFaultyBytes, IsOldImage, IsScheduleOf, IsWrongReport, MayBeHeld, MayBeReplayed, RefusesCheck, RefusesNewImage, RefusesReplay, RefusesReport, TellsReport}
use Rattle.bank_job.specs.Bank.{bank_layout}
use Rattle.big_job.specs.Generated.{generated_head}
use Rattle.store.specs.MapBoxes.{HaveEmptyBoxes, IsFirstLack}
use Rattle.montage_tool.specs.declared.forms.Form.{Form}
use Rattle.montage_tool.specs.declared.forms.Form.TheVariants as forms
use Rattle.montage_tool.specs.declared.status.Status.{Status}
use Rattle.montage_tool.specs.declared.status.Status.TheVariants.{Done, BadWords, BadJob, BadImage, ReadFault, WriteFault, Memory, BadIndex, OtherLayout, BadReport, NotAllowed, BadSchedule}
use Rattle.montage_tool.specs.GeneratedForms.{RefusesStore}
use Rattle.montage_tool.specs.Inputs.{AreOf, HasBadBytes, HasBadLine, HasImageFault, HoldsFault, Inputs, IsImageOf, IsJobOf, TellsImage, TellsJob}
use Rattle.montage_tool.specs.Service.{MayBeDone, MayRunFresh, MayRunResumed, Refuses, RefusesFresh, RefusesImage, RefusesJob, RefusesResumed}
use Rattle.montage_tool.proofs.StoreRefused.{boxed_lacks_none, refused_store}

-- ---- a job
module _ (left : Option (List ℕ)) (j : Job) (told : TellsJob left j) where
  pub same_job : (k : Job) → IsJobOf left k → k ≡ j
  same_job k of =
      let text : job_text j ≡ job_text k = subst (λ (l : Option (List ℕ)). IfSome l (λ text. text ≡ job_text k)) told.told of.spelled in
      job_once k j of.is_job told.is_job (sym text)

  pub no_bad_line : (line : ℕ) (fault : JobFault) → HasBadLine left line fault → ⊥
  no_bad_line line fault bad =
      job_not_refused j line fault told.is_job
      (subst (λ (l : Option (List ℕ)). IfSome l (λ text. IsFirstRefused text line fault)) told.told bad)

-- ---- an image
accepted_as : (old : Bool) (s : Shape) (words : List ℕ) (why : RecoverRefusal) → why ≢ held.Memory → IsRefusedAs old s words why
    → IsAcceptedAs old s words → ⊥
accepted_as true s words why some refused accepted = refused_old_images_are_malformed s words why some refused accepted
accepted_as false s words why some refused accepted = malformed s words why some refused accepted

pub accepted_not_refused : (p : ImageParts) (why : RecoverRefusal) → why ≢ held.Memory → IsRefused p why → IsAccepted p → ⊥
accepted_not_refused p why some refused accepted = accepted_as p.old p.layout p.words why some refused accepted

two_answers : (told : Result ImageParts ImageRefusal) (p : ImageParts) (fault : ImageRefusal) → told ≡ Ok p → told ≡ Err fault → ⊥
two_answers told p fault ok err = let both : Ok p ≡ Err fault = sym ok ∙ err in cc

one_answer : (told : Result ImageParts ImageRefusal) (p q : ImageParts) → told ≡ Ok p → told ≡ Ok q → q ≡ p
one_answer told p q one other = let both : Ok p ≡ Ok q = sym one ∙ other in cc

module _ (left : Option (List ℕ)) (p : ImageParts) (told : TellsImage left p) where
  pub same_image : (q : ImageParts) → IsImageOf left q → q ≡ p
  same_image q of =
      let is : IsTextOf told.text q = subst (λ (l : Option (List ℕ)). IfSome l (λ text. IsTextOf text q)) told.told of.spelled in
      one_answer (image_in told.text) p q (text_told told.text p told.spelled) (text_told told.text q is)

  pub no_bad_bytes : (fault : ImageRefusal) → HasBadBytes left fault → ⊥
  no_bad_bytes fault bad =
      two_answers (image_in told.text) p fault (text_told told.text p told.spelled)
      (subst (λ (l : Option (List ℕ)). IfSome l (λ text. image_in text ≡ Err fault)) told.told bad)

  no_held : IsAccepted p → (why : RecoverRefusal) → why ≢ held.Memory → HoldsFault left why → ⊥
  no_held accepted why some holds =
      let same = same_image holds.parts holds.of_image in
      accepted_not_refused p why some (subst (λ (q : ImageParts). IsRefused q why) same holds.refused) accepted

  pub no_fault : IsAccepted p → (fault : ImageFault) → HasImageFault left fault → ⊥
  no_fault accepted faults.Magic bad = no_bad_bytes bytes.Magic bad
  no_fault accepted faults.Version bad = no_bad_bytes bytes.Version bad
  no_fault accepted faults.Layout bad = no_bad_bytes bytes.Layout bad
  no_fault accepted faults.Clock bad = no_bad_bytes bytes.Clock bad
  no_fault accepted (faults.Short words) bad = no_bad_bytes (bytes.Short words) bad
  no_fault accepted faults.Long bad = no_bad_bytes bytes.Long bad
  no_fault accepted (faults.Slot slot fault) bad = no_held accepted (held.Slot slot fault) (λ e. absurd (cc)) bad
  no_fault accepted (faults.Twice slot other) bad = no_held accepted (held.Twice slot other) (λ e. absurd (cc)) bad
  no_fault accepted (faults.Object unit slot fault) bad = no_held accepted (held.Object unit slot fault) (λ e. absurd (cc)) bad

-- ---- what may be done
-- a source failed, or memory ran out
abbrev pub IsOutside : Status → Type 0
IsOutside (ReadFault which) = Unit {0}
IsOutside Memory = Unit {0}
IsOutside _ = ⊥

job_outside : (left : Option (List ℕ)) (j : Job) → TellsJob left j → (status : Status) → RefusesJob left status → IsOutside status
job_outside left j told Done refused = refused
job_outside left j told BadWords refused = refused
job_outside left j told (BadJob line fault) refused = no_bad_line left j told line fault refused
job_outside left j told (BadImage fault) refused = refused
job_outside left j told (ReadFault which) refused = tt
job_outside left j told (WriteFault which) refused = refused
job_outside left j told Memory refused = tt
job_outside left j told (BadIndex unit len) refused = refused
job_outside left j told (OtherLayout kinds slots) refused = refused
job_outside left j told (BadReport number) refused = refused
job_outside left j told (NotAllowed number) refused = refused
job_outside left j told (BadSchedule number) refused = refused

image_outside : (left : Option (List ℕ)) (p : ImageParts) → TellsImage left p → IsAccepted p → (status : Status) → RefusesImage left status
    → IsOutside status
image_outside left p told accepted Done refused = refused
image_outside left p told accepted BadWords refused = refused
image_outside left p told accepted (BadJob line fault) refused = refused
image_outside left p told accepted (BadImage fault) refused = no_fault left p told accepted fault refused
image_outside left p told accepted (ReadFault which) refused = tt
image_outside left p told accepted (WriteFault which) refused = refused
image_outside left p told accepted Memory refused = tt
image_outside left p told accepted (BadIndex unit len) refused = refused
image_outside left p told accepted (OtherLayout kinds slots) refused = refused
image_outside left p told accepted (BadReport number) refused = refused
image_outside left p told accepted (NotAllowed number) refused = refused
image_outside left p told accepted (BadSchedule number) refused = refused

module _ (i : Inputs) (may : MayRunFresh i) where
  lacks_none : (k : Job) (unit : ℕ) (len : Option ℕ) → IsJobOf i.job k → IsFirstLack k.layout i.boxes unit len → ⊥
  lacks_none k unit len of lack =
      let same = same_job i.job may.job may.told k of in
      boxed_lacks_none may.job.layout i.boxes unit len may.boxed
      (subst (λ (j : Job). IsFirstLack j.layout i.boxes unit len) same lack)

  pub fresh_outside : (status : Status) → RefusesFresh i status → IsOutside status
  fresh_outside (BadIndex unit len) refused = lacks_none refused.0 unit len refused.1 refused.2
  fresh_outside Done refused = job_outside i.job may.job may.told Done refused
  fresh_outside BadWords refused = job_outside i.job may.job may.told BadWords refused
  fresh_outside (BadJob line fault) refused = job_outside i.job may.job may.told (BadJob line fault) refused
  fresh_outside (BadImage fault) refused = job_outside i.job may.job may.told (BadImage fault) refused
  fresh_outside (ReadFault which) refused = tt
  fresh_outside (WriteFault which) refused = job_outside i.job may.job may.told (WriteFault which) refused
  fresh_outside Memory refused = tt
  fresh_outside (OtherLayout kinds slots) refused = job_outside i.job may.job may.told (OtherLayout kinds slots) refused
  fresh_outside (BadReport number) refused = job_outside i.job may.job may.told (BadReport number) refused
  fresh_outside (NotAllowed number) refused = job_outside i.job may.job may.told (NotAllowed number) refused
  fresh_outside (BadSchedule number) refused = job_outside i.job may.job may.told (BadSchedule number) refused

module _ (i : Inputs) (may : MayRunResumed i) where
  either_outside : (status : Status) → (RefusesJob i.job status ⊎ (((job : Job) × IsJobOf i.job job) × RefusesImage i.image status))
      → IsOutside status
  either_outside status (inl refused) = job_outside i.job may.job may.told status refused
  either_outside status (inr refused) =
      image_outside i.image may.parts may.told_image may.fits.fits.accepted status refused.1

  no_other : (k : Job) (q : ImageParts) (s : Shape) → AreOf i k q → IsOfOther k q s → ⊥
  no_other k q s of other =
      let job = same_job i.job may.job may.told k of.of_job in
      let image = same_image i.image may.parts may.told_image q of.of_image in
      other.differs
      (other.told ∙ ap (λ (p : ImageParts). p.layout) image ∙ may.fits.fits.layout ∙ ap (λ (j : Job). j.layout) (sym job))

  no_lack : (k : Job) (unit : ℕ) (len : Option ℕ) → IsJobOf i.job k → IsFirstLack k.layout i.boxes unit len → ⊥
  no_lack k unit len of lack =
      let same = same_job i.job may.job may.told k of in
      boxed_lacks_none may.job.layout i.boxes unit len may.fits.boxed
      (subst (λ (j : Job). IsFirstLack j.layout i.boxes unit len) same lack)

  pub resumed_outside : (status : Status) → RefusesResumed i status → IsOutside status
  resumed_outside (OtherLayout kinds slots) refused = no_other refused.0 refused.1 _ refused.2 refused.3
  resumed_outside (BadIndex unit len) refused = no_lack refused.0 unit len refused.2.of_job refused.4
  resumed_outside (BadReport number) refused = either_outside (BadReport number) refused
  resumed_outside (NotAllowed number) refused = either_outside (NotAllowed number) refused
  resumed_outside (BadSchedule number) refused = either_outside (BadSchedule number) refused
  resumed_outside Done refused = either_outside Done refused
  resumed_outside BadWords refused = either_outside BadWords refused
  resumed_outside (BadJob line fault) refused = either_outside (BadJob line fault) refused
  resumed_outside (BadImage fault) refused = either_outside (BadImage fault) refused
  resumed_outside (ReadFault which) refused = tt
  resumed_outside (WriteFault which) refused = either_outside (WriteFault which) refused
  resumed_outside Memory refused = tt

-- ---- of a report and an image
pub report_outside : (left : Option (List ℕ)) (r : Report) → TellsReport left r → (status : Status) → RefusesReport left status
    → IsOutside status
report_outside left r told (BadReport line) refused =
    wrong (subst (λ (l : Option (List ℕ)). IfSome l (λ text. IsWrongReport text line)) told.told refused)
  where
    wrong : IsWrongReport (report_text r) line → ⊥
    wrong (inl long) = let few = told.few in let many = long.1 in absurd (omega arith)
    wrong (inr other) = other.1.no_report r told.is_report refl
report_outside left r told Done refused = refused
report_outside left r told BadWords refused = refused
report_outside left r told (BadJob line fault) refused = refused
report_outside left r told (BadImage fault) refused = refused
report_outside left r told (ReadFault which) refused = tt
report_outside left r told (WriteFault which) refused = refused
report_outside left r told Memory refused = tt
report_outside left r told (BadIndex unit len) refused = refused
report_outside left r told (OtherLayout kinds slots) refused = refused
report_outside left r told (NotAllowed line) refused = refused
report_outside left r told (BadSchedule line) refused = refused

module _ (left : Option (List ℕ)) (p : ImageParts) (told : TellsImage left p) where
  pub no_faulty_bytes : (fault : ImageFault) → HasFaultyBytes left fault → ⊥
  no_faulty_bytes faults.Magic bad = no_bad_bytes left p told bytes.Magic bad
  no_faulty_bytes faults.Version bad = no_bad_bytes left p told bytes.Version bad
  no_faulty_bytes faults.Layout bad = no_bad_bytes left p told bytes.Layout bad
  no_faulty_bytes faults.Clock bad = no_bad_bytes left p told bytes.Clock bad
  no_faulty_bytes (faults.Short words) bad = no_bad_bytes left p told (bytes.Short words) bad
  no_faulty_bytes faults.Long bad = no_bad_bytes left p told bytes.Long bad
  no_faulty_bytes (faults.Slot slot fault) bad = bad
  no_faulty_bytes (faults.Twice slot other) bad = bad
  no_faulty_bytes (faults.Object unit slot fault) bad = bad

  pub not_old : p.old ≡ false → IsOldImage left → ⊥
  not_old new old =
      let same = same_image left p told old.parts old.of_image in
      let both : true ≡ false = sym old.old ∙ ap (λ (q : ImageParts). q.old) same ∙ new in
      absurd (cc)

  new_fault : p.old ≡ false → (fault : ImageFault) → RefusesNewImage left (BadImage fault) → ⊥
  new_fault new faults.Version (inl bad) = no_bad_bytes left p told bytes.Version bad
  new_fault new faults.Version (inr old) = not_old new old
  new_fault new faults.Magic bad = no_faulty_bytes faults.Magic bad
  new_fault new faults.Layout bad = no_faulty_bytes faults.Layout bad
  new_fault new faults.Clock bad = no_faulty_bytes faults.Clock bad
  new_fault new (faults.Short words) bad = no_faulty_bytes (faults.Short words) bad
  new_fault new faults.Long bad = no_faulty_bytes faults.Long bad
  new_fault new (faults.Slot slot fault) bad = bad
  new_fault new (faults.Twice slot other) bad = bad
  new_fault new (faults.Object unit slot fault) bad = bad

  pub new_outside : p.old ≡ false → (status : Status) → RefusesNewImage left status → IsOutside status
  new_outside new (BadImage fault) refused = new_fault new fault refused
  new_outside new (BadReport line) refused = refused
  new_outside new Done refused = refused
  new_outside new BadWords refused = refused
  new_outside new (BadJob line fault) refused = refused
  new_outside new (ReadFault which) refused = tt
  new_outside new (WriteFault which) refused = refused
  new_outside new Memory refused = tt
  new_outside new (BadIndex unit len) refused = refused
  new_outside new (OtherLayout kinds slots) refused = refused
  new_outside new (NotAllowed line) refused = refused
  new_outside new (BadSchedule line) refused = refused

check_outside : (left image : Option (List ℕ)) → MayBeHeld left image → (status : Status) → RefusesCheck left image status
    → IsOutside status
check_outside left image may status (inl refused) = report_outside left may.report may.told status refused
check_outside left image may status (inr refused) = new_outside image may.parts may.told_image may.new status refused.1

-- ---- of a schedule
module _ (left : Option (List ℕ)) (s : Schedule) (is : IsSchedule s) (told : left ≡ Some (schedule_text s)) where
  pub same_schedule : (t : Schedule) → IsScheduleOf left t → t ≡ s
  same_schedule t of =
      let text : schedule_text s ≡ schedule_text t =
      subst (λ (l : Option (List ℕ)). IfSome l (λ text. text ≡ schedule_text t)) told of.spelled in
      schedule_once t s of.is_schedule is (sym text)

  pub no_refused_line : (line : ℕ) → IfSome left (λ text. IsScheduleRefused text line) → ⊥
  no_refused_line line bad =
      not_refused s line is (subst (λ (l : Option (List ℕ)). IfSome l (λ text. IsScheduleRefused text line)) told bad)

replay_outside : (left : Option (List ℕ)) → MayBeReplayed left → (status : Status) → RefusesReplay left status → IsOutside status
replay_outside left may (NotAllowed line) refused =
    let same = same_schedule left may.schedule may.is_schedule may.told refused.0 refused.1 in
    all_or_none may.schedule line may.allowed (subst (λ (s : Schedule). IsFirstNotAllowed s line) same refused.2)
replay_outside left may (BadSchedule line) refused = no_refused_line left may.schedule may.is_schedule may.told line refused
replay_outside left may (BadReport line) refused = refused
replay_outside left may Done refused = refused
replay_outside left may BadWords refused = refused
replay_outside left may (BadJob line fault) refused = refused
replay_outside left may (BadImage fault) refused = refused
replay_outside left may (ReadFault which) refused = tt
replay_outside left may (WriteFault which) refused = refused
replay_outside left may Memory refused = tt
replay_outside left may (BadIndex unit len) refused = refused
replay_outside left may (OtherLayout kinds slots) refused = refused

-- ---- of a store that is made
store_outside : (s : Shape) (boxes : List ℕ) → HaveEmptyBoxes s boxes → (status : Status) → RefusesStore s boxes status → IsOutside status
store_outside s boxes boxed status refused =
    refused_store IsOutside s boxes (λ unit len lack. absurd (boxed_lacks_none s boxes unit len boxed lack)) tt status refused

-- what may be done is refused for what a source or memory did
pub may_outside : (form : Form) (i : Inputs) → MayBeDone form i → (status : Status) → Refuses form i status → IsOutside status
may_outside forms.Run i may status refused = fresh_outside i may status refused
may_outside forms.Crash i may status refused = fresh_outside i may status refused
may_outside forms.Resume i may status refused = resumed_outside i may status refused
may_outside forms.ResumeTo i may status refused = resumed_outside i may status refused
may_outside (forms.Recover workers) i may status refused = image_outside i.image may.parts may.told may.accepted status refused
may_outside forms.Check i may status refused = check_outside i.job i.image may status refused
may_outside forms.Replay i may status refused = replay_outside i.job may status refused
may_outside (forms.Big number) i may status refused = store_outside generated_head.layout i.boxes may status refused
may_outside (forms.Bank number) i may status refused = store_outside bank_layout i.boxes may status refused

-- a job that is told isn't refused for a line
pub told_not_refused : (form : Form) (i : Inputs) (j : Job) → TellsJob i.job j → (line : ℕ) (fault : JobFault)
    → Refuses form i (BadJob line fault) → ⊥
told_not_refused forms.Run i j told line fault refused = no_bad_line i.job j told line fault refused
told_not_refused forms.Crash i j told line fault refused = no_bad_line i.job j told line fault refused
told_not_refused forms.Resume i j told line fault (inl refused) = no_bad_line i.job j told line fault refused
told_not_refused forms.Resume i j told line fault (inr refused) = refused.1
told_not_refused forms.ResumeTo i j told line fault (inl refused) = no_bad_line i.job j told line fault refused
told_not_refused forms.ResumeTo i j told line fault (inr refused) = refused.1
told_not_refused (forms.Recover workers) i j told line fault refused = refused
told_not_refused forms.Check i j told line fault (inl refused) = refused
told_not_refused forms.Check i j told line fault (inr refused) = refused.1
told_not_refused forms.Replay i j told line fault refused = refused
told_not_refused (forms.Big number) i j told line fault refused = refused
told_not_refused (forms.Bank number) i j told line fault refused = refused

-- no form refuses its own words
pub never_words : (form : Form) (i : Inputs) → Refuses form i BadWords → ⊥
never_words forms.Run i refused = refused
never_words forms.Crash i refused = refused
never_words forms.Resume i (inl refused) = refused
never_words forms.Resume i (inr refused) = refused.1
never_words forms.ResumeTo i (inl refused) = refused
never_words forms.ResumeTo i (inr refused) = refused.1
never_words (forms.Recover workers) i refused = refused
never_words forms.Check i (inl refused) = refused
never_words forms.Check i (inr refused) = refused.1
never_words forms.Replay i refused = refused
never_words (forms.Big number) i refused = refused
never_words (forms.Bank number) i refused = refused
