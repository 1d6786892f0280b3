-- Where the sources tell their bytes, the inputs have one refusal at most, and none where something may be written.
use Rattle.std.proofs.Common.{◌≤◌, ◌≡◌, ◌⊎◌, ℕ, ◌<◌, List, length, inl, inr, sym, ap, ◌∙◌, subst, arith}
use Rattle.std.specs.Prelude.{Option, Some, IfSome}
use Rattle.image_units.specs.declared.image_fault.ImageFault.{ImageFault}
use Rattle.job_store.specs.ImageNow.{IsAccepted}
use Rattle.job_store.specs.ResumedRun.{Fits, IsOfOther}
use Rattle.job_text.specs.declared.job.Job.{Job}
use Rattle.job_text.specs.declared.job.JobFault.{JobFault}
use Rattle.job_text.specs.JobText.{IsFirstRefused, job_text}
use Rattle.mont_base.specs.declared.kinds.UnitKind.{UnitKind}
use Rattle.mont_base.specs.Layout.{Shape, shape}
use Rattle.mont_image.specs.ImageText.{ImageParts, IsTextOf}
use Rattle.job_text.specs.Report.{Report}
use Rattle.job_text.specs.ReportText.{report_text}
use Rattle.replay.specs.declared.schedule.Schedule.{Schedule}
use Rattle.replay.specs.Replays.{IsFirstNotAllowed}
use Rattle.replay.specs.ScheduleText.{IsFirstRefused as IsScheduleRefused, schedule_text}
use Rattle.montage_tool.specs.declared.read_inputs.TheConstants.{REPORT_BYTES}
use Rattle.montage_tool.specs.Judged.{IsHeld, IsReplayed, IsReportOf, IsScheduleOf, IsWrongReport, MayBeHeld, MayBeReplayed, RefusesCheck, RefusesNewImage, RefusesReplay, RefusesReport, TellsReport}
use Rattle.bank_job.specs.Bank.{bank_layout}
use Rattle.big_job.specs.Generated.{generated_head}
use Rattle.store.specs.MapBoxes.{keys_for, IsFirstLack}
use Rattle.montage_tool.specs.declared.forms.Form.{Form}
use Rattle.montage_tool.specs.declared.forms.Form.TheVariants as forms
use Rattle.montage_tool.specs.declared.status.Status.{Status}
use Rattle.montage_tool.specs.declared.status.Status.TheVariants.{Done, BadWords, BadJob, BadImage, ReadFault, WriteFault, Memory, BadIndex, OtherLayout, BadReport, NotAllowed, BadSchedule}
use Rattle.montage_tool.specs.Devices.{Output}
use Rattle.montage_tool.specs.GeneratedForms.{RefusesStore}
use Rattle.montage_tool.specs.Inputs.{AreOf, HasBadLine, Inputs, IsImageOf, IsJobOf, TellsImage, TellsJob}
use Rattle.montage_tool.specs.Service.{AreContents, Gives, HasBytes, IsFreshRun, IsOfInputs, IsResumedRun, MayBeDone, MayRunFresh, MayRunResumed, MayTellContents, Refuses, RefusesFresh, RefusesImage, RefusesJob, RefusesResumed, TellsInputs}
use Rattle.montage_tool.proofs.OneFault.{one_bad_line, one_fault, one_new_fault}
use Rattle.montage_tool.proofs.OneRefusedLine.{one_not_allowed, one_refused_line, one_wrong_report}
use Rattle.montage_tool.proofs.StoreRefused.{refused_store}
use Rattle.montage_tool.proofs.Told.{IsOutside, may_outside, no_bad_line, no_fault, no_refused_line, report_outside, same_image, same_job, same_schedule}

-- ---- what is told
told_job : (left : Option (List ℕ)) (j : Job) → HasBytes left → IsJobOf left j → TellsJob left j
told_job left j (text, is) of = record {
  is_job = of.is_job;
  told = is ∙ ap (λ (t : List ℕ). Some t) (subst (λ (l : Option (List ℕ)). IfSome l (λ t. t ≡ job_text j)) is of.spelled);
}

told_image : (left : Option (List ℕ)) (p : ImageParts) → HasBytes left → IsImageOf left p → TellsImage left p
told_image left p (text, is) of = record {
  text = text;
  told = is;
  spelled = subst (λ (l : Option (List ℕ)). IfSome l (λ t. IsTextOf t p)) is of.spelled;
}

-- ---- what is given may be done
given_fresh : (i : Inputs) (report image : List ℕ) → HasBytes i.job → IsFreshRun i report image → MayRunFresh i
given_fresh i report image told run = record { job = run.job; told = told_job i.job run.job told run.of_job; boxed = run.boxed }

given_resumed : (i : Inputs) (report image : List ℕ) → HasBytes i.job → HasBytes i.image → IsResumedRun i report image → MayRunResumed i
given_resumed i report image told told_too run = record {
  job = run.job;
  parts = run.opened.parts;
  told = told_job i.job run.job told run.of_job;
  told_image = told_image i.image run.opened.parts told_too run.opened.of_image;
  fits = record { fits = run.opened.fits; boxed = run.boxed };
}

given_contents : (i : Inputs) (text : List ℕ) → HasBytes i.image → AreContents i.image text → MayTellContents i
given_contents i text told are = record {
  parts = are.parts;
  told = told_image i.image are.parts told are.of_image;
  accepted = are.accepted;
}

told_report : (left : Option (List ℕ)) (r : Report) → HasBytes left → IsReportOf left r → TellsReport left r
told_report left r (text, is) of =
    let spelled = subst (λ (l : Option (List ℕ)). IfSome l (λ t. (t ≡ report_text r) × (length t ≤ REPORT_BYTES))) is of.spelled in
    record {
      is_report = of.is_report;
      told = is ∙ ap (λ (t : List ℕ). Some t) spelled.0;
      few = subst (λ (t : List ℕ). length t ≤ REPORT_BYTES) spelled.0 spelled.1;
    }

told_schedule : (left : Option (List ℕ)) (s : Schedule) → HasBytes left → IsScheduleOf left s → left ≡ Some (schedule_text s)
told_schedule left s (text, is) of =
    is ∙ ap (λ (t : List ℕ). Some t) (subst (λ (l : Option (List ℕ)). IfSome l (λ t. t ≡ schedule_text s)) is of.spelled)

given_held : (left image : Option (List ℕ)) (text : List ℕ) → HasBytes left → HasBytes image → IsHeld left image text
    → MayBeHeld left image
given_held left image text told told_too held = record {
  report = held.report;
  parts = held.parts;
  told = told_report left held.report told held.of_report;
  told_image = told_image image held.parts told_too held.of_image;
  new = held.new;
}

given_replay : (left : Option (List ℕ)) (text : List ℕ) → HasBytes left → IsReplayed left text → MayBeReplayed left
given_replay left text told replayed = record {
  schedule = replayed.0;
  is_schedule = replayed.1.is_schedule;
  told = told_schedule left replayed.0 told replayed.1;
  allowed = replayed.2.allowed;
}

given_may : (form : Form) (i : Inputs) → TellsInputs form i → (o : Output) → Gives form i o → MayBeDone form i
given_may forms.Run i told o gives = given_fresh i o.text gives.0 (told.job tt) gives.1
given_may forms.Crash i told o gives = given_fresh i o.text gives.0 (told.job tt) gives.1
given_may forms.Resume i told o gives = given_resumed i o.text gives.0 (told.job tt) (told.image tt) gives.1
given_may forms.ResumeTo i told o gives = given_resumed i o.text gives.0 (told.job tt) (told.image tt) gives.1
given_may (forms.Recover workers) i told o gives = given_contents i o.text (told.image tt) gives.0
given_may forms.Check i told o gives = given_held i.job i.image o.text (told.job tt) (told.image tt) gives.0
given_may forms.Replay i told o gives = given_replay i.job o.text (told.job tt) gives.0
given_may (forms.Big number) i told o gives = gives.0.boxed
given_may (forms.Bank number) i told o gives = gives.0.boxed

not_outside : (status : Status) → IsOfInputs status → IsOutside status → ⊥
not_outside Done of outside = of
not_outside BadWords of outside = of
not_outside (BadJob line fault) of outside = outside
not_outside (BadImage fault) of outside = outside
not_outside (ReadFault which) of outside = of
not_outside (WriteFault which) of outside = of
not_outside Memory of outside = of
not_outside (BadIndex unit len) of outside = outside
not_outside (OtherLayout kinds slots) of outside = outside
not_outside (BadReport number) of outside = outside
not_outside (NotAllowed number) of outside = outside
not_outside (BadSchedule number) of outside = outside

pub given_not_refused : (form : Form) (i : Inputs) → TellsInputs form i → (o : Output) → Gives form i o → (other : Status)
    → IsOfInputs other → Refuses form i other → ⊥
given_not_refused form i told o gives other of refused =
    not_outside other of (may_outside form i (given_may form i told o gives) other refused)

-- ---- the lowest map unit without an empty box
module _ (s : Shape) (boxes : List ℕ) where
  not_before : (unit other : ℕ) (len more : Option ℕ) → IsFirstLack s boxes unit len → IsFirstLack s boxes other more → other < unit → ⊥
  not_before unit other len more lack also low = also.lacks (sym also.has ∙ lack.lower other low also.map)

  same_unit : (unit other : ℕ) (len more : Option ℕ) → IsFirstLack s boxes unit len → IsFirstLack s boxes other more → unit ≡ other
  same_unit unit other len more lack also =
      let a = not_before unit other len more lack also in
      let b = not_before other unit more len also lack in
      omega (arith, a, b)

  same_lack : (unit other : ℕ) (len more : Option ℕ) → IsFirstLack s boxes unit len → IsFirstLack s boxes other more
      → BadIndex unit len ≡ BadIndex other more
  same_lack unit other len more lack also =
      let same = same_unit unit other len more lack also in
      let keys : len ≡ more = sym lack.has ∙ ap (keys_for s boxes) same ∙ also.has in
      λ i. BadIndex (same i) (keys i)

-- ---- two refusals of a job
two_lines : (left : Option (List ℕ)) → HasBytes left → (line other : ℕ) (f g : JobFault) → HasBadLine left line f → HasBadLine left other g
    → BadJob line f ≡ BadJob other g
two_lines left (text, is) line other f g a b =
    let here = subst (λ (l : Option (List ℕ)). IfSome l (λ t. IsFirstRefused t line f)) is a in
    let there = subst (λ (l : Option (List ℕ)). IfSome l (λ t. IsFirstRefused t other g)) is b in
    let one = one_bad_line text line other f g here there in
    λ k. BadJob (one.0 k) (one.1 k)

job_refused_once : (left : Option (List ℕ)) → HasBytes left → (a b : Status) → IsOfInputs a → IsOfInputs b → RefusesJob left a
    → RefusesJob left b → a ≡ b
job_refused_once left told (BadJob line f) (BadJob other g) of too a b = two_lines left told line other f g a b
job_refused_once left told (BadJob line f) Done of too a b = absurd too
job_refused_once left told (BadJob line f) BadWords of too a b = absurd too
job_refused_once left told (BadJob line f) (BadImage fault) of too a b = absurd b
job_refused_once left told (BadJob line f) (ReadFault which) of too a b = absurd too
job_refused_once left told (BadJob line f) (WriteFault which) of too a b = absurd too
job_refused_once left told (BadJob line f) Memory of too a b = absurd too
job_refused_once left told (BadJob line f) (BadIndex unit len) of too a b = absurd b
job_refused_once left told (BadJob line f) (OtherLayout kinds slots) of too a b = absurd b
job_refused_once left told (BadJob line f) (BadReport number) of too a b = absurd b
job_refused_once left told (BadJob line f) (NotAllowed number) of too a b = absurd b
job_refused_once left told (BadJob line f) (BadSchedule number) of too a b = absurd b
job_refused_once left told (BadImage fault) b of too a x = absurd a
job_refused_once left told (BadIndex unit len) b of too a x = absurd a
job_refused_once left told (OtherLayout kinds slots) b of too a x = absurd a
job_refused_once left told (BadReport number) b of too a x = absurd a
job_refused_once left told (NotAllowed number) b of too a x = absurd a
job_refused_once left told (BadSchedule number) b of too a x = absurd a
job_refused_once left told Done b of too a x = absurd of
job_refused_once left told BadWords b of too a x = absurd of
job_refused_once left told (ReadFault which) b of too a x = absurd of
job_refused_once left told (WriteFault which) b of too a x = absurd of
job_refused_once left told Memory b of too a x = absurd of

-- where there is a job
job_unrefused : (left : Option (List ℕ)) (j : Job) → HasBytes left → IsJobOf left j → (status : Status) → IsOfInputs status
    → RefusesJob left status → ⊥
job_unrefused left j told of (BadJob line fault) is refused = no_bad_line left j (told_job left j told of) line fault refused
job_unrefused left j told of Done is refused = is
job_unrefused left j told of BadWords is refused = is
job_unrefused left j told of (BadImage fault) is refused = refused
job_unrefused left j told of (ReadFault which) is refused = is
job_unrefused left j told of (WriteFault which) is refused = is
job_unrefused left j told of Memory is refused = is
job_unrefused left j told of (BadIndex unit len) is refused = refused
job_unrefused left j told of (OtherLayout kinds slots) is refused = refused
job_unrefused left j told of (BadReport number) is refused = refused
job_unrefused left j told of (NotAllowed number) is refused = refused
job_unrefused left j told of (BadSchedule number) is refused = refused

-- ---- of an image
image_refused_once : (left : Option (List ℕ)) → HasBytes left → (a b : Status) → IsOfInputs a → IsOfInputs b → RefusesImage left a
    → RefusesImage left b → a ≡ b
image_refused_once left told (BadImage f) (BadImage g) of too a b =
    ap (λ (x : ImageFault). BadImage x) (one_fault left told.0 told.1 f g a b)
image_refused_once left told (BadImage f) Done of too a b = absurd too
image_refused_once left told (BadImage f) BadWords of too a b = absurd too
image_refused_once left told (BadImage f) (BadJob line fault) of too a b = absurd b
image_refused_once left told (BadImage f) (ReadFault which) of too a b = absurd too
image_refused_once left told (BadImage f) (WriteFault which) of too a b = absurd too
image_refused_once left told (BadImage f) Memory of too a b = absurd too
image_refused_once left told (BadImage f) (BadIndex unit len) of too a b = absurd b
image_refused_once left told (BadImage f) (OtherLayout kinds slots) of too a b = absurd b
image_refused_once left told (BadImage f) (BadReport number) of too a b = absurd b
image_refused_once left told (BadImage f) (NotAllowed number) of too a b = absurd b
image_refused_once left told (BadImage f) (BadSchedule number) of too a b = absurd b
image_refused_once left told (BadJob line fault) b of too a x = absurd a
image_refused_once left told (BadIndex unit len) b of too a x = absurd a
image_refused_once left told (OtherLayout kinds slots) b of too a x = absurd a
image_refused_once left told (BadReport number) b of too a x = absurd a
image_refused_once left told (NotAllowed number) b of too a x = absurd a
image_refused_once left told (BadSchedule number) b of too a x = absurd a
image_refused_once left told Done b of too a x = absurd of
image_refused_once left told BadWords b of too a x = absurd of
image_refused_once left told (ReadFault which) b of too a x = absurd of
image_refused_once left told (WriteFault which) b of too a x = absurd of
image_refused_once left told Memory b of too a x = absurd of

image_unrefused : (left : Option (List ℕ)) (p : ImageParts) → HasBytes left → IsImageOf left p → IsAccepted p → (status : Status)
    → IsOfInputs status → RefusesImage left status → ⊥
image_unrefused left p told of accepted (BadImage fault) is refused = no_fault left p (told_image left p told of) accepted fault refused
image_unrefused left p told of accepted Done is refused = is
image_unrefused left p told of accepted BadWords is refused = is
image_unrefused left p told of accepted (BadJob line fault) is refused = refused
image_unrefused left p told of accepted (ReadFault which) is refused = is
image_unrefused left p told of accepted (WriteFault which) is refused = is
image_unrefused left p told of accepted Memory is refused = is
image_unrefused left p told of accepted (BadIndex unit len) is refused = refused
image_unrefused left p told of accepted (OtherLayout kinds slots) is refused = refused
image_unrefused left p told of accepted (BadReport number) is refused = refused
image_unrefused left p told of accepted (NotAllowed number) is refused = refused
image_unrefused left p told of accepted (BadSchedule number) is refused = refused

-- ---- of a run on a store that was never used
module _ (i : Inputs) (told : HasBytes i.job) where
  fresh_boxes : (j k : Job) (unit other : ℕ) (len more : Option ℕ) → IsJobOf i.job j → IsJobOf i.job k
      → IsFirstLack j.layout i.boxes unit len → IsFirstLack k.layout i.boxes other more → BadIndex unit len ≡ BadIndex other more
  fresh_boxes j k unit other len more of too lack also =
      let same = same_job i.job j (told_job i.job j told of) k too in
      same_lack j.layout i.boxes unit other len more lack
      (subst (λ (h : Job). IsFirstLack h.layout i.boxes other more) same also)

  fresh_refused_once : (a b : Status) → IsOfInputs a → IsOfInputs b → RefusesFresh i a → RefusesFresh i b → a ≡ b
  fresh_refused_once (BadIndex unit len) (BadIndex other more) of too a b =
      fresh_boxes a.0 b.0 unit other len more a.1 b.1 a.2 b.2
  fresh_refused_once (BadIndex unit len) (BadJob line fault) of too a b =
      absurd (job_unrefused i.job a.0 told a.1 (BadJob line fault) tt b)
  fresh_refused_once (BadIndex unit len) (BadImage fault) of too a b = absurd b
  fresh_refused_once (BadIndex unit len) (OtherLayout kinds slots) of too a b = absurd b
  fresh_refused_once (BadIndex unit len) (BadReport number) of too a b = absurd b
  fresh_refused_once (BadIndex unit len) (NotAllowed number) of too a b = absurd b
  fresh_refused_once (BadIndex unit len) (BadSchedule number) of too a b = absurd b
  fresh_refused_once (BadIndex unit len) Done of too a b = absurd too
  fresh_refused_once (BadIndex unit len) BadWords of too a b = absurd too
  fresh_refused_once (BadIndex unit len) (ReadFault which) of too a b = absurd too
  fresh_refused_once (BadIndex unit len) (WriteFault which) of too a b = absurd too
  fresh_refused_once (BadIndex unit len) Memory of too a b = absurd too
  fresh_refused_once (BadJob line fault) (BadIndex unit len) of too a b =
      absurd (job_unrefused i.job b.0 told b.1 (BadJob line fault) tt a)
  fresh_refused_once (BadJob line f) (BadJob other g) of too a b = two_lines i.job told line other f g a b
  fresh_refused_once (BadJob line f) (BadImage fault) of too a b = absurd b
  fresh_refused_once (BadJob line f) (OtherLayout kinds slots) of too a b = absurd b
  fresh_refused_once (BadJob line f) (BadReport number) of too a b = absurd b
  fresh_refused_once (BadJob line f) (NotAllowed number) of too a b = absurd b
  fresh_refused_once (BadJob line f) (BadSchedule number) of too a b = absurd b
  fresh_refused_once (BadJob line f) Done of too a b = absurd too
  fresh_refused_once (BadJob line f) BadWords of too a b = absurd too
  fresh_refused_once (BadJob line f) (ReadFault which) of too a b = absurd too
  fresh_refused_once (BadJob line f) (WriteFault which) of too a b = absurd too
  fresh_refused_once (BadJob line f) Memory of too a b = absurd too
  fresh_refused_once (BadImage fault) b of too a x = absurd a
  fresh_refused_once (OtherLayout kinds slots) b of too a x = absurd a
  fresh_refused_once (BadReport number) b of too a x = absurd a
  fresh_refused_once (NotAllowed number) b of too a x = absurd a
  fresh_refused_once (BadSchedule number) b of too a x = absurd a
  fresh_refused_once Done b of too a x = absurd of
  fresh_refused_once BadWords b of too a x = absurd of
  fresh_refused_once (ReadFault which) b of too a x = absurd of
  fresh_refused_once (WriteFault which) b of too a x = absurd of
  fresh_refused_once Memory b of too a x = absurd of

-- ---- of a run on an image
-- Which of its refusals there is: the job is refused; or there is a job, and the image is refused; or both are there, and the layout
-- or a box is another.
data Stage (i : Inputs) : Status → Type 0 where
  in_job : (status : Status) → RefusesJob i.job status → Stage i status
  in_image : (status : Status) (j : Job) → IsJobOf i.job j → RefusesImage i.image status → Stage i status
  in_layout : (kinds : List UnitKind) (slots : ℕ) (j : Job) (p : ImageParts) → AreOf i j p → IsOfOther j p (shape kinds slots)
      → Stage i (OtherLayout kinds slots)
  in_boxes : (unit : ℕ) (len : Option ℕ) (j : Job) (p : ImageParts) → AreOf i j p → Fits j p → IsFirstLack j.layout i.boxes unit len
      → Stage i (BadIndex unit len)

either_stage : (i : Inputs) (status : Status)
    → (RefusesJob i.job status ⊎ (((job : Job) × IsJobOf i.job job) × RefusesImage i.image status)) → Stage i status
either_stage i status (inl refused) = in_job status refused
either_stage i status (inr refused) = in_image status refused.0.0 refused.0.1 refused.1

stage_of : (i : Inputs) (status : Status) → RefusesResumed i status → Stage i status
stage_of i (OtherLayout kinds slots) refused = in_layout kinds slots refused.0 refused.1 refused.2 refused.3
stage_of i (BadIndex unit len) refused = in_boxes unit len refused.0 refused.1 refused.2 refused.3 refused.4
stage_of i (BadReport number) refused = either_stage i (BadReport number) refused
stage_of i (NotAllowed number) refused = either_stage i (NotAllowed number) refused
stage_of i (BadSchedule number) refused = either_stage i (BadSchedule number) refused
stage_of i Done refused = either_stage i Done refused
stage_of i BadWords refused = either_stage i BadWords refused
stage_of i (BadJob line fault) refused = either_stage i (BadJob line fault) refused
stage_of i (BadImage fault) refused = either_stage i (BadImage fault) refused
stage_of i (ReadFault which) refused = either_stage i (ReadFault which) refused
stage_of i (WriteFault which) refused = either_stage i (WriteFault which) refused
stage_of i Memory refused = either_stage i Memory refused

module _ (i : Inputs) (told : HasBytes i.job) (told_too : HasBytes i.image) where
  two_layouts : (kinds others : List UnitKind) (slots more : ℕ) (j k : Job) (p q : ImageParts) → AreOf i j p → AreOf i k q
      → IsOfOther j p (shape kinds slots) → IsOfOther k q (shape others more) → OtherLayout kinds slots ≡ OtherLayout others more
  two_layouts kinds others slots more j k p q of too a b =
      let same = same_image i.image p (told_image i.image p told_too of.of_image) q too.of_image in
      let one : shape kinds slots ≡ shape others more = a.told ∙ ap (λ (r : ImageParts). r.layout) (sym same) ∙ sym b.told in
      λ n. OtherLayout (ap (λ (s : Shape). s.kinds) one n) (ap (λ (s : Shape). s.slots) one n)

  layout_or_boxes : (kinds : List UnitKind) (slots : ℕ) (j k : Job) (p q : ImageParts) → AreOf i j p → AreOf i k q
      → IsOfOther j p (shape kinds slots) → Fits k q → ⊥
  layout_or_boxes kinds slots j k p q of too a fits =
      let image = same_image i.image p (told_image i.image p told_too of.of_image) q too.of_image in
      let job = same_job i.job j (told_job i.job j told of.of_job) k too.of_job in
      a.differs
      (a.told ∙ ap (λ (r : ImageParts). r.layout) (sym image) ∙ fits.layout ∙ ap (λ (h : Job). h.layout) job)

  resumed_once : (a b : Status) → IsOfInputs a → IsOfInputs b → Stage i a → Stage i b → a ≡ b
  resumed_once a b of too (in_job c x) (in_job d y) = job_refused_once i.job told a b of too x y
  resumed_once a b of too (in_job c x) (in_image d j is y) = absurd (job_unrefused i.job j told is a of x)
  resumed_once a b of too (in_job c x) (in_layout kinds slots j p are y) = absurd (job_unrefused i.job j told are.of_job a of x)
  resumed_once a b of too (in_job c x) (in_boxes unit len j p are fits y) = absurd (job_unrefused i.job j told are.of_job a of x)
  resumed_once a b of too (in_image c j is x) (in_job d y) = absurd (job_unrefused i.job j told is b too y)
  resumed_once a b of too (in_image c j is x) (in_image d k is_too y) = image_refused_once i.image told_too a b of too x y
  resumed_once a b of too (in_image c j is x) (in_layout kinds slots k p are y) =
      absurd (image_unrefused i.image p told_too are.of_image y.accepted a of x)
  resumed_once a b of too (in_image c j is x) (in_boxes unit len k p are fits y) =
      absurd (image_unrefused i.image p told_too are.of_image fits.accepted a of x)
  resumed_once a b of too (in_layout kinds slots j p are x) (in_job d y) = absurd (job_unrefused i.job j told are.of_job b too y)
  resumed_once a b of too (in_layout kinds slots j p are x) (in_image d k is y) =
      absurd (image_unrefused i.image p told_too are.of_image x.accepted b too y)
  resumed_once a b of too (in_layout kinds slots j p are x) (in_layout others more k q are_too y) =
      two_layouts kinds others slots more j k p q are are_too x y
  resumed_once a b of too (in_layout kinds slots j p are x) (in_boxes unit len k q are_too fits y) =
      absurd (layout_or_boxes kinds slots j k p q are are_too x fits)
  resumed_once a b of too (in_boxes unit len j p are fits x) (in_job d y) = absurd (job_unrefused i.job j told are.of_job b too y)
  resumed_once a b of too (in_boxes unit len j p are fits x) (in_image d k is y) =
      absurd (image_unrefused i.image p told_too are.of_image fits.accepted b too y)
  resumed_once a b of too (in_boxes unit len j p are fits x) (in_layout kinds slots k q are_too y) =
      absurd (layout_or_boxes kinds slots k j q p are_too are y fits)
  resumed_once a b of too (in_boxes unit len j p are fits x) (in_boxes other more k q are_too fits_too y) =
      fresh_boxes i told j k unit other len more are.of_job are_too.of_job x y

-- ---- of a report held against an image
two_reports : (left : Option (List ℕ)) → HasBytes left → (m n : ℕ) → IfSome left (λ text. IsWrongReport text m)
    → IfSome left (λ text. IsWrongReport text n) → BadReport m ≡ BadReport n
two_reports left (text, is) m n a b =
    ap (λ (n : ℕ). BadReport n)
    (one_wrong_report text m n (subst (λ (l : Option (List ℕ)). IfSome l (λ t. IsWrongReport t m)) is a)
    (subst (λ (l : Option (List ℕ)). IfSome l (λ t. IsWrongReport t n)) is b))

report_refused_once : (left : Option (List ℕ)) → HasBytes left → (a b : Status) → IsOfInputs a → IsOfInputs b → RefusesReport left a
    → RefusesReport left b → a ≡ b
report_refused_once left told (BadReport m) (BadReport n) of too a b = two_reports left told m n a b
report_refused_once left told (BadReport m) (BadJob line fault) of too a b = absurd b
report_refused_once left told (BadReport m) (BadImage fault) of too a b = absurd b
report_refused_once left told (BadReport m) (BadIndex unit len) of too a b = absurd b
report_refused_once left told (BadReport m) (OtherLayout kinds slots) of too a b = absurd b
report_refused_once left told (BadReport m) (NotAllowed line) of too a b = absurd b
report_refused_once left told (BadReport m) (BadSchedule line) of too a b = absurd b
report_refused_once left told (BadReport m) Done of too a b = absurd too
report_refused_once left told (BadReport m) BadWords of too a b = absurd too
report_refused_once left told (BadReport m) (ReadFault which) of too a b = absurd too
report_refused_once left told (BadReport m) (WriteFault which) of too a b = absurd too
report_refused_once left told (BadReport m) Memory of too a b = absurd too
report_refused_once left told (BadJob line fault) b of too a x = absurd a
report_refused_once left told (BadImage fault) b of too a x = absurd a
report_refused_once left told (BadIndex unit len) b of too a x = absurd a
report_refused_once left told (OtherLayout kinds slots) b of too a x = absurd a
report_refused_once left told (NotAllowed line) b of too a x = absurd a
report_refused_once left told (BadSchedule line) b of too a x = absurd a
report_refused_once left told Done b of too a x = absurd of
report_refused_once left told BadWords b of too a x = absurd of
report_refused_once left told (ReadFault which) b of too a x = absurd of
report_refused_once left told (WriteFault which) b of too a x = absurd of
report_refused_once left told Memory b of too a x = absurd of

new_refused_once : (left : Option (List ℕ)) → HasBytes left → (a b : Status) → IsOfInputs a → IsOfInputs b → RefusesNewImage left a
    → RefusesNewImage left b → a ≡ b
new_refused_once left told (BadImage f) (BadImage g) of too a b =
    ap (λ (x : ImageFault). BadImage x) (one_new_fault left told.0 told.1 f g a b)
new_refused_once left told (BadImage f) (BadJob line fault) of too a b = absurd b
new_refused_once left told (BadImage f) (BadIndex unit len) of too a b = absurd b
new_refused_once left told (BadImage f) (OtherLayout kinds slots) of too a b = absurd b
new_refused_once left told (BadImage f) (BadReport line) of too a b = absurd b
new_refused_once left told (BadImage f) (NotAllowed line) of too a b = absurd b
new_refused_once left told (BadImage f) (BadSchedule line) of too a b = absurd b
new_refused_once left told (BadImage f) Done of too a b = absurd too
new_refused_once left told (BadImage f) BadWords of too a b = absurd too
new_refused_once left told (BadImage f) (ReadFault which) of too a b = absurd too
new_refused_once left told (BadImage f) (WriteFault which) of too a b = absurd too
new_refused_once left told (BadImage f) Memory of too a b = absurd too
new_refused_once left told (BadJob line fault) b of too a x = absurd a
new_refused_once left told (BadIndex unit len) b of too a x = absurd a
new_refused_once left told (OtherLayout kinds slots) b of too a x = absurd a
new_refused_once left told (BadReport line) b of too a x = absurd a
new_refused_once left told (NotAllowed line) b of too a x = absurd a
new_refused_once left told (BadSchedule line) b of too a x = absurd a
new_refused_once left told Done b of too a x = absurd of
new_refused_once left told BadWords b of too a x = absurd of
new_refused_once left told (ReadFault which) b of too a x = absurd of
new_refused_once left told (WriteFault which) b of too a x = absurd of
new_refused_once left told Memory b of too a x = absurd of

-- where there is a report
report_unrefused : (left : Option (List ℕ)) (r : Report) → HasBytes left → IsReportOf left r → (status : Status) → IsOfInputs status
    → RefusesReport left status → ⊥
report_unrefused left r told of status is refused =
    not_outside status is (report_outside left r (told_report left r told of) status refused)

check_refused_once : (left image : Option (List ℕ)) → HasBytes left → HasBytes image → (a b : Status) → IsOfInputs a → IsOfInputs b
    → RefusesCheck left image a → RefusesCheck left image b → a ≡ b
check_refused_once left image told told_too a b of too (inl x) (inl y) = report_refused_once left told a b of too x y
check_refused_once left image told told_too a b of too (inl x) (inr y) = absurd (report_unrefused left y.0.0 told y.0.1 a of x)
check_refused_once left image told told_too a b of too (inr x) (inl y) = absurd (report_unrefused left x.0.0 told x.0.1 b too y)
check_refused_once left image told told_too a b of too (inr x) (inr y) = new_refused_once image told_too a b of too x.1 y.1

-- ---- of a schedule that is replayed
two_schedules : (left : Option (List ℕ)) → HasBytes left → (m n : ℕ) → IfSome left (λ text. IsScheduleRefused text m)
    → IfSome left (λ text. IsScheduleRefused text n) → BadSchedule m ≡ BadSchedule n
two_schedules left (text, is) m n a b =
    ap (λ (n : ℕ). BadSchedule n)
    (one_refused_line text m n (subst (λ (l : Option (List ℕ)). IfSome l (λ t. IsScheduleRefused t m)) is a)
    (subst (λ (l : Option (List ℕ)). IfSome l (λ t. IsScheduleRefused t n)) is b))

two_moves : (left : Option (List ℕ)) → HasBytes left → (m n : ℕ) (s t : Schedule) → IsScheduleOf left s → IsScheduleOf left t
    → IsFirstNotAllowed s m → IsFirstNotAllowed t n → NotAllowed m ≡ NotAllowed n
two_moves left told m n s t of too a b =
    let same = same_schedule left s of.is_schedule (told_schedule left s told of) t too in
    ap (λ (n : ℕ). NotAllowed n) (one_not_allowed s m n a (subst (λ (r : Schedule). IsFirstNotAllowed r n) same b))

replay_refused_once : (left : Option (List ℕ)) → HasBytes left → (a b : Status) → IsOfInputs a → IsOfInputs b → RefusesReplay left a
    → RefusesReplay left b → a ≡ b
replay_refused_once left told (BadSchedule m) (BadSchedule n) of too a b = two_schedules left told m n a b
replay_refused_once left told (NotAllowed m) (NotAllowed n) of too a b = two_moves left told m n a.0 b.0 a.1 b.1 a.2 b.2
replay_refused_once left told (BadSchedule m) (NotAllowed n) of too a b =
    absurd (no_refused_line left b.0 b.1.is_schedule (told_schedule left b.0 told b.1) m a)
replay_refused_once left told (NotAllowed m) (BadSchedule n) of too a b =
    absurd (no_refused_line left a.0 a.1.is_schedule (told_schedule left a.0 told a.1) n b)
replay_refused_once left told (BadSchedule m) (BadJob line fault) of too a b = absurd b
replay_refused_once left told (BadSchedule m) (BadImage fault) of too a b = absurd b
replay_refused_once left told (BadSchedule m) (BadIndex unit len) of too a b = absurd b
replay_refused_once left told (BadSchedule m) (OtherLayout kinds slots) of too a b = absurd b
replay_refused_once left told (BadSchedule m) (BadReport line) of too a b = absurd b
replay_refused_once left told (BadSchedule m) Done of too a b = absurd too
replay_refused_once left told (BadSchedule m) BadWords of too a b = absurd too
replay_refused_once left told (BadSchedule m) (ReadFault which) of too a b = absurd too
replay_refused_once left told (BadSchedule m) (WriteFault which) of too a b = absurd too
replay_refused_once left told (BadSchedule m) Memory of too a b = absurd too
replay_refused_once left told (NotAllowed m) (BadJob line fault) of too a b = absurd b
replay_refused_once left told (NotAllowed m) (BadImage fault) of too a b = absurd b
replay_refused_once left told (NotAllowed m) (BadIndex unit len) of too a b = absurd b
replay_refused_once left told (NotAllowed m) (OtherLayout kinds slots) of too a b = absurd b
replay_refused_once left told (NotAllowed m) (BadReport line) of too a b = absurd b
replay_refused_once left told (NotAllowed m) Done of too a b = absurd too
replay_refused_once left told (NotAllowed m) BadWords of too a b = absurd too
replay_refused_once left told (NotAllowed m) (ReadFault which) of too a b = absurd too
replay_refused_once left told (NotAllowed m) (WriteFault which) of too a b = absurd too
replay_refused_once left told (NotAllowed m) Memory of too a b = absurd too
replay_refused_once left told (BadJob line fault) b of too a x = absurd a
replay_refused_once left told (BadImage fault) b of too a x = absurd a
replay_refused_once left told (BadIndex unit len) b of too a x = absurd a
replay_refused_once left told (OtherLayout kinds slots) b of too a x = absurd a
replay_refused_once left told (BadReport line) b of too a x = absurd a
replay_refused_once left told Done b of too a x = absurd of
replay_refused_once left told BadWords b of too a x = absurd of
replay_refused_once left told (ReadFault which) b of too a x = absurd of
replay_refused_once left told (WriteFault which) b of too a x = absurd of
replay_refused_once left told Memory b of too a x = absurd of

-- ---- of a store that is made
store_refused_once : (s : Shape) (boxes : List ℕ) (a b : Status) → IsOfInputs a → IsOfInputs b → RefusesStore s boxes a
    → RefusesStore s boxes b → a ≡ b
store_refused_once s boxes a b of too x y =
    refused_store (λ (c : Status). IsOfInputs c → c ≡ b) s boxes
    (λ unit len lack is.
    refused_store (λ (d : Status). IsOfInputs d → BadIndex unit len ≡ d) s boxes
    (λ other more also is_too. same_lack s boxes unit other len more lack also)
    (λ is_too. absurd is_too) b y too)
    (λ is. absurd is) a x of

pub refused_once : (form : Form) (i : Inputs) → TellsInputs form i → (a b : Status) → IsOfInputs a → IsOfInputs b → Refuses form i a
    → Refuses form i b → a ≡ b
refused_once forms.Run i told a b of too x y = fresh_refused_once i (told.job tt) a b of too x y
refused_once forms.Crash i told a b of too x y = fresh_refused_once i (told.job tt) a b of too x y
refused_once forms.Resume i told a b of too x y =
    resumed_once i (told.job tt) (told.image tt) a b of too (stage_of i a x) (stage_of i b y)
refused_once forms.ResumeTo i told a b of too x y =
    resumed_once i (told.job tt) (told.image tt) a b of too (stage_of i a x) (stage_of i b y)
refused_once (forms.Recover workers) i told a b of too x y = image_refused_once i.image (told.image tt) a b of too x y
refused_once forms.Check i told a b of too x y = check_refused_once i.job i.image (told.job tt) (told.image tt) a b of too x y
refused_once forms.Replay i told a b of too x y = replay_refused_once i.job (told.job tt) a b of too x y
refused_once (forms.Big number) i told a b of too x y = store_refused_once generated_head.layout i.boxes a b of too x y
refused_once (forms.Bank number) i told a b of too x y = store_refused_once bank_layout i.boxes a b of too x y
