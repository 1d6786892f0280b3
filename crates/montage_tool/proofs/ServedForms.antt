-- What was made of a form's inputs, or why nothing was, and what came of writing it.
use Rattle.std.proofs.Common.{◌≡◌, ◌⊎◌, ◌↔◌, ℕ, ◌+◌, List, [], ◌∷◌, length, codes, inl, inr, refl, sym, ap, ◌∙◌, subst, arith}
use Rattle.std.specs.Prelude.{Option, Some, None, IfErr, IfOk, OnOk, Result, Ok, Err}
use Rattle.std.specs.Io.KnownBytes.{IsAtEnd}
use Rattle.bank_job.specs.Bank.{bank_layout}
use Rattle.big_job.specs.Generated.{generated_head}
use Rattle.job_text.specs.declared.limits.TheConstants.{READ_BYTES}
use Rattle.mont_image.specs.declared.image_text.TheConstants.{IMAGE_BYTES}
use Rattle.montage_tool.specs.declared.forms.Form.{Form}
use Rattle.montage_tool.specs.declared.forms.Form.TheVariants as forms
use Rattle.montage_tool.specs.declared.status.Status.{Status}
use Rattle.montage_tool.specs.declared.status.Status.TheVariants.{Done, BadWords, BadJob, BadImage, ReadFault, WriteFault, Memory, BadIndex, OtherLayout, BadReport, NotAllowed, BadSchedule}
use Rattle.montage_tool.specs.declared.status.SourceName.{SourceName}
use Rattle.montage_tool.specs.declared.status.SourceName.TheVariants as sources
use Rattle.montage_tool.specs.Devices.{Devices, HasOutput, IsQuiet, IsRead, IsUsed, IsWritten, Output, SinkSeen, SourceSeen, StopsAtJob, ended_as}
use Rattle.montage_tool.specs.Forms.{AreHelp, AreVersion, AsksImage, AsksJob, HaveForm, IsForm, image_bytes, job_bytes}
use Rattle.replay.specs.declared.schedule_limits.TheConstants.{SCHEDULE_BYTES}
use Rattle.montage_tool.specs.declared.read_inputs.TheConstants.{REPORT_BYTES}
use Rattle.montage_tool.specs.GeneratedForms.{IsBankText, IsBigText, RefusesStore}
use Rattle.montage_tool.specs.Judged.{IsHeld, IsReplayed, RefusesCheck, RefusesReplay}
use Rattle.montage_tool.specs.Inputs.{inputs}
use Rattle.montage_tool.specs.Service.{AreContents, Gives, IsFreshRun, IsResumedRun, Refuses, RefusesFresh, RefusesImage, RefusesResumed, Serves}
use Rattle.montage_tool.specs.declared.about.Question.{Question}
use Rattle.montage_tool.specs.declared.about.Question.TheVariants as questions
use Rattle.montage_tool.specs.declared.about.TheConstants.{HELP, VERSION}
use Rattle.montage_tool.specs.Program.{Answers, IsTold}
use Rattle.montage_tool.proofs.FormWords.{first_byte, same_form}
use Rattle.montage_tool.proofs.Served.{read_on, refuses_quiet, serves, written_out}

-- ---- results
pub ok_map : {A : Type 0} (P Q : A → Type 0) (result : Result A Status) → ((a : A) → P a → Q a) → IfOk result P → IfOk result Q
ok_map P Q (Ok a) f is = f a is
ok_map P Q (Err status) f is = tt

pub err_map : {A : Type 0} (P Q : Status → Type 0) (result : Result A Status) → ((status : Status) → P status → Q status)
    → IfErr result P → IfErr result Q
err_map P Q (Ok a) f is = tt
err_map P Q (Err status) f is = f status is

any_err : {A : Type 0} (result : Result A Status) → IfErr result (λ s. Unit {0})
any_err (Ok a) = tt
any_err (Err status) = tt

-- ---- statuses
output_reads : (status : Status) → HasOutput status → ¬ StopsAtJob status
output_reads Done out stops = stops
output_reads (WriteFault which) out stops = stops
output_reads BadWords out stops = out
output_reads (BadJob line fault) out stops = out
output_reads (BadImage fault) out stops = out
output_reads (ReadFault which) out stops = out
output_reads Memory out stops = out
output_reads (BadIndex unit len) out stops = out
output_reads (OtherLayout kinds slots) out stops = out
output_reads (BadReport number) out stops = out
output_reads (NotAllowed number) out stops = out
output_reads (BadSchedule number) out stops = out

pub image_reads : (left : Option (List ℕ)) (status : Status) → RefusesImage left status → ¬ StopsAtJob status
image_reads left (ReadFault sources.Job) refused stops = refused
image_reads left (ReadFault sources.Image) refused stops = stops
image_reads left (BadJob line fault) refused stops = refused
image_reads left Done refused stops = stops
image_reads left (WriteFault which) refused stops = stops
image_reads left BadWords refused stops = stops
image_reads left (BadImage fault) refused stops = stops
image_reads left Memory refused stops = stops
image_reads left (BadIndex unit len) refused stops = stops
image_reads left (OtherLayout kinds slots) refused stops = stops
image_reads left (BadReport number) refused stops = refused
image_reads left (NotAllowed number) refused stops = refused
image_reads left (BadSchedule number) refused stops = refused

-- ---- sources
pub used_on : (most : Option ℕ) (name : SourceName) (old new : SourceSeen) (status : Status) → HasOutput status
    → IsUsed most name old new Done → IsUsed most name old new status
used_on None name old new status out is = is
used_on (Some most) name old new status out is = read_on most name old new status out is

-- ---- what came of it
module _ (form : Form) (boxes : List ℕ) (old new : Devices) (status : Status) {A : Type 0} (output : A → Output) where
  pub serves_made : (made : Result A Status) → IfOk made (λ a. Gives form (inputs old boxes) (output a))
      → IfErr made (Refuses form (inputs old boxes))
      → IfOk made (λ a. IsWritten (output a) old.out new.out old.image_out new.image_out status)
      → IfErr made (λ s. (status ≡ s) × IsQuiet old new) → IsUsed (job_bytes form) sources.Job old.job new.job (ended_as made)
      → IsUsed (image_bytes form) sources.Image old.image new.image (ended_as made)
      → IfErr made (λ s. StopsAtJob s → new.image ≡ old.image) → (AsksJob form → OnOk made (IsAtEnd new.job.left))
      → Serves form boxes old new status
  serves_made (Ok a) gives refused sent unsent job image first whole =
      let out = written_out status (output a) old.out new.out old.image_out new.image_out sent in
      serves form boxes old new status (inr (output a, gives, sent)) (used_on (job_bytes form) sources.Job old.job new.job status out job)
      (used_on (image_bytes form) sources.Image old.image new.image status out image)
      (λ stops. absurd (output_reads status out stops)) (λ asks written. whole asks)
  serves_made (Err s) gives refused sent unsent job image first whole =
      subst (Serves form boxes old new) (sym unsent.0)
      (serves form boxes old new s (inl (refused, unsent.1)) job image first
      (λ asks written. absurd (refuses_quiet form (inputs old boxes) s refused written)))

-- ---- each form
-- The output of a run: its report, and the image where one is written.
module _
    (boxes : List ℕ) (old new : Devices) (status : Status) {A : Type 0} (report image : A → List ℕ) (made : Result A Status)
    (unsent : IfErr made (λ s. (status ≡ s) × IsQuiet old new)) where
  abbrev WritesReport : Type 0
  WritesReport =
      IfOk made (λ a. IsWritten (record { text = report a; image = None }) old.out new.out old.image_out new.image_out status)

  abbrev WritesBoth : Type 0
  WritesBoth =
      IfOk made (λ a. IsWritten (record { text = report a; image = Some (image a) }) old.out new.out old.image_out new.image_out status)

  module _
      (runs : IfOk made (λ a. IsFreshRun (inputs old boxes) (report a) (image a))) (refused : IfErr made (RefusesFresh (inputs old boxes)))
      (source : IsRead READ_BYTES sources.Job old.job new.job (ended_as made)) (whole : OnOk made (IsAtEnd new.job.left))
      (unasked : new.image ≡ old.image) where
    pub serves_run : (form : Form) → form ≡ forms.Run → WritesReport → Serves form boxes old new status
    serves_run form is sent =
        subst (λ (f : Form). Serves f boxes old new status) (sym is)
        (serves_made forms.Run boxes old new status (λ a. record { text = report a; image = None }) made
        (ok_map (λ a. IsFreshRun (inputs old boxes) (report a) (image a))
        (λ a. Gives forms.Run (inputs old boxes) (record { text = report a; image = None })) made (λ a run. (image a, run, refl)) runs)
        refused sent unsent source unasked (err_map (λ s. Unit {0}) (λ s. StopsAtJob s → new.image ≡ old.image) made (λ s t stops. unasked)
        (any_err made)) (λ asks. whole))

    pub serves_crash : (form : Form) → form ≡ forms.Crash → WritesBoth → Serves form boxes old new status
    serves_crash form is sent =
        subst (λ (f : Form). Serves f boxes old new status) (sym is)
        (serves_made forms.Crash boxes old new status (λ a. record { text = report a; image = Some (image a) }) made
        (ok_map (λ a. IsFreshRun (inputs old boxes) (report a) (image a))
        (λ a. Gives forms.Crash (inputs old boxes) (record { text = report a; image = Some (image a) })) made
        (λ a run. (image a, run, refl)) runs)
        refused sent unsent source unasked (err_map (λ s. Unit {0}) (λ s. StopsAtJob s → new.image ≡ old.image) made (λ s t stops. unasked)
        (any_err made)) (λ asks. whole))

  module _
      (runs : IfOk made (λ a. IsResumedRun (inputs old boxes) (report a) (image a)))
      (refused : IfErr made (RefusesResumed (inputs old boxes)))
      (source : IsRead READ_BYTES sources.Job old.job new.job (ended_as made)) (whole : OnOk made (IsAtEnd new.job.left))
      (source_too : IsRead (IMAGE_BYTES + 1) sources.Image old.image new.image (ended_as made))
      (first : IfErr made (λ s. StopsAtJob s → new.image ≡ old.image)) where
    pub serves_resume : (form : Form) → form ≡ forms.Resume → WritesReport → Serves form boxes old new status
    serves_resume form is sent =
        subst (λ (f : Form). Serves f boxes old new status) (sym is)
        (serves_made forms.Resume boxes old new status (λ a. record { text = report a; image = None }) made
        (ok_map (λ a. IsResumedRun (inputs old boxes) (report a) (image a))
        (λ a. Gives forms.Resume (inputs old boxes) (record { text = report a; image = None })) made (λ a run. (image a, run, refl)) runs)
        refused sent unsent source source_too first (λ asks. whole))

    pub serves_resume_to : (form : Form) → form ≡ forms.ResumeTo → WritesBoth → Serves form boxes old new status
    serves_resume_to form is sent =
        subst (λ (f : Form). Serves f boxes old new status) (sym is)
        (serves_made forms.ResumeTo boxes old new status (λ a. record { text = report a; image = Some (image a) }) made
        (ok_map (λ a. IsResumedRun (inputs old boxes) (report a) (image a))
        (λ a. Gives forms.ResumeTo (inputs old boxes) (record { text = report a; image = Some (image a) })) made
        (λ a run. (image a, run, refl)) runs)
        refused sent unsent source source_too first (λ asks. whole))

  -- the text of what an image holds
  pub serves_recover : (form : Form) (workers : ℕ) → form ≡ forms.Recover workers → IfOk made (λ a. AreContents old.image.left (report a))
      → IfErr made (RefusesImage old.image.left) → IsRead (IMAGE_BYTES + 1) sources.Image old.image new.image (ended_as made)
      → new.job ≡ old.job → WritesReport → Serves form boxes old new status
  serves_recover form workers is told refused source unasked sent =
      subst (λ (f : Form). Serves f boxes old new status) (sym is)
      (serves_made (forms.Recover workers) boxes old new status (λ a. record { text = report a; image = None }) made
      (ok_map (λ a. AreContents old.image.left (report a))
      (λ a. Gives (forms.Recover workers) (inputs old boxes) (record { text = report a; image = None })) made (λ a are. (are, refl)) told)
      refused sent unsent unasked source
      (err_map (RefusesImage old.image.left) (λ s. StopsAtJob s → new.image ≡ old.image) made
      (λ s r stops. absurd (image_reads old.image.left s r stops)) refused) (λ asks. absurd asks))

  -- the verdict of a report on an image
  pub serves_check : (form : Form) → form ≡ forms.Check → IfOk made (λ a. IsHeld old.job.left old.image.left (report a))
      → IfErr made (RefusesCheck old.job.left old.image.left)
      → IsRead (REPORT_BYTES + 1) sources.Job old.job new.job (ended_as made) → OnOk made (IsAtEnd new.job.left)
      → IsRead (IMAGE_BYTES + 1) sources.Image old.image new.image (ended_as made)
      → IfErr made (λ s. StopsAtJob s → new.image ≡ old.image) → WritesReport → Serves form boxes old new status
  serves_check form is told refused source whole source_too first sent =
      subst (λ (f : Form). Serves f boxes old new status) (sym is)
      (serves_made forms.Check boxes old new status (λ a. record { text = report a; image = None }) made
      (ok_map (λ a. IsHeld old.job.left old.image.left (report a))
      (λ a. Gives forms.Check (inputs old boxes) (record { text = report a; image = None })) made (λ a held. (held, refl)) told)
      refused sent unsent source source_too first (λ asks. whole))

  -- the text of a replay
  pub serves_replay : (form : Form) → form ≡ forms.Replay → IfOk made (λ a. IsReplayed old.job.left (report a))
      → IfErr made (RefusesReplay old.job.left) → IsRead SCHEDULE_BYTES sources.Job old.job new.job (ended_as made)
      → OnOk made (IsAtEnd new.job.left) → new.image ≡ old.image → WritesReport → Serves form boxes old new status
  serves_replay form is told refused source whole unasked sent =
      subst (λ (f : Form). Serves f boxes old new status) (sym is)
      (serves_made forms.Replay boxes old new status (λ a. record { text = report a; image = None }) made
      (ok_map (λ a. IsReplayed old.job.left (report a))
      (λ a. Gives forms.Replay (inputs old boxes) (record { text = report a; image = None })) made (λ a replayed. (replayed, refl)) told)
      refused sent unsent source unasked
      (err_map (λ s. Unit {0}) (λ s. StopsAtJob s → new.image ≡ old.image) made (λ s t stops. unasked) (any_err made)) (λ asks. whole))

  -- the text of a run of what is generated, for which no source is asked
  module _ (unasked : new.job ≡ old.job) (unasked_too : new.image ≡ old.image) (sent : WritesReport) where
    never_stops : IfErr made (λ s. StopsAtJob s → new.image ≡ old.image)
    never_stops = err_map (λ s. Unit {0}) (λ s. StopsAtJob s → new.image ≡ old.image) made (λ s t stops. unasked_too) (any_err made)

    pub serves_big : (form : Form) (number : ℕ) → form ≡ forms.Big number → IfOk made (λ a. IsBigText number boxes (report a))
        → IfErr made (RefusesStore generated_head.layout boxes) → Serves form boxes old new status
    serves_big form number is told refused =
        subst (λ (f : Form). Serves f boxes old new status) (sym is)
        (serves_made (forms.Big number) boxes old new status (λ a. record { text = report a; image = None }) made
        (ok_map (λ a. IsBigText number boxes (report a))
        (λ a. Gives (forms.Big number) (inputs old boxes) (record { text = report a; image = None })) made (λ a sum. (sum, refl)) told)
        refused sent unsent unasked unasked_too never_stops (λ asks. absurd asks))

    pub serves_bank : (form : Form) (number : ℕ) → form ≡ forms.Bank number → IfOk made (λ a. IsBankText number boxes (report a))
        → IfErr made (RefusesStore bank_layout boxes) → Serves form boxes old new status
    serves_bank form number is told refused =
        subst (λ (f : Form). Serves f boxes old new status) (sym is)
        (serves_made (forms.Bank number) boxes old new status (λ a. record { text = report a; image = None }) made
        (ok_map (λ a. IsBankText number boxes (report a))
        (λ a. Gives (forms.Bank number) (inputs old boxes) (record { text = report a; image = None })) made (λ a bank. (bank, refl)) told)
        refused sent unsent unasked unasked_too never_stops (λ asks. absurd asks))

-- ---- devices that stay as they were
module _ {A : Type 0} (output : A → Output) (made : Result A Status) (status : Status) (old new image_out kept : SinkSeen)
    (sent : IfOk made (λ a. IsWritten (output a) old new image_out kept status)) where
  -- the sink of reports, where there is no output
  pub stays_quiet : {O : Type 0} (before behind : O) → IfErr made (λ s. (status ≡ s) × (behind ≡ before)) → ¬ HasOutput status
      → behind ≡ before
  stays_quiet before behind unsent none = quiet made sent unsent
    where
      quiet : (r : Result A Status) → IfOk r (λ a. IsWritten (output a) old new image_out kept status)
          → IfErr r (λ s. (status ≡ s) × (behind ≡ before)) → behind ≡ before
      quiet (Ok a) written is = absurd (none (written_out status (output a) old new image_out kept written))
      quiet (Err s) written is = is.1

  -- the source of images, where no job is read
  pub stays_unasked : {I : Type 0} (before behind : I) (form : Form) → AsksImage form → IfErr made (λ s. status ≡ s)
      → IfErr made (λ s. StopsAtJob s → behind ≡ before) → ((¬ AsksImage form) ⊎ StopsAtJob status) → behind ≡ before
  stays_unasked before behind form asks unsent first (inl none) = absurd (none asks)
  stays_unasked before behind form asks unsent first (inr stops) = unasked made sent unsent first
    where
      unasked : (r : Result A Status) → IfOk r (λ a. IsWritten (output a) old new image_out kept status) → IfErr r (λ s. status ≡ s)
          → IfErr r (λ s. StopsAtJob s → behind ≡ before) → behind ≡ before
      unasked (Ok a) written is f =
          absurd (output_reads status (written_out status (output a) old new image_out kept written) stops)
      unasked (Err s) written is f = f (subst StopsAtJob is stops)

pub err_status : {A O : Type 0} (made : Result A Status) (status : Status) (old new : O) → IfErr made (λ s. (status ≡ s) × (new ≡ old))
    → IfErr made (λ s. status ≡ s)
err_status made status old new is = err_map (λ s. (status ≡ s) × (new ≡ old)) (λ s. status ≡ s) made (λ s both. both.0) is

-- nothing was written, as is seen of both sinks
pub quiet_one : {A O : Type 0} (seen : O → SinkSeen) (made : Result A Status) (status : Status) (before behind : O) (old new : Devices)
    → new.out ≡ seen behind → old.out ≡ seen before → new.image_out ≡ old.image_out
    → IfErr made (λ s. (status ≡ s) × (behind ≡ before)) → IfErr made (λ s. (status ≡ s) × IsQuiet old new)
quiet_one seen made status before behind old new told was kept is =
    err_map (λ s. (status ≡ s) × (behind ≡ before)) (λ s. (status ≡ s) × IsQuiet old new) made
    (λ s both. (both.0, record { out = told ∙ ap seen both.1 ∙ sym was; image_out = kept })) is

pub quiet_two : {A O K : Type 0} (seen : O → SinkSeen) (seen_too : K → SinkSeen) (made : Result A Status) (status : Status)
    (before behind : O) (image_out kept : K) (old new : Devices) → new.out ≡ seen behind → old.out ≡ seen before
    → new.image_out ≡ seen_too kept → old.image_out ≡ seen_too image_out
    → IfErr made (λ s. (status ≡ s) × (behind ≡ before) × (kept ≡ image_out)) → IfErr made (λ s. (status ≡ s) × IsQuiet old new)
quiet_two seen seen_too made status before behind image_out kept old new told was told_too was_too is =
    err_map (λ s. (status ≡ s) × (behind ≡ before) × (kept ≡ image_out)) (λ s. (status ≡ s) × IsQuiet old new) made
    (λ s all.
    (all.0, record { out = told ∙ ap seen all.1 ∙ sym was; image_out = told_too ∙ ap seen_too all.2 ∙ sym was_too })) is

-- ---- a source of an image that isn't asked
pub first_seen : {A I : Type 0} (seen : I → SourceSeen) (made : Result A Status) (before behind : I)
    → IfErr made (λ s. StopsAtJob s → behind ≡ before) → IfErr made (λ s. StopsAtJob s → seen behind ≡ seen before)
first_seen seen made before behind is =
    err_map (λ s. StopsAtJob s → behind ≡ before) (λ s. StopsAtJob s → seen behind ≡ seen before) made
    (λ s same stops. ap seen (same stops)) is

-- where no job is asked for, none stops it
pub never_first : {A I : Type 0} (left : Option (List ℕ)) (made : Result A Status) (before behind : I) → IfErr made (RefusesImage left)
    → IfErr made (λ s. StopsAtJob s → behind ≡ before)
never_first left made before behind is =
    err_map (RefusesImage left) (λ s. StopsAtJob s → behind ≡ before) made
    (λ s refused stops. absurd (image_reads left s refused stops)) is

-- ---- words of one form
pub serves_words : (words : List (List ℕ)) (a : Form) → IsForm words a → (boxes : List ℕ) (old new : Devices) (status : Status)
    → Serves a boxes old new status → (form : Form) → IsForm words form → Serves form boxes old new status
serves_words words a of boxes old new status is form too =
    subst (λ (f : Form). Serves f boxes old new status) (same_form words a form of too) is

-- words that ask the program of itself have no form
abbrev name_of : List (List ℕ) → List ℕ
name_of [] = []
name_of (name ∷ words) = name

pub question_none : (words : List (List ℕ)) (question : List ℕ) → first_byte question ≡ 45 → words ≡ question ∷ [] → HaveForm words → ⊥
question_none words question dash is (forms.Run, of) =
    let n : first_byte question ≡ 114 = ap (λ (ws : List (List ℕ)). first_byte (name_of ws)) (sym is ∙ of) in
    absurd (omega arith)
question_none words question dash is (forms.Crash, of) = let n = ap length (sym is ∙ of.1) in absurd (omega arith)
question_none words question dash is (forms.Resume, of) = let n = ap length (sym is ∙ of.1) in absurd (omega arith)
question_none words question dash is (forms.ResumeTo, of) = let n = ap length (sym is ∙ of.2) in absurd (omega arith)
question_none words question dash is (forms.Check, of) = let n = ap length (sym is ∙ of.1) in absurd (omega arith)
question_none words question dash is (forms.Replay, of) =
    let n : first_byte question ≡ 114 = ap (λ (ws : List (List ℕ)). first_byte (name_of ws)) (sym is ∙ of) in
    absurd (omega arith)
question_none words question dash is (forms.Recover workers, of) = let n = ap length (sym is ∙ of.2.1) in absurd (omega arith)
question_none words question dash is (forms.Big number, of) = let n = ap length (sym is ∙ of.1) in absurd (omega arith)
question_none words question dash is (forms.Bank number, of) = let n = ap length (sym is ∙ of.1) in absurd (omega arith)

pub help_none : (words : List (List ℕ)) → AreHelp words → HaveForm words → ⊥
help_none words is have = question_none words (codes "--help") refl is have

pub version_none : (words : List (List ℕ)) → AreVersion words → HaveForm words → ⊥
version_none words is have = question_none words (codes "--version") refl is have

two_questions : (words : List (List ℕ)) → AreHelp words → AreVersion words → ⊥
two_questions words a b =
    let n : length (codes "--help") ≡ length (codes "--version") = ap (λ (ws : List (List ℕ)). length (name_of ws)) (sym a ∙ b) in
    absurd (omega arith)

-- ---- what the program answers
told_text : (text : List ℕ) (old new : Devices) (status : Status)
    → IsWritten (record { text = text; image = None }) old.out new.out old.image_out new.image_out status → new.job ≡ old.job
    → new.image ≡ old.image → IsTold text old new status
told_text text old new status written job image = record { written = written; job = job; image = image }

module _ (boxes : List ℕ) (words : List (List ℕ)) (old new : Devices) (status : Status) where
  pub answers_question : (question : Question) (text : List ℕ)
      → ((Some question ≡ Some questions.Help) ↔ AreHelp words) → ((Some question ≡ Some questions.Version) ↔ AreVersion words)
      → (question ≡ questions.Help → text ≡ HELP.now) → (question ≡ questions.Version → text ≡ VERSION.now)
      → IsWritten (record { text = text; image = None }) old.out new.out old.image_out new.image_out status → new.job ≡ old.job
      → new.image ≡ old.image → Answers boxes words old new status
  answers_question questions.Help text help version is_help is_version written job image =
      let are = help.0 refl in
      record {
        help = λ _. told_text HELP.now old new status
            (subst (λ (t : List ℕ). IsWritten (record { text = t; image = None }) old.out new.out old.image_out new.image_out status)
            (is_help refl) written) job image;
        version = λ too. absurd (two_questions words are too);
        serves = λ form of. absurd (help_none words are (form, of));
        bad_words = λ none other formless. absurd (none are);
      }
  answers_question questions.Version text help version is_help is_version written job image =
      let are = version.0 refl in
      record {
        help = λ too. absurd (two_questions words too are);
        version = λ _. told_text VERSION.now old new status
            (subst (λ (t : List ℕ). IsWritten (record { text = t; image = None }) old.out new.out old.image_out new.image_out status)
            (is_version refl) written) job image;
        serves = λ form of. absurd (version_none words are (form, of));
        bad_words = λ none other formless. absurd (other are);
      }
