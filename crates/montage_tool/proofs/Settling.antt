-- A file that was written whole is moved to its place, or can't be.
use Rattle.std.proofs.Common.{◌≡◌, ℕ, Bool, true, false, List, inl, inr, sym, ap, ◌∙◌, subst, arith}
use Rattle.std.specs.Prelude.{◌≢◌, Option, Some, None, is_some}
use Rattle.mont_base.specs.declared.sink.Sink as sink_trait
use Rattle.mont_base.specs.declared.source.Source as source_trait
use Rattle.mont_base.specs.Faults.{Rose}
use Rattle.montage_tool.specs.declared.forms.FileWords.{FileWords}
use Rattle.montage_tool.specs.declared.forms.Form.{Form}
use Rattle.montage_tool.specs.declared.forms.Form.TheVariants as forms
use Rattle.montage_tool.specs.declared.status.Status.{Status}
use Rattle.montage_tool.specs.declared.status.Status.TheVariants.{Done, WriteFault}
use Rattle.montage_tool.specs.declared.status.SinkName.TheVariants as sinks
use Rattle.montage_tool.specs.declared.status.SourceName.TheVariants as sources
use Rattle.montage_tool.specs.Devices.{Devices, HasOutput, Output, SinkSeen, SourceSeen, TakesImage, TakesImageFront, sink_seen, source_seen}
use Rattle.montage_tool.specs.Forms.{AskFor, AsksJob, HaveForm, IsForm, KeepsImage, files_in, image_bytes, job_bytes, no_files}
use Rattle.montage_tool.specs.Inputs.{Inputs, inputs}
use Rattle.montage_tool.specs.Process.{AreAnswered, IsSettled}
use Rattle.montage_tool.specs.Program.{Answers}
use Rattle.montage_tool.specs.Service.{Comes, Gives, Serves}
use Rattle.montage_tool.proofs.Served.{refuses_quiet, serves}
use Rattle.montage_tool.proofs.ServedForms.{help_none, used_on, version_none}

-- what a process was answered
pub answered_by : {J O : Type 0} (source : source_trait.Ghosts J) (sink : sink_trait.Ghosts O) (words : List (List ℕ)) (job read : J)
    (out written : O) (status : Status) (boxes : List ℕ) (image image_read : SourceSeen) (image_out image_written : SinkSeen)
    → Answers boxes words
    (record { job = source_seen source job; image = image; out = sink_seen sink out; image_out = image_out })
    (record { job = source_seen source read; image = image_read; out = sink_seen sink written; image_out = image_written }) status
    → (¬ AskFor AsksJob words → read ≡ job) → (¬ HasOutput status → written ≡ out)
    → AreAnswered source sink words boxes job read out written status
answered_by source sink words job read out written status boxes image image_read image_out image_written answers unasked quiet =
    record {
      image = image;
      image_read = image_read;
      image_out = image_out;
      image_written = image_written;
      answers = answers;
      unasked = unasked;
      quiet = quiet;
    }

-- ---- the sink of an image that tells no bytes
abbrev untold : ℕ → SinkSeen
untold faults = record { taken = None; faults = faults }

abbrev with : SourceSeen → SourceSeen → SinkSeen → ℕ → Devices
with job image out faults = record { job = job; image = image; out = out; image_out = untold faults }

-- what tells of a value is some
pub some_of : (o : Option ℕ) (b : Bool) → b ≡ is_some o → b ≡ true → o ≢ None
some_of None b told is = λ n. let both : false ≡ true = sym told ∙ is in absurd (cc)
some_of (Some x) b told is = λ n. absurd (cc)

module _ (before middle last : ℕ) (rose : Rose middle last) where
  front_lost : (image : Option (List ℕ)) (bytes : List ℕ) → image ≡ Some bytes → TakesImage image (untold before) (untold middle)
      → TakesImageFront image (untold before) (untold last)
  front_lost None bytes is taken = absurd (cc)
  front_lost (Some all) bytes is taken = record {
    front = (0, omega arith, tt);
    failed = subst (λ (n : ℕ). Rose n last) taken.kept rose;
  }

  gives_image : (form : Form) (i : Inputs) (o : Output) → KeepsImage form → Gives form i o
      → TakesImage o.image (untold before) (untold middle) → TakesImageFront o.image (untold before) (untold last)
  gives_image forms.Run i o keeps gives taken = absurd keeps
  gives_image forms.Crash i o keeps gives taken = front_lost o.image gives.0 gives.2 taken
  gives_image forms.Resume i o keeps gives taken = absurd keeps
  gives_image forms.ResumeTo i o keeps gives taken = front_lost o.image gives.0 gives.2 taken
  gives_image (forms.Recover workers) i o keeps gives taken = absurd keeps
  gives_image forms.Check i o keeps gives taken = absurd keeps
  gives_image (forms.Big number) i o keeps gives taken = absurd keeps
  gives_image (forms.Bank number) i o keeps gives taken = absurd keeps
  gives_image forms.Replay i o keeps gives taken = absurd keeps

module _ (boxes : List ℕ) (job image : SourceSeen) (out : SinkSeen) (before middle last : ℕ) (read image_read : SourceSeen)
    (told : SinkSeen) where
  abbrev behind : ℕ → Devices
  behind faults = with read image_read told faults

  abbrev old : Devices
  old = with job image out before

  lost : (form : Form) → KeepsImage form → Rose middle last → Serves form boxes old (behind middle) Done
      → Serves form boxes old (behind last) (WriteFault sinks.Image)
  lost form keeps rose done =
      serves form boxes old (behind last) (WriteFault sinks.Image) (comes done.comes)
      (used_on (job_bytes form) sources.Job job read (WriteFault sinks.Image) tt done.job)
      (used_on (image_bytes form) sources.Image image image_read (WriteFault sinks.Image) tt done.image) (λ stops. absurd stops)
      (λ asks written. done.whole asks tt)
    where
      comes : Comes form (inputs old boxes) old (behind middle) Done
          → Comes form (inputs old boxes) old (behind last) (WriteFault sinks.Image)
      comes (inl refused) = absurd (refuses_quiet form (inputs old boxes) Done refused.0 tt)
      comes (inr written) =
          inr (
            written.0,
            written.1,
            (written.2.0, gives_image before middle last rose form (inputs old boxes) written.0 keeps written.1 written.2.1),
          )

  -- words that name a file to be written
  module _
      (words : List (List ℕ)) (files : FileWords) (named : (form : Form) → IsForm words form → files ≡ files_in form)
      (others : ¬ HaveForm words → files ≡ no_files) (some : files.image_out ≢ None) where
    keeps_image : (form : Form) → files ≡ files_in form → KeepsImage form
    keeps_image forms.Run is = some (ap (λ (f : FileWords). f.image_out) is)
    keeps_image forms.Crash is = tt
    keeps_image forms.Resume is = some (ap (λ (f : FileWords). f.image_out) is)
    keeps_image forms.ResumeTo is = tt
    keeps_image (forms.Recover workers) is = some (ap (λ (f : FileWords). f.image_out) is)
    keeps_image forms.Check is = some (ap (λ (f : FileWords). f.image_out) is)
    keeps_image forms.Replay is = some (ap (λ (f : FileWords). f.image_out) is)
    keeps_image (forms.Big number) is = some (ap (λ (f : FileWords). f.image_out) is)
    keeps_image (forms.Bank number) is = some (ap (λ (f : FileWords). f.image_out) is)

    formless : ¬ HaveForm words → ⊥
    formless none = some (ap (λ (f : FileWords). f.image_out) (others none))

    lost_answers : Rose middle last → Answers boxes words old (behind middle) Done
        → Answers boxes words old (behind last) (WriteFault sinks.Image)
    lost_answers rose done = record {
      help = λ are. absurd (formless (help_none words are));
      version = λ are. absurd (formless (version_none words are));
      serves = λ form of. lost form (keeps_image form (named form of)) rose (done.serves form of);
      bad_words = λ a b none. absurd (formless none);
    }

    pub settled_answers : (status settled : Status) → IsSettled status middle last settled
        → Answers boxes words old (behind middle) status → Answers boxes words old (behind last) settled
    settled_answers status settled (inl same) answers =
        subst (λ (x : ℕ × Status). Answers boxes words old (behind x.0) x.1) (λ i. (sym same.1 i, sym same.0 i)) answers
    settled_answers status settled (inr moved) answers =
        subst (Answers boxes words old (behind last)) (sym moved.1)
        (lost_answers moved.2 (subst (Answers boxes words old (behind middle)) moved.0 answers))

-- the sink of reports took nothing where there is no output, then too
pub settled_quiet : (status settled : Status) (faults now : ℕ) → IsSettled status faults now settled → ¬ HasOutput settled
    → ¬ HasOutput status
settled_quiet status settled faults now (inl same) none out = none (subst HasOutput (sym same.0) out)
settled_quiet status settled faults now (inr moved) none out = none (subst HasOutput (sym moved.1) tt)
