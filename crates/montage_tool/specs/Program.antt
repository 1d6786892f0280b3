-- What the program answers to its words, and what it tells of its status.
use Rattle.std.specs.Prelude.{◌≡◌, ℕ, ◌≤◌, List, None, Option}
use Rattle.std.specs.Io.KnownBytes.{Appends}
use Rattle.mont_base.specs.Faults.{Rose}
use Rattle.mont_base.specs.Delivery.{AppendsFront}
use Rattle.montage_tool.specs.Devices.{Devices, IsWritten}
use Rattle.montage_tool.specs.Forms.{AreHelp, AreVersion, HaveForm, IsForm}
use Rattle.montage_tool.specs.Service.{Serves}
use Rattle.montage_tool.specs.declared.about.TheConstants.{HELP, VERSION}
use Rattle.montage_tool.specs.declared.forms.Form.{Form}
use Rattle.montage_tool.specs.declared.status.Status.{Status}
use Rattle.montage_tool.specs.declared.status.Status.TheVariants.{BadWords}

-- a text was written, and no source was asked
pub record IsTold (text : List ℕ) (old new : Devices) (status : Status) : Type 0 where
  pub written :
      IsWritten (record { text = text; image = None }) old.out new.out old.image_out new.image_out
      status
  pub job : new.job ≡ old.job
  pub image : new.image ≡ old.image

-- What came of the words, with boxes of so many keys: a text on the program itself, what their form
-- asks for, or nothing.
pub record Answers (boxes : List ℕ) (words : List (List ℕ)) (old new : Devices) (status : Status)
    : Type 0 where
  pub help : AreHelp words → IsTold HELP.now old new status
  pub version : AreVersion words → IsTold VERSION.now old new status
  pub serves : (form : Form) → IsForm words form → Serves form boxes old new status
  pub bad_words :
      ¬ AreHelp words → ¬ AreVersion words → ¬ HaveForm words
      → (status ≡ BadWords) × (new ≡ old)

-- A line is told once: a front of it, and the whole where the sink doesn't fail.
pub record IsSaid {O : Type 0} (taken : O → Option (List ℕ)) (faults : O → ℕ) (out told : O)
    (line : List ℕ) : Type 0 where
  pub front : AppendsFront (taken out) (taken told) line
  pub later : faults out ≤ faults told
  pub whole : ¬ Rose (faults out) (faults told) → Appends (taken out) (taken told) line
