-- What the words of the command line ask for.
use Rattle.std.specs.Prelude.{◌≡◌, ℕ, ◌+◌, ◌<◌, ◌≤◌, ◌^◌, List, [], ◌∷◌, codes, decimal, Option, Some, None}
use Rattle.job_text.specs.declared.limits.TheConstants.{READ_BYTES}
use Rattle.mont_image.specs.declared.image_text.TheConstants.{IMAGE_BYTES}
use Rattle.replay.specs.declared.schedule_limits.TheConstants.{SCHEDULE_BYTES}
use Rattle.montage_tool.specs.declared.read_inputs.TheConstants.{REPORT_BYTES}
use Rattle.montage_tool.specs.declared.forms.FileWords.{FileWords}
use Rattle.montage_tool.specs.declared.forms.Form.{Form}
use Rattle.montage_tool.specs.declared.forms.Form.TheVariants.{Run, Crash, Resume, ResumeTo, Recover, Check, Replay, Big, Bank}

-- ---- the forms of words
-- FILE and OUT are any words; a number is spelled by its digits
abbrev pub IsForm : List (List ℕ) → Form → Type 0
IsForm words Run = words ≡ codes "run" ∷ []
IsForm words Crash = (file : List ℕ) × (words ≡ codes "crash" ∷ file ∷ [])
IsForm words Resume = (file : List ℕ) × (words ≡ codes "resume" ∷ file ∷ [])
IsForm words ResumeTo =
    (file : List ℕ) × (out : List ℕ) × (words ≡ codes "resume" ∷ file ∷ out ∷ [])
IsForm words (Recover workers) =
    (1 ≤ workers) × (workers ≤ 64)
    × ((file : List ℕ) × (words ≡ codes "recover" ∷ file ∷ decimal workers ∷ []))
IsForm words Check = (file : List ℕ) × (words ≡ codes "check" ∷ file ∷ [])
IsForm words Replay = words ≡ codes "replay" ∷ []
IsForm words (Big number) =
    (number < 2 ^ 64) × (words ≡ codes "big" ∷ decimal number ∷ [])
IsForm words (Bank number) =
    (number < 2 ^ 64) × (words ≡ codes "bank" ∷ decimal number ∷ [])

-- the words are of a form
abbrev pub HaveForm : List (List ℕ) → Type 0
HaveForm words = (form : Form) × IsForm words form

-- words are of one form at most
abbrev pub FormsAreOne : Type 0
FormsAreOne = (words : List (List ℕ)) (a b : Form) → IsForm words a → IsForm words b → a ≡ b

-- ---- which devices a form uses
-- how many bytes are read of the job's source at most, where it is asked
abbrev pub job_bytes : Form → Option ℕ
job_bytes Run = Some READ_BYTES
job_bytes Crash = Some READ_BYTES
job_bytes Resume = Some READ_BYTES
job_bytes ResumeTo = Some READ_BYTES
job_bytes (Recover workers) = None
job_bytes Check = Some (REPORT_BYTES + 1)
job_bytes Replay = Some SCHEDULE_BYTES
job_bytes (Big number) = None
job_bytes (Bank number) = None

-- and of the image's
abbrev pub image_bytes : Form → Option ℕ
image_bytes Run = None
image_bytes Crash = None
image_bytes Resume = Some (IMAGE_BYTES + 1)
image_bytes ResumeTo = Some (IMAGE_BYTES + 1)
image_bytes (Recover workers) = Some (IMAGE_BYTES + 1)
image_bytes Check = Some (IMAGE_BYTES + 1)
image_bytes Replay = None
image_bytes (Big number) = None
image_bytes (Bank number) = None

abbrev pub AsksJob : Form → Type 0
AsksJob Run = Unit {0}
AsksJob Crash = Unit {0}
AsksJob Resume = Unit {0}
AsksJob ResumeTo = Unit {0}
AsksJob (Recover workers) = ⊥
AsksJob Check = Unit {0}
AsksJob Replay = Unit {0}
AsksJob (Big number) = ⊥
AsksJob (Bank number) = ⊥

abbrev pub AsksImage : Form → Type 0
AsksImage Run = ⊥
AsksImage Crash = ⊥
AsksImage Resume = Unit {0}
AsksImage ResumeTo = Unit {0}
AsksImage (Recover workers) = Unit {0}
AsksImage Check = Unit {0}
AsksImage Replay = ⊥
AsksImage (Big number) = ⊥
AsksImage (Bank number) = ⊥

-- whether an image is written
abbrev pub KeepsImage : Form → Type 0
KeepsImage Run = ⊥
KeepsImage Crash = Unit {0}
KeepsImage Resume = ⊥
KeepsImage ResumeTo = Unit {0}
KeepsImage (Recover workers) = ⊥
KeepsImage Check = ⊥
KeepsImage Replay = ⊥
KeepsImage (Big number) = ⊥
KeepsImage (Bank number) = ⊥

-- words of such a form
abbrev pub AskFor : (Form → Type 0) → List (List ℕ) → Type 0
AskFor P words = (form : Form) × IsForm words form × P form

-- ---- which words name files
abbrev pub no_files : FileWords
no_files = record { image = None; image_out = None }

abbrev pub files_in : Form → FileWords
files_in Run = no_files
files_in Crash = record { image = None; image_out = Some 1 }
files_in Resume = record { image = Some 1; image_out = None }
files_in ResumeTo = record { image = Some 1; image_out = Some 2 }
files_in (Recover workers) = record { image = Some 1; image_out = None }
files_in Check = record { image = Some 1; image_out = None }
files_in Replay = no_files
files_in (Big number) = no_files
files_in (Bank number) = no_files

-- ---- the program is asked of itself
abbrev pub AreHelp : List (List ℕ) → Type 0
AreHelp words = words ≡ codes "--help" ∷ []

abbrev pub AreVersion : List (List ℕ) → Type 0
AreVersion words = words ≡ codes "--version" ∷ []
