-- What a process comes to that shows an image.
use Rattle.std.specs.Prelude.{◌≡◌, ℕ, ◌+◌, List, Some, Result, Ok, Err}
use Rattle.std.specs.Io.KnownBytes.{Appends, IsAtEnd}
use Rattle.image_units.specs.declared.image_fault.ImageFault.{ImageFault}
use Rattle.image_units.specs.Refusals.{fault_of_bytes}
use Rattle.mont_base.specs.declared.sink.Sink as sink_trait
use Rattle.mont_base.specs.declared.source.Source as source_trait
use Rattle.mont_base.specs.Delivery.{AppendsFront}
use Rattle.mont_base.specs.Faults.{Rose}
use Rattle.mont_base.specs.Losses.{LosesAtMost}
use Rattle.mont_image.specs.declared.image_refusal.ImageRefusal.{ImageRefusal}
use Rattle.mont_image.specs.declared.image_text.TheConstants.{IMAGE_BYTES}
use Rattle.mont_image.specs.ImageText.{image_in}
use Rattle.source_bytes.specs.BytesTaken.{TakesBytes}
use Rattle.image_info.specs.declared.info.ImageInfo.{ImageInfo}
use Rattle.image_info.specs.declared.trouble.Trouble.{Trouble}
use Rattle.image_info.specs.declared.trouble.Trouble.TheVariants.{Read, Write, NoImage, Memory}
use Rattle.image_info.specs.Info.{IsInfoOf, TellsAccepted}
use Rattle.image_info.specs.ToldLines.{told_text}
use Rattle.image_info.specs.Trouble.{exit_code_of}

-- ---- what is told
-- a text tells of the image that these bytes are a text of
pub record IsTold (bytes text : List ℕ) : Type 0 where
  pub info : ImageInfo
  pub holds : IsInfoOf bytes info
  pub accepted : TellsAccepted info
  pub lines : text ≡ told_text info

-- the bytes are a text of no image, and this is their first fault
pub record AreNoImage (bytes : List ℕ) (fault : ImageFault) : Type 0 where
  pub refusal : ImageRefusal
  pub refused : image_in bytes ≡ Err refusal
  pub first : fault_of_bytes refusal ≡ Some fault

-- what is told of bytes, or why nothing is: nothing fails that stands in memory
abbrev pub AreRefused : List ℕ → Trouble → Type 0
AreRefused bytes (NoImage fault) = AreNoImage bytes fault
AreRefused bytes Memory = Unit {0}
AreRefused bytes Read = ⊥
AreRefused bytes Write = ⊥

-- ---- what is read
-- these bytes were read without a fault, to the end or one more than an image has
pub record IsRead {S : Type 0} (source : source_trait.Ghosts S) (image read : S)
    (bytes : List ℕ) : Type 0 where
  pub taken : TakesBytes (IMAGE_BYTES + 1) (source.left image) (source.left read) bytes
  pub sound : source.faults read ≡ source.faults image

-- some were
abbrev pub IsBegun : {S : Type 0} → source_trait.Ghosts S → S → S → Type 0
IsBegun source image read =
    LosesAtMost (IMAGE_BYTES + 1) (source.left image) (source.left read)

-- ---- what is written
-- all of a text, without a fault
pub record IsWritten {O : Type 0} (sink : sink_trait.Ghosts O) (out told : O)
    (text : List ℕ) : Type 0 where
  pub all : Appends (sink.taken out) (sink.taken told) text
  pub sound : sink.faults told ≡ sink.faults out

-- a front of it, and then the sink failed
pub record IsCutOff {O : Type 0} (sink : sink_trait.Ghosts O) (out told : O)
    (text : List ℕ) : Type 0 where
  pub front : AppendsFront (sink.taken out) (sink.taken told) text
  pub failed : Rose (sink.faults out) (sink.faults told)

-- ---- what comes of it
-- the text of an image was read to its end, and so much of what tells of it was written
pub record Shows {S : Type 0} (source : source_trait.Ghosts S) (image read : S)
    (Sent : List ℕ → Type 0) : Type 0 where
  pub bytes : List ℕ
  pub text : List ℕ
  pub read_whole : IsRead source image read bytes
  pub whole : IsAtEnd (source.left read)
  pub told : IsTold bytes text
  pub sent : Sent text

-- what was read is the text of no image
pub record Refuses {S : Type 0} (source : source_trait.Ghosts S) (image read : S)
    (fault : ImageFault) : Type 0 where
  pub bytes : List ℕ
  pub read_whole : IsRead source image read bytes
  pub first : AreNoImage bytes fault

-- by the source and the sink before and after
abbrev pub CameOf : {S O : Type 0} → source_trait.Ghosts S → sink_trait.Ghosts O → S → S → O → O
    → Result (Unit {0}) Trouble → Type 0
CameOf source sink image read out told (Ok shown) =
    Shows source image read (IsWritten sink out told)
CameOf source sink image read out told (Err Write) =
    Shows source image read (IsCutOff sink out told)
CameOf source sink image read out told (Err (NoImage fault)) =
    Refuses source image read fault × (told ≡ out)
CameOf source sink image read out told (Err Read) =
    IsBegun source image read × Rose (source.faults image) (source.faults read) × (told ≡ out)
CameOf source sink image read out told (Err Memory) =
    IsBegun source image read × (source.faults read ≡ source.faults image) × (told ≡ out)

-- the process ends by the exit code of what came of its devices
pub record Ends (Came : Result (Unit {0}) Trouble → Type 0) (exit : ℕ) : Type 0 where
  pub shown : Result (Unit {0}) Trouble
  pub came : Came shown
  pub code : exit ≡ exit_code_of shown
