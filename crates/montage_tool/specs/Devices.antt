-- What is seen of the devices, and what was read of a source and written to a sink.
use Rattle.std.specs.Prelude.{◌≡◌, ◌≢◌, ℕ, List, Option, Some, None, IfSome, Result, Ok, Err}
use Rattle.std.specs.Io.KnownBytes.{Appends, IsAtEnd}
use Rattle.mont_base.specs.declared.sink.Sink as sink_trait
use Rattle.mont_base.specs.declared.source.Source as source_trait
use Rattle.mont_base.specs.Delivery.{AppendsFront}
use Rattle.mont_base.specs.Faults.{Rose}
use Rattle.mont_base.specs.Losses.{LosesAtMost}
use Rattle.montage_tool.specs.declared.status.Status.{Status}
use Rattle.montage_tool.specs.declared.status.Status.TheVariants.{Done, BadJob, ReadFault, WriteFault, BadReport, NotAllowed, BadSchedule}
use Rattle.montage_tool.specs.declared.status.SourceName.{SourceName}
use Rattle.montage_tool.specs.declared.status.SourceName.TheVariants as sources
use Rattle.montage_tool.specs.declared.status.SinkName.TheVariants as sinks

-- ---- devices
-- the bytes that a source still has, where it tells them, and how often it failed
pub record SourceSeen : Type 0 where
  pub left : Option (List ℕ)
  pub faults : ℕ

-- the bytes that a sink took, where it tells them, and how often it failed
pub record SinkSeen : Type 0 where
  pub taken : Option (List ℕ)
  pub faults : ℕ

pub record Devices : Type 0 where
  pub job : SourceSeen
  pub image : SourceSeen
  pub out : SinkSeen
  pub image_out : SinkSeen

abbrev pub source_seen : {S : Type 0} → source_trait.Ghosts S → S → SourceSeen
source_seen of s = record { left = of.left s; faults = of.faults s }

abbrev pub sink_seen : {K : Type 0} → sink_trait.Ghosts K → K → SinkSeen
sink_seen of s = record { taken = of.taken s; faults = of.faults s }

-- ---- by how it ended
-- all was written, or what could be
abbrev pub HasOutput : Status → Type 0
HasOutput Done = Unit {0}
HasOutput (WriteFault which) = Unit {0}
HasOutput _ = ⊥

-- the sink of the image was asked too
abbrev pub ReachesImage : Status → Type 0
ReachesImage Done = Unit {0}
ReachesImage (WriteFault sinks.Image) = Unit {0}
ReachesImage _ = ⊥

-- nothing was made of the first source
abbrev pub StopsAtJob : Status → Type 0
StopsAtJob (BadJob line fault) = Unit {0}
StopsAtJob (BadReport line) = Unit {0}
StopsAtJob (BadSchedule line) = Unit {0}
StopsAtJob (NotAllowed line) = Unit {0}
StopsAtJob (ReadFault sources.Job) = Unit {0}
StopsAtJob _ = ⊥

-- ---- what was read
-- At most so many bytes of a source were read, to its end where there is an output and the source
-- tells its bytes. It failed where that is said, and nowhere else.
pub record IsRead (most : ℕ) (name : SourceName) (old new : SourceSeen) (status : Status)
    : Type 0 where
  pub few : LosesAtMost most old.left new.left
  pub ended : HasOutput status → IfSome old.left (λ _. IsAtEnd new.left)
  pub failed : status ≡ ReadFault name → Rose old.faults new.faults
  pub kept : status ≢ ReadFault name → new.faults ≡ old.faults

-- a source that isn't asked stays as it was
abbrev pub IsUsed : Option ℕ → SourceName → SourceSeen → SourceSeen → Status → Type 0
IsUsed None name old new status = new ≡ old
IsUsed (Some most) name old new status = IsRead most name old new status

-- ---- what was written
-- a sink took all of the bytes
pub record TakesAll (bytes : List ℕ) (old new : SinkSeen) : Type 0 where
  pub taken : Appends old.taken new.taken bytes
  pub kept : new.faults ≡ old.faults

-- a sink took a front of the bytes, and failed
pub record TakesFront (bytes : List ℕ) (old new : SinkSeen) : Type 0 where
  pub front : AppendsFront old.taken new.taken bytes
  pub failed : Rose old.faults new.faults

-- what is to be written: a text, and the text of an image after it if there is one
pub record Output : Type 0 where
  pub text : List ℕ
  pub image : Option (List ℕ)

abbrev pub TakesImage : Option (List ℕ) → SinkSeen → SinkSeen → Type 0
TakesImage None old new = new ≡ old
TakesImage (Some bytes) old new = TakesAll bytes old new

abbrev pub TakesImageFront : Option (List ℕ) → SinkSeen → SinkSeen → Type 0
TakesImageFront None old new = ⊥
TakesImageFront (Some bytes) old new = TakesFront bytes old new

-- What came of writing it, as is seen of both sinks. The image is written after the whole text.
abbrev pub IsWritten : Output → SinkSeen → SinkSeen → SinkSeen → SinkSeen → Status → Type 0
IsWritten o out told image_out kept Done =
    TakesAll o.text out told × TakesImage o.image image_out kept
IsWritten o out told image_out kept (WriteFault sinks.Report) =
    TakesFront o.text out told × (kept ≡ image_out)
IsWritten o out told image_out kept (WriteFault sinks.Image) =
    TakesAll o.text out told × TakesImageFront o.image image_out kept
IsWritten o out told image_out kept _ = ⊥

-- the sink of an image, once that was written to it
abbrev pub IsImageSent : List ℕ → SinkSeen → SinkSeen → Status → Type 0
IsImageSent bytes old new Done = TakesAll bytes old new
IsImageSent bytes old new (WriteFault which) = (which ≡ sinks.Image) × TakesFront bytes old new
IsImageSent bytes old new _ = ⊥

-- nothing was
pub record IsQuiet (old new : Devices) : Type 0 where
  pub out : new.out ≡ old.out
  pub image_out : new.image_out ≡ old.image_out

-- ---- by what came
-- how it ended, where all went well as far as a result tells
abbrev pub ended_as : {A : Type 0} → Result A Status → Status
ended_as (Ok a) = Done
ended_as (Err status) = status
