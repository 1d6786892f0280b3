-- What a form is given: the bytes that its sources had left, and boxes.
use Rattle.std.specs.Prelude.{◌≡◌, ℕ, List, Option, Some, Err, IfSome}
use Rattle.image_units.specs.declared.image_fault.ImageFault.{ImageFault}
use Rattle.image_units.specs.declared.image_fault.ImageFault.TheVariants.{Magic, Version, Layout, Clock, Short, Long, Slot, Twice, Object}
use Rattle.image_units.specs.declared.recovery_refusal.RecoverRefusal.{RecoverRefusal}
use Rattle.image_units.specs.declared.recovery_refusal.RecoverRefusal.TheVariants as held
use Rattle.job_store.specs.ImageNow.{IsRefused}
use Rattle.job_text.specs.declared.job.Job.{Job}
use Rattle.job_text.specs.declared.job.JobFault.{JobFault}
use Rattle.job_text.specs.Grammar.{IsJob}
use Rattle.job_text.specs.JobText.{IsFirstRefused, job_text}
use Rattle.mont_image.specs.declared.image_refusal.ImageRefusal.{ImageRefusal}
use Rattle.mont_image.specs.declared.image_refusal.ImageRefusal.TheVariants as bytes
use Rattle.mont_image.specs.ImageText.{ImageParts, IsTextOf, image_in}
use Rattle.mont_image.specs.StoredImage.{IsImage}
use Rattle.montage_tool.specs.Devices.{Devices}

-- the bytes are told where a source tells them; of each box how many keys it has
pub record Inputs : Type 0 where
  pub job : Option (List ℕ)
  pub image : Option (List ℕ)
  pub boxes : List ℕ

abbrev pub inputs : Devices → List ℕ → Inputs
inputs old boxes = record { job = old.job.left; image = old.image.left; boxes = boxes }

-- ---- a job
-- a job that a source had left: where the source tells its bytes, they are the job's text
pub record IsJobOf (left : Option (List ℕ)) (job : Job) : Type 0 where
  pub is_job : IsJob job
  pub spelled : IfSome left (λ text. text ≡ job_text job)

-- it tells the job's text
pub record TellsJob (left : Option (List ℕ)) (job : Job) : Type 0 where
  pub is_job : IsJob job
  pub told : left ≡ Some (job_text job)

-- its bytes are no job's text, which is refused at this line
abbrev pub HasBadLine : Option (List ℕ) → ℕ → JobFault → Type 0
HasBadLine left line fault = IfSome left (λ text. IsFirstRefused text line fault)

-- ---- an image
-- an image that a source had left: where the source tells its bytes, they are a text of it
pub record IsImageOf (left : Option (List ℕ)) (parts : ImageParts) : Type 0 where
  pub is_image : IsImage parts.layout parts.words parts.old
  pub spelled : IfSome left (λ text. IsTextOf text parts)

-- it tells a text of the image
pub record TellsImage (left : Option (List ℕ)) (parts : ImageParts) : Type 0 where
  pub text : List ℕ
  pub told : left ≡ Some text
  pub spelled : IsTextOf text parts

-- its bytes are the text of no image
abbrev pub HasBadBytes : Option (List ℕ) → ImageRefusal → Type 0
HasBadBytes left refusal = IfSome left (λ text. image_in text ≡ Err refusal)

-- recovery refuses its image
pub record HoldsFault (left : Option (List ℕ)) (why : RecoverRefusal) : Type 0 where
  pub parts : ImageParts
  pub of_image : IsImageOf left parts
  pub refused : IsRefused parts why

-- the first fault of its bytes, or of what they hold
abbrev pub HasImageFault : Option (List ℕ) → ImageFault → Type 0
HasImageFault left Magic = HasBadBytes left bytes.Magic
HasImageFault left Version = HasBadBytes left bytes.Version
HasImageFault left Layout = HasBadBytes left bytes.Layout
HasImageFault left Clock = HasBadBytes left bytes.Clock
HasImageFault left (Short words) = HasBadBytes left (bytes.Short words)
HasImageFault left Long = HasBadBytes left bytes.Long
HasImageFault left (Slot slot fault) = HoldsFault left (held.Slot slot fault)
HasImageFault left (Twice slot other) = HoldsFault left (held.Twice slot other)
HasImageFault left (Object unit slot fault) = HoldsFault left (held.Object unit slot fault)

-- ---- both
pub record AreOf (i : Inputs) (job : Job) (parts : ImageParts) : Type 0 where
  pub of_job : IsJobOf i.job job
  pub of_image : IsImageOf i.image parts
