-- What recovery finds in an image, as a case tells it.
use Rattle.std.specs.Prelude.{◌≡◌, ℕ, List, length, Some}
use Rattle.mont_base.specs.Image.{IsRecovered, IsWellFormed, clock_of}
use Rattle.mont_base.specs.Layout.{Shape}
use Rattle.mont_base.specs.State.{State}
use Rattle.scan.specs.Scanned.{all_slots, lost_among}
use Rattle.image_units.specs.declared.image_fault.ImageFault.{ImageFault}
use Rattle.image_units.specs.declared.recovery_refusal.RecoverRefusal.{RecoverRefusal}
use Rattle.image_units.specs.FirstRefusal.{IsFirstRefusal}
use Rattle.image_units.specs.Refusals.{fault_of_words}
use Rattle.job_text.specs.ReportText.{contents_text}
use Rattle.recovery_cases.specs.declared.found_text.Found.{Found}
use Rattle.recovery_cases.specs.declared.found_text.Found.TheVariants.{Faulty, Accepted}

-- the first fault of what it holds
pub record IsFirstFaultOf (s : Shape) (image : List ℕ) (fault : ImageFault) : Type 0 where
  pub refusal : RecoverRefusal
  pub first : IsFirstRefusal s image refusal
  pub told : fault_of_words refusal ≡ Some fault

-- the text of what recovery rebuilds of it, with its clock
pub record IsTextOfContents (s : Shape) (image text : List ℕ) : Type 0 where
  pub states : List State
  pub recovered : IsRecovered s image states
  pub spelled : text ≡ contents_text s (clock_of image) states

-- recovery accepts it, so many slots are beyond the cut, and this is the text of its contents
pub record IsAcceptedAs (s : Shape) (image : List ℕ) (lost : ℕ) (text : List ℕ) : Type 0 where
  pub accepted : IsWellFormed s image
  pub counted : lost ≡ length (lost_among image (all_slots s))
  pub contents : IsTextOfContents s image text

abbrev pub IsFound : Shape → List ℕ → Found → Type 0
IsFound s image (Faulty fault) = IsFirstFaultOf s image fault
IsFound s image (Accepted lost contents) = IsAcceptedAs s image lost contents.items
