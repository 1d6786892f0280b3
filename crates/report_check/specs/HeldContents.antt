-- Whether what an image holds, and what a report tells of it, is what the histories lead to.
use Rattle.std.specs.Prelude.{◌≡◌, ℕ, List, slice_get, Some}
use Rattle.mont_base.specs.declared.operation.Entry.{Entry}
use Rattle.mont_base.specs.History.{cut_at, state_after}
use Rattle.mont_base.specs.Image.{cut_of, records_of}
use Rattle.mont_base.specs.State.{State}
use Rattle.mont_base.specs.Structure.{IsStructure}
use Rattle.mont_base.specs.Versions.{live_objects}
use Rattle.image_units.specs.declared.image_fault.ImageFault.{ImageFault}
use Rattle.image_units.specs.declared.recovery_refusal.RecoverRefusal.{RecoverRefusal}
use Rattle.image_units.specs.FirstRefusal.{IsFirstRefusal}
use Rattle.image_units.specs.Refusals.{fault_of_words}
use Rattle.mont_base.specs.Layout.{Shape}
use Rattle.job_text.specs.Faithful.{CutAt}
use Rattle.job_text.specs.Report.{Report}

-- the fault for which recovery refuses the image
abbrev pub IsImageFault : Shape → List ℕ → ImageFault → Type 0
IsImageFault s image fault =
    (refusal : RecoverRefusal) × IsFirstRefusal s image refusal
    × (fault_of_words refusal ≡ Some fault)

-- the live objects of the unit in the image make the state to which its operations lead up to two
-- epochs before the image's clock
abbrev pub StructureAt : Report → List ℕ → ℕ → Type 0
StructureAt r image unit =
    (base : State) (h : List Entry) → slice_get r.base unit ≡ Some base
    → slice_get r.histories unit ≡ Some h
    → IsStructure r.layout unit (live_objects (records_of r.layout image unit))
    (state_after base (cut_at (cut_of image) h))

-- so does the report tell it
abbrev pub ContentsHold : Report → List ℕ → ℕ → Type 0
ContentsHold r image unit = StructureAt r image unit × CutAt r r.base unit
