-- What recovery finds of a unit in an image, for the unit's region to begin with.
use Rattle.std.specs.Prelude.{ℕ, ◌<◌, List}
use Rattle.mont_base.specs.Image.{records_of, IsWellFormed}
use Rattle.mont_base.specs.Layout.{Shape, units_of}
use Rattle.core_steps.specs.Opened.{slots_beyond}
use Rattle.slots.specs.RegionBeginning.{AreFound}

-- The records of a unit within the cut, and its slots that are open beyond it, of an image that
-- recovery accepts, are what its region can begin with.
abbrev pub ImagesAreFound : Type 0
ImagesAreFound =
    (s : Shape) (image : List ℕ) (unit : ℕ) → IsWellFormed s image → unit < units_of s
    → AreFound s unit (records_of s image unit) (slots_beyond s image unit)
