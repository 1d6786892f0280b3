-- What the slots of an image of the first version hold. A slot there has eight words: the four of a
-- label, and a body of four.
use Rattle.std.specs.Prelude.{ℕ, ◌+◌, ◌*◌, ◌-◌, List, ◌∷◌, ◌++◌, take, drop, replicate, Option, Some, None, if◌then◌else◌}
use Rattle.std.specs.List.{flat_map}
use Rattle.mont_base.specs.declared.constants.TheConstants.{FIELDS}
use Rattle.mont_base.specs.declared.record.Held.{Held}
use Rattle.mont_base.specs.declared.record.Object.{Object}
use Rattle.mont_base.specs.Image.{clock_of, record_at, records_of}
use Rattle.mont_base.specs.Layout.{Shape, unit_of_slot}
use Rattle.mont_base.specs.Versions.{is_live, live_objects}
use Rattle.mont_image.specs.declared.image_text.TheConstants.{OLD_FIELDS}
use Rattle.scan.specs.Scanned.{all_slots}

-- the words of a slot
abbrev pub old_slot : List ℕ → ℕ → List ℕ
old_slot image slot = take OLD_FIELDS (drop (1 + OLD_FIELDS * slot) image)

-- The image with four zeros after the words of each slot, which are as many as slots have now.
-- Labels are read of it as of any other image, and so are the records within the cut and the live
-- ones among them. What a body says is another matter.
abbrev pub wide_slot : List ℕ → ℕ → List ℕ
wide_slot image slot = old_slot image slot ++ replicate (FIELDS - OLD_FIELDS) 0

unfoldable pub widened : Shape → List ℕ → List ℕ
widened s image = clock_of image ∷ flat_map (wide_slot image) (all_slots s)

-- ---- of an image that was widened
-- the live objects of a unit, by rising slot
abbrev pub objects_in : Shape → List ℕ → ℕ → List Object
objects_in s wide unit = live_objects (records_of s wide unit)

-- the record of a slot, if it is live
abbrev pub if_live : List Held → Option Held → Option Held
if_live records None = None
if_live records (Some r) = if is_live records r then Some r else None

abbrev pub live_at : Shape → List ℕ → ℕ → Option Held
live_at s wide slot = if_live (records_of s wide (unit_of_slot s slot)) (record_at s wide slot)
