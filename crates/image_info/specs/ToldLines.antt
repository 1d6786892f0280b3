-- The lines that tell of an image, each with its line feed.
use Rattle.std.specs.Prelude.{ℕ, ◌==◌, List, [], ◌∷◌, ◌++◌, Bool, true, false, length, map, codes, decimal, if◌then◌else◌, Option, Some, None}
use Rattle.std.specs.List.{concat, enumerate_from, flat_map, zip}
use Rattle.mont_base.specs.declared.kinds.UnitKind.{UnitKind}
use Rattle.mont_base.specs.declared.kinds.UnitKind.TheVariants as kinds
use Rattle.mont_base.specs.Image.{clock_of, words_at}
use Rattle.mont_base.specs.Layout.{Shape}
use Rattle.mont_image.specs.declared.stored_image.Image.{Image}
use Rattle.image_units.specs.declared.image_fault.ImageFault.{ImageFault}
use Rattle.image_units.specs.declared.image_fault.ImageFault.TheVariants as faults
use Rattle.image_units.specs.FaultWords.{fault_words}
use Rattle.old_image.specs.OldSlots.{old_slot}
use Rattle.image_info.specs.declared.epoch_counts.EpochCount.{EpochCount}
use Rattle.image_info.specs.declared.info.ImageInfo.{ImageInfo}
use Rattle.image_info.specs.declared.unit_counts.UnitCounts.{UnitCounts}

abbrev pub version_line : ℕ → List ℕ
version_line version = concat (codes "version " ∷ decimal version ∷ codes "\n" ∷ [])

-- ---- the units
abbrev pub kind_name : UnitKind → List ℕ
kind_name kinds.Map = codes "map"
kind_name kinds.Queue = codes "queue"
kind_name kinds.Graph = codes "graph"
kind_name kinds.Ordered = codes "ordered"

-- a comma stands before each unit but the first
abbrev pub comma_before : ℕ → List ℕ
comma_before unit = if unit == 0 then [] else codes ", "

-- a unit, its kind and the number of its slots
abbrev pub unit_words : ℕ → ℕ × UnitKind → List ℕ
unit_words slots e = concat
    (comma_before e.0 ∷ decimal e.0 ∷ codes " " ∷ kind_name e.1 ∷ codes " " ∷ decimal slots ∷ [])

abbrev pub layout_line : Shape → List ℕ
layout_line s = concat
    (codes "layout " ∷ flat_map (unit_words s.slots) (enumerate_from 0 s.kinds)
    ∷ codes "\n" ∷ [])

-- the clock, and the last epoch that recovery keeps
abbrev pub clock_line : ℕ → ℕ → List ℕ
clock_line clock cut = concat
    (codes "clock " ∷ decimal clock ∷ codes ", cut at " ∷ decimal cut ∷ codes "\n" ∷ [])

-- what the slots of a unit hold, each number before its word
abbrev pub first_counts : ℕ → UnitKind → UnitCounts → List ℕ
first_counts unit kind c = concat
    (codes "unit " ∷ decimal unit ∷ codes " " ∷ kind_name kind
    ∷ codes ": " ∷ decimal c.free ∷ codes " free, " ∷ decimal c.live
    ∷ codes " live, " ∷ decimal c.superseded ∷ codes " superseded" ∷ [])

abbrev pub other_counts : UnitCounts → List ℕ
other_counts c = concat
    (codes ", " ∷ decimal c.anti_payloads ∷ codes " anti-payloads, " ∷ decimal c.beyond
    ∷ codes " beyond the cut, " ∷ decimal c.faulty ∷ codes " faulty\n" ∷ [])

abbrev pub unit_line : ℕ → UnitKind → UnitCounts → List ℕ
unit_line unit kind c = first_counts unit kind c ++ other_counts c

abbrev pub unit_lines : List UnitKind → List UnitCounts → List (List ℕ)
unit_lines ks counts = map (λ e. unit_line e.0 e.1.0 e.1.1) (enumerate_from 0 (zip ks counts))

-- ---- the epochs
abbrev pub epoch_line : EpochCount → List ℕ
epoch_line c = concat
    (codes "epoch " ∷ decimal c.epoch ∷ codes ": " ∷ decimal c.records
    ∷ codes " records\n" ∷ [])

-- ---- the faults
abbrev pub number_line : ℕ → List ℕ
number_line number = concat (codes "faults " ∷ decimal number ∷ codes "\n" ∷ [])

-- the slot that has a fault, of two that are alike the one that repeats the other
abbrev pub slot_of : ImageFault → Option ℕ
slot_of (faults.Slot slot fault) = Some slot
slot_of (faults.Twice slot other) = Some slot
slot_of (faults.Object unit slot fault) = Some slot
slot_of _ = None

-- the words of a slot, as many as slots have in the image's version
abbrev pub slot_words : Bool → List ℕ → ℕ → List ℕ
slot_words true words slot = old_slot words slot
slot_words false words slot = words_at words slot

abbrev pub words_told : List ℕ → List ℕ
words_told words = codes ":" ++ flat_map (λ w. codes " " ++ decimal w) words

-- these after a colon, if a slot has the fault
abbrev pub slot_told : Image → Option ℕ → List ℕ
slot_told image None = []
slot_told image (Some slot) = words_told (slot_words image.old image.words slot)

-- the words by which recovery refuses, then those of the slot
abbrev pub fault_line : Image → ImageFault → List ℕ
fault_line image fault = concat
    (codes "fault " ∷ fault_words fault ∷ slot_told image (slot_of fault) ∷ codes "\n" ∷ [])

-- their number, and each of them
abbrev pub fault_lines : Image → List ImageFault → List (List ℕ)
fault_lines image found = number_line (length found) ∷ map (fault_line image) found

-- ---- all of them
abbrev pub told_lines : ImageInfo → List (List ℕ)
told_lines info =
    version_line info.version ∷ layout_line info.image.layout
    ∷ clock_line (clock_of info.image.words) info.cut
    ∷ (unit_lines info.image.layout.kinds info.units.items
    ++ map epoch_line info.epochs.items
    ++ fault_lines info.image info.faults.items)

abbrev pub told_text : ImageInfo → List ℕ
told_text info = concat (told_lines info)
