-- How faults of an image are told, in words with one space between two.
use Rattle.std.specs.Prelude.{ℕ, List, ◌++◌, codes, decimal}
use Rattle.mont_base.specs.declared.record.ObjectFault.{ObjectFault}
use Rattle.mont_base.specs.declared.record.ObjectFault.TheVariants as objects
use Rattle.mont_base.specs.declared.record.SlotFault.{SlotFault}
use Rattle.mont_base.specs.declared.record.SlotFault.TheVariants as slots
use Rattle.image_units.specs.declared.image_fault.ImageFault.{ImageFault}
use Rattle.image_units.specs.declared.image_fault.ImageFault.TheVariants as faults
use Rattle.image_units.specs.declared.recovery_refusal.RecoverRefusal.{RecoverRefusal}
use Rattle.image_units.specs.declared.recovery_refusal.RecoverRefusal.TheVariants as refusals

abbrev pub slot_fault_name : SlotFault → List ℕ
slot_fault_name (slots.Kind word) = codes "kind"
slot_fault_name (slots.Unit word) = codes "unit"
slot_fault_name (slots.Identity word) = codes "identity"
slot_fault_name (slots.Version word) = codes "version"

abbrev pub word_at_fault : SlotFault → ℕ
word_at_fault (slots.Kind word) = word
word_at_fault (slots.Unit word) = word
word_at_fault (slots.Identity word) = word
word_at_fault (slots.Version word) = word

abbrev pub object_fault_name : ObjectFault → List ℕ
object_fault_name objects.Spare = codes "spare"
object_fault_name objects.Shard = codes "shard"
object_fault_name objects.Key = codes "key"
object_fault_name objects.Serial = codes "serial"
object_fault_name objects.Tag = codes "tag"
object_fault_name objects.Loop = codes "loop"
object_fault_name objects.Vertex = codes "vertex"
object_fault_name objects.Edge = codes "edge"
object_fault_name objects.End = codes "end"
object_fault_name objects.Text = codes "text"

-- what is wrong with a slot, with two, or with an object
abbrev pub slot_words : ℕ → SlotFault → List ℕ
slot_words slot fault =
    codes "slot " ++ decimal slot ++ codes " " ++ slot_fault_name fault ++ codes " "
    ++ decimal (word_at_fault fault)

abbrev pub twice_words : ℕ → ℕ → List ℕ
twice_words slot other = codes "twice " ++ decimal slot ++ codes " " ++ decimal other

abbrev pub object_words : ℕ → ℕ → ObjectFault → List ℕ
object_words unit slot fault =
    codes "object " ++ decimal unit ++ codes " " ++ decimal slot ++ codes " "
    ++ object_fault_name fault

abbrev pub refusal_words : RecoverRefusal → List ℕ
refusal_words (refusals.Slot slot fault) = slot_words slot fault
refusal_words (refusals.Twice slot other) = twice_words slot other
refusal_words (refusals.Object unit slot fault) = object_words unit slot fault
refusal_words refusals.Memory = codes "out of memory"

abbrev pub fault_words : ImageFault → List ℕ
fault_words faults.Magic = codes "magic"
fault_words faults.Version = codes "version"
fault_words faults.Layout = codes "layout"
fault_words faults.Clock = codes "clock"
fault_words (faults.Short words) = codes "short " ++ decimal words
fault_words faults.Long = codes "long"
fault_words (faults.Slot slot fault) = slot_words slot fault
fault_words (faults.Twice slot other) = twice_words slot other
fault_words (faults.Object unit slot fault) = object_words unit slot fault
