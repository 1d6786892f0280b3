-- Every fault of an image, where recovery tells the first.
use Rattle.std.specs.Prelude.{ℕ, Bool, true, false, ◌&&◌, ◌==◌, List, [], ◌∷◌, ◌++◌, if◌then◌else◌, Option, Some, None, option_map}
use Rattle.std.specs.List.{cons_option, filter_map, find, flat_map, range_with_len}
use Rattle.mont_base.specs.declared.kinds.UnitKind.{UnitKind}
use Rattle.mont_base.specs.declared.kinds.UnitKind.TheVariants as kinds
use Rattle.mont_base.specs.declared.record.Held.{Held}
use Rattle.mont_base.specs.declared.record.Object.{Object}
use Rattle.mont_base.specs.declared.record.ObjectFault.{ObjectFault}
use Rattle.mont_base.specs.declared.record.ObjectFault.TheVariants as object_faults
use Rattle.mont_base.specs.declared.record.SlotFault.{SlotFault}
use Rattle.mont_base.specs.Image.{records_of}
use Rattle.mont_base.specs.Layout.{Shape, kind_of, units_of}
use Rattle.mont_base.specs.Structure.{edge_at, lacks_end, map_fault, part_fault, queue_fault}
use Rattle.mont_base.specs.Versions.{live_objects}
use Rattle.scan.specs.Scanned.{all_slots}
use Rattle.image_units.specs.declared.image_fault.ImageFault.{ImageFault}
use Rattle.image_units.specs.declared.image_fault.ImageFault.TheVariants as faults
use Rattle.image_units.specs.Found.{all_records}
use Rattle.image_units.specs.FoundVersions.{version_of}
use Rattle.old_image.specs.OldStructure.{old_map_fault}
use Rattle.image_info.specs.UnitCounts.{fault_at}

-- what is told of each element beside those in front of it, where it is told something
abbrev pub each_behind : {A B : Type 0} → (List A → A → Option B) → List A → List A → List B
each_behind tell lower [] = []
each_behind tell lower (x ∷ xs) =
    cons_option (tell lower x) (each_behind tell (lower ++ x ∷ []) xs)

-- ---- slots within the cut that can't be read
abbrev pub slot_fault_at : Shape → List ℕ → ℕ → Option ImageFault
slot_fault_at s image slot =
    option_map (λ (fault : SlotFault). faults.Slot slot fault) (fault_at s image slot)

abbrev pub slot_faults : Shape → List ℕ → List ImageFault
slot_faults s image = filter_map (slot_fault_at s image) (all_slots s)

-- ---- versions that stand twice
abbrev pub is_version : ℕ × ℕ × ℕ → Held → Bool
is_version v r =
    (r.label.unit == v.0) && (r.label.identity == v.1) && (r.label.version == v.2)

-- the record repeats one in a lower slot: the lowest one with its version
abbrev pub repeat_fault : List Held → Held → Option ImageFault
repeat_fault lower r =
    option_map (λ (q : Held). faults.Twice r.slot q.slot) (find (is_version (version_of r)) lower)

abbrev pub repeats : List Held → List ImageFault
repeats records = each_behind repeat_fault [] records

-- ---- objects that make no structure
abbrev pub object_fault_told : ℕ → Object → ObjectFault → ImageFault
object_fault_told unit o fault = faults.Object unit o.slot fault

abbrev pub judged_fault : ℕ → (List Object → Object → Option ObjectFault) → List Object → Object
    → Option ImageFault
judged_fault unit fault_of lower o = option_map (object_fault_told unit o) (fault_of lower o)

-- the fault of each object, beside those in lower slots
abbrev pub judged : ℕ → (List Object → Object → Option ObjectFault) → List Object
    → List ImageFault
judged unit fault_of os = each_behind (judged_fault unit fault_of) [] os

-- after these, each edge that lacks an end
abbrev pub end_fault_at : ℕ → List Object → Object → Option ImageFault
end_fault_at unit all o =
    if lacks_end all (edge_at o) then Some (faults.Object unit o.slot object_faults.End) else None

abbrev pub end_faults : ℕ → List Object → List ImageFault
end_faults unit all = filter_map (end_fault_at unit all) all

-- keys and values of maps are numbers in images of the first version
abbrev pub map_fault_in : Bool → Shape → ℕ → List Object → Object → Option ObjectFault
map_fault_in true s unit = old_map_fault s unit
map_fault_in false s unit = map_fault s unit

abbrev pub kind_faults : Bool → Shape → ℕ → UnitKind → List Object → List ImageFault
kind_faults old s unit kinds.Map os = judged unit (map_fault_in old s unit) os
kind_faults old s unit kinds.Queue os = judged unit queue_fault os
kind_faults old s unit kinds.Graph os = judged unit part_fault os ++ end_faults unit os
kind_faults old s unit kinds.Ordered os = judged unit (map_fault s unit) os

abbrev pub faults_if_kind : Bool → Shape → ℕ → Option UnitKind → List Object → List ImageFault
faults_if_kind old s unit None os = []
faults_if_kind old s unit (Some kind) os = kind_faults old s unit kind os

-- every fault of the live objects of a unit
abbrev pub unit_faults : Bool → Shape → List ℕ → ℕ → List ImageFault
unit_faults old s image unit =
    faults_if_kind old s unit (kind_of s unit) (live_objects (records_of s image unit))

abbrev pub unit_faults_below : Bool → Shape → List ℕ → ℕ → List ImageFault
unit_faults_below old s image units =
    flat_map (unit_faults old s image) (range_with_len 0 units)

-- ---- all of them, in the order in which recovery tries them
abbrev pub all_faults : Bool → Shape → List ℕ → List ImageFault
all_faults old s image =
    slot_faults s image ++ repeats (all_records s image)
    ++ unit_faults_below old s image (units_of s)
