-- Where no fault is told, and only there, the image is one that recovery accepts.
use Rattle.std.proofs.Common.{◌≡◌, ℕ, zero, suc, ◌<◌, ◌≤◌, Bool, true, false, List, [], ◌∷◌, ◌++◌, length, refl, sym, ap, ◌∙◌, arith}
use Rattle.std.specs.Prelude.{◌↔◌, Option, Some, None, Result, Ok, Err, AllPairs, slice_get, if◌then◌else◌}
use Rattle.std.specs.List.{range_with_len}
use Rattle.mont_base.specs.declared.kinds.UnitKind.{UnitKind}
use Rattle.mont_base.specs.declared.record.Label.{Label}
use Rattle.mont_base.specs.declared.record.Object.{Object}
use Rattle.mont_base.specs.declared.record.SlotFault.{SlotFault}
use Rattle.mont_base.specs.Image.{IsRead, is_in_cut, record_at, records_of, words_at}
use Rattle.mont_base.specs.Layout.{IsLayout, Shape, kind_of, total_of, unit_of_slot, units_of}
use Rattle.mont_base.specs.Record.{reading}
use Rattle.mont_base.specs.Structure.{structure_of}
use Rattle.mont_base.specs.Versions.{live_objects}
use Rattle.mont_image.specs.StoredImage.{IsImage}
use Rattle.mont_laws.specs.UnitRecords.{HasLowerSlot}
use Rattle.mont_laws.proofs.Mapped.{in_range, range_bounds}
use Rattle.mont_laws.proofs.UnitRecords.{slot_of_record}
use Rattle.mont_laws.proofs.UnitSlots.{slots_have_units}
use Rattle.plain.specs.Built.{MakesStructure}
use Rattle.scan.specs.Scanned.{IsReadAt, IsReadable, all_slots}
use Rattle.image_units.specs.declared.image_fault.ImageFault.{ImageFault}
use Rattle.image_units.specs.declared.image_fault.ImageFault.TheVariants as faults
use Rattle.image_units.specs.Found.{all_records}
use Rattle.image_units.specs.FoundVersions.{HasNoRepeat}
use Rattle.image_units.proofs.Accepted.{accepted, unit_of_record}
use Rattle.image_units.proofs.UnitParts.{records_rise}
use Rattle.image_units.proofs.UnitVersions.{repeats_refuse}
use Rattle.old_image.specs.OldStructure.{MakesOldStructure, old_structure_of}
use Rattle.image_info.specs.AllFaults.{all_faults, faults_if_kind, repeats, slot_fault_at, slot_faults, unit_faults, unit_faults_below}
use Rattle.image_info.specs.Info.{IsAccepted}
use Rattle.image_info.specs.UnitCounts.{fault_at, fault_in}
use Rattle.image_info.specs.WideWords.{wide_words}
use Rattle.image_info.proofs.NoFaults.{all_empty, all_none, append_none, empty_of, kind_fault, kind_sound, kind_told, map_none, no_repeat, none_of, none_repeats}

abbrev Reading : Type 0
Reading = Result (Option (Label × List ℕ)) SlotFault

-- ---- slots
read_without : (o : Reading) → fault_in o ≡ None → IsRead o
read_without (Ok r) e = tt
read_without (Err fault) e = cc

without_read : (o : Reading) → IsRead o → fault_in o ≡ None
without_read (Ok r) h = refl
without_read (Err fault) h = absurd h

module _ (s : Shape) (image : List ℕ) where
  read_at : (slot : ℕ) → fault_at s image slot ≡ None → IsReadAt s image slot
  read_at slot e kept =
      let o : Reading = reading (unit_of_slot s slot) (words_at image slot) in
      read_without o (ap (λ (b : Bool). if b then fault_in o else None) (sym kept) ∙ e)

  none_at : (slot : ℕ) → IsReadAt s image slot → fault_at s image slot ≡ None
  none_at slot h = by (is_in_cut image slot) refl
    where
      by : (b : Bool) → is_in_cut image slot ≡ b
          → (if b then fault_in (reading (unit_of_slot s slot) (words_at image slot)) else None) ≡ None
      by true is = without_read (reading (unit_of_slot s slot) (words_at image slot)) (h is)
      by false is = refl

  readable : slot_faults s image ≡ [] → IsReadable s image
  readable e slot inside =
      read_at slot (map_none (λ (fault : SlotFault). faults.Slot slot fault) (fault_at s image slot)
      (none_of (slot_fault_at s image) (all_slots s) e slot (in_range slot 0 (total_of s) (omega arith) (omega arith))))

  none_readable : IsReadable s image → slot_faults s image ≡ []
  none_readable h = all_none (slot_fault_at s image) (all_slots s) (λ slot j.
      let bounds = range_bounds slot 0 (total_of s) j in
      let high = bounds.1 in
      ap (λ (o : Option SlotFault). told slot o) (none_at slot (h slot (omega (arith, high)))))
    where
      told : ℕ → Option SlotFault → Option ImageFault
      told slot None = None
      told slot (Some fault) = Some (faults.Slot slot fault)

-- ---- units
some_kind : (ks : List UnitKind) (k : ℕ) → k < length ks → (x : UnitKind) × (slice_get ks k ≡ Some x)
some_kind [] k lt = absurd (omega arith)
some_kind (x ∷ xs) zero lt = (x, refl)
some_kind (x ∷ xs) (suc k) lt = some_kind xs k (omega arith)

abbrev Makes : Bool → Shape → ℕ → List Object → Type 0
Makes true s unit os = MakesOldStructure s unit os
Makes false s unit os = MakesStructure s unit os

module _ (s : Shape) (image : List ℕ) where
  abbrev objects : ℕ → List Object
  objects unit = live_objects (records_of s image unit)

  makes : (old : Bool) (unit : ℕ) → unit < units_of s → unit_faults old s image unit ≡ [] → Makes old s unit (objects unit)
  makes old unit inside e =
      let kind = some_kind s.kinds unit inside in
      let none = kind_sound s unit (objects unit) old kind.0
      (ap (λ (k : Option UnitKind). faults_if_kind old s unit k (objects unit)) (sym kind.1) ∙ e) in
      by old kind.0 kind.1 none
    where
      by : (o : Bool) (kind : UnitKind) → kind_of s unit ≡ Some kind → kind_fault o s unit kind (objects unit) ≡ None
          → Makes o s unit (objects unit)
      by true kind is none =
          (old_structure_of kind (objects unit), record { kind = kind; of_unit = is; sound = none; made = refl })
      by false kind is none = (structure_of kind (objects unit), record { kind = kind; of_unit = is; sound = none; made = refl })

  none_makes : (old : Bool) (unit : ℕ) → Makes old s unit (objects unit) → unit_faults old s image unit ≡ []
  none_makes true unit h =
      ap (λ (k : Option UnitKind). faults_if_kind true s unit k (objects unit)) h.1.of_unit
      ∙ kind_told s unit (objects unit) true h.1.kind h.1.sound
  none_makes false unit h =
      ap (λ (k : Option UnitKind). faults_if_kind false s unit k (objects unit)) h.1.of_unit
      ∙ kind_told s unit (objects unit) false h.1.kind h.1.sound

-- ---- whole images
pub record HasNone (old : Bool) (s : Shape) (image : List ℕ) : Type 0 where
  pub readable : IsReadable s image
  pub apart : HasNoRepeat (all_records s image)
  pub defined : (unit : ℕ) → unit < units_of s → Makes old s unit (live_objects (records_of s image unit))

module _ (old : Bool) (s : Shape) (image : List ℕ) where
  rises : AllPairs HasLowerSlot (all_records s image)
  rises = records_rise s image (all_records s image) refl

  has_none : all_faults old s image ≡ [] → HasNone old s image
  has_none e =
      let parts = append_none (slot_faults s image ++ repeats (all_records s image)) (unit_faults_below old s image (units_of s)) e in
      let front = append_none (slot_faults s image) (repeats (all_records s image)) parts.0 in
      record {
        readable = readable s image front.0;
        apart = no_repeat (all_records s image) rises front.1;
        defined = λ unit inside. makes s image old unit inside
            (empty_of (unit_faults old s image) (range_with_len 0 (units_of s)) parts.1 unit
            (in_range unit 0 (units_of s) (omega arith) (omega arith)));
      }

  none_has : HasNone old s image → all_faults old s image ≡ []
  none_has h =
      let units = all_empty (unit_faults old s image) (range_with_len 0 (units_of s)) (λ unit j.
      let bounds = range_bounds unit 0 (units_of s) j in
      let high = bounds.1 in
      none_makes s image old unit (h.defined unit (omega (arith, high)))) in
      λ i. none_readable s image h.readable i ++ none_repeats (all_records s image) rises h.apart i ++ units i

pub told_of_accepted : (old : Bool) (s : Shape) (words : List ℕ) → IsLayout s → IsImage s words old
    → (all_faults old s (wide_words old s words) ≡ []) ↔ IsAccepted old s words
told_of_accepted true s words layout is = (
  λ e. let h = has_none true s (wide_words true s words) e in record { readable = h.readable; apart = h.apart; defined = h.defined },
  λ h. none_has true s (wide_words true s words) (record { readable = h.readable; apart = h.apart; defined = h.defined }),
)
told_of_accepted false s words layout is = (
  λ e. let h = has_none false s words e in accepted s words layout is h.readable h.apart h.defined,
  λ h. none_has false s words (record {
    readable = λ slot inside kept. h.readable (unit_of_slot s slot) slot ((slots_have_units s slot some).0 inside) refl kept;
    apart = λ slot other r. repeats_refuse s (record_at s words) (slot_of_record s words) (unit_of_record s words) some slot other r
        h.apart;
    defined = h.defined;
  }),
)
  where
    some : 1 ≤ s.slots
    some = let least = layout.some_slots in omega (arith, least)
