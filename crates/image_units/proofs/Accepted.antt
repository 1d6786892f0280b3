-- Which images are accepted, and that refused ones aren't.
use Rattle.std.proofs.Common.{◌≡◌, ℕ, zero, suc, ◌%◌, ◌<◌, ◌≤◌, Bool, true, false, List, [], ◌∷◌, length, map, refl, sym, ap, ◌∙◌, subst, arith}
use Rattle.std.specs.Prelude.{◌≢◌, Option, Some, None, Result, Ok, Err, ◌==◌, ◌/◌, ◌&&◌, nat_le, not, if◌then◌else◌, slice_get, slice_index}
use Rattle.std.proofs.lemmas.Bool.{eqb-true, not-false}
use Rattle.std.proofs.lemmas.List.{length-map}
use Rattle.std.proofs.lemmas.Option.{same_Some}
use Rattle.mont_base.specs.declared.constants.TheConstants.{LAST}
use Rattle.mont_base.specs.declared.record.Held.{Held}
use Rattle.mont_base.specs.declared.record.Kind.{Kind}
use Rattle.mont_base.specs.declared.record.Label.{Label}
use Rattle.mont_base.specs.declared.record.Object.{Object}
use Rattle.mont_base.specs.declared.record.ObjectFault.{ObjectFault}
use Rattle.mont_base.specs.declared.record.SlotFault.{SlotFault}
use Rattle.mont_base.specs.declared.record.SlotFault.TheVariants as faults
use Rattle.mont_base.specs.Image.{IsRead, IsWellFormed, is_in_cut, record_at, record_read, records_of, words_at}
use Rattle.mont_base.specs.Layout.{IsLayout, Shape, unit_of_slot, units_of}
use Rattle.mont_base.specs.Record.{body_at, is_version_of, kind_of_number, label_at, reading, reading_of_kind}
use Rattle.mont_base.specs.State.{State}
use Rattle.mont_base.specs.Structure.{IsStructure}
use Rattle.mont_base.specs.Versions.{live_objects}
use Rattle.mont_image.specs.StoredImage.{IsImage}
use Rattle.mont_laws.proofs.UnitRecords.{slot_of_record}
use Rattle.mont_laws.proofs.UnitSlots.{slots_have_units}
use Rattle.plain.specs.declared.structure.BuildRefusal.{BuildRefusal}
use Rattle.plain.specs.declared.structure.BuildRefusal.TheVariants as built
use Rattle.plain.specs.declared.unit_state.UnitState.{UnitState}
use Rattle.plain.specs.Built.{IsFirstFault, MakesStructure}
use Rattle.plain.specs.States.{state_of}
use Rattle.plain.proofs.Single.{no_structure}
use Rattle.scan.specs.Scanned.{IsReadable}
use Rattle.image_units.specs.declared.recovery_refusal.RecoverRefusal.{RecoverRefusal}
use Rattle.image_units.specs.declared.recovery_refusal.RecoverRefusal.TheVariants as refusals
use Rattle.image_units.specs.FirstRefusal.{IsFirstRefusal}
use Rattle.image_units.specs.Found.{all_records}
use Rattle.image_units.specs.Refusals.{of_build}
use Rattle.image_units.specs.FoundVersions.{HasNoRepeat}
use Rattle.image_units.proofs.UnitVersions.{repeats_refuse, units_apart}

-- ---- the label that a slot is read as names the slot's unit
first_passed : (a b c : Bool) (x y z : SlotFault) (v w : Label × List ℕ)
    → (if a then Err x else (if b then Err y else (if c then Err z else Ok (Some v)))) ≡ Ok (Some w) → (a ≡ false) × (v ≡ w)
first_passed true b c x y z v w e = absurd (cc)
first_passed false true c x y z v w e = absurd (cc)
first_passed false false true x y z v w e = absurd (cc)
first_passed false false false x y z v w e = let same : v ≡ w = cc in (refl, same)

unit_of_kind : (kind : Option Kind) (unit : ℕ) (words : List ℕ) (v : Label × List ℕ) → reading_of_kind kind unit words ≡ Ok (Some v)
    → v.0.unit ≡ unit
unit_of_kind None unit words v e = absurd (cc)
unit_of_kind (Some kind) unit words v e =
    let passed = first_passed (not (slice_index words 1 % 256 == unit))
    (not (nat_le 1 (slice_index words 2) && nat_le (slice_index words 2) LAST)) (not (is_version_of kind (slice_index words 3)))
    (faults.Unit (slice_index words 1)) (faults.Identity (slice_index words 2)) (faults.Version (slice_index words 3))
    (label_at kind words, body_at words) v e in
    ap (λ (p : Label × List ℕ). p.0.unit) (sym passed.1)
    ∙ eqb-true (slice_index words 1 % 256) unit (not-false (slice_index words 1 % 256 == unit) passed.0)

unit_of_reading : (unit : ℕ) (words : List ℕ) (v : Label × List ℕ) → reading unit words ≡ Ok (Some v) → v.0.unit ≡ unit
unit_of_reading unit words v e = go (slice_index words 0 == 0) e
  where
    go : (b : Bool) → (if b then Ok None else reading_of_kind (kind_of_number (slice_index words 1 / 256)) unit words) ≡ Ok (Some v)
        → v.0.unit ≡ unit
    go true e = absurd (cc)
    go false e = unit_of_kind (kind_of_number (slice_index words 1 / 256)) unit words v e

unit_of_read : (slot unit : ℕ) (o : Result (Option (Label × List ℕ)) SlotFault) (r : Held)
    → ((v : Label × List ℕ) → o ≡ Ok (Some v) → v.0.unit ≡ unit) → record_read slot o ≡ Some r → r.label.unit ≡ unit
unit_of_read slot unit (Err x) r h e = absurd (cc)
unit_of_read slot unit (Ok None) r h e = absurd (cc)
unit_of_read slot unit (Ok (Some v)) r h e =
    ap (λ (q : Held). q.label.unit) (sym (same_Some (record { slot = slot; label = v.0; body = v.1 }) r e)) ∙ h v refl

pub unit_of_record : (s : Shape) (image : List ℕ) (slot : ℕ) (r : Held) → record_at s image slot ≡ Some r
    → r.label.unit ≡ unit_of_slot s slot
unit_of_record s image slot r e = go (is_in_cut image slot) e
  where
    go : (b : Bool) → (if b then record_read slot (reading (unit_of_slot s slot) (words_at image slot)) else None) ≡ Some r
        → r.label.unit ≡ unit_of_slot s slot
    go true e = unit_of_read slot (unit_of_slot s slot) (reading (unit_of_slot s slot) (words_at image slot)) r
        (unit_of_reading (unit_of_slot s slot) (words_at image slot)) e
    go false e = absurd (cc)

-- ---- what recovery accepts
some_at : {A : Type 0} (xs : List A) (k : ℕ) → k < length xs → (x : A) × (slice_get xs k ≡ Some x)
some_at [] k lt = absurd (omega arith)
some_at (x ∷ xs) zero lt = (x, refl)
some_at (x ∷ xs) (suc k) lt = some_at xs k (omega arith)

module _ (s : Shape) (image : List ℕ) where
  abbrev Made : List UnitState → Type 0
  Made states = (unit : ℕ) (state : State) → slice_get (map state_of states) unit ≡ Some state
      → IsStructure s unit (live_objects (records_of s image unit)) state

  -- each unit of which a structure was made
  pub made_below : (states : List UnitState) (n : ℕ) → length states ≡ n → Made states
      → (unit : ℕ) → unit < n → MakesStructure s unit (live_objects (records_of s image unit))
  made_below states n long made unit within =
      let at = some_at (map state_of states) unit (omega (arith, length-map states state_of)) in (at.0, made unit at.0 at.1)

  pub refused_unit : (unit : ℕ) (refusal : BuildRefusal) (os : List Object) → os ≡ live_objects (records_of s image unit)
      → IsReadable s image → HasNoRepeat (all_records s image) → unit < units_of s
      → ((k : ℕ) → k < unit → MakesStructure s k (live_objects (records_of s image k)))
      → ((slot : ℕ) (fault : ObjectFault) → refusal ≡ built.Object slot fault → IsFirstFault s unit os slot fault)
      → IsFirstRefusal s image (of_build unit refusal)
  refused_unit unit (built.Object slot fault) os are readable apart inside lower first = record {
    readable = readable;
    apart = apart;
    inside = inside;
    lower = lower;
    first = subst (λ (xs : List Object). IsFirstFault s unit xs slot fault) are (first slot fault refl);
  }
  refused_unit unit built.Memory os are readable apart inside lower first = tt

  pub accepted : IsLayout s → IsImage s image false → IsReadable s image → HasNoRepeat (all_records s image)
      → ((unit : ℕ) → unit < units_of s → MakesStructure s unit (live_objects (records_of s image unit))) → IsWellFormed s image
  accepted layout is readable apart defined =
      let some : 1 ≤ s.slots = omega (arith, layout.some_slots) in
      record {
        layout = layout;
        size = is.size;
        clock_begun = is.clock_begun;
        clock_last = is.clock_last;
        readable = λ unit slot inside there kept.
            let within = (slots_have_units s slot some).1 (subst (λ (u : ℕ). u < units_of s) (sym there) inside) in
            subst (λ (u : ℕ). IsRead (reading u (words_at image slot))) there (readable slot within kept);
        apart = units_apart s (record_at s image) (slot_of_record s image) (unit_of_record s image) some apart;
        defined = defined;
      }

  pub malformed : (refusal : RecoverRefusal) → refusal ≢ refusals.Memory → IsFirstRefusal s image refusal → IsWellFormed s image → ⊥
  malformed (refusals.Slot slot fault) some first h =
      let least : 1 ≤ s.slots = omega (arith, h.layout.some_slots) in
      let inside = (slots_have_units s slot least).0 first.inside in
      subst IsRead first.has.1 (h.readable (unit_of_slot s slot) slot inside refl first.has.0)
  malformed (refusals.Twice slot other) some first h =
      let least : 1 ≤ s.slots = omega (arith, h.layout.some_slots) in
      repeats_refuse s (record_at s image) (slot_of_record s image) (unit_of_record s image) least slot other first.first.repeats h.apart
  malformed (refusals.Object unit slot fault) some first h =
      no_structure s unit (live_objects (records_of s image unit)) slot fault first.first (h.defined unit first.inside)
  malformed refusals.Memory some first h = some refl
