-- Units that are migrated one after the other.
use Rattle.std.proofs.Common.{◌≡◌, ℕ, zero, suc, ◌+◌, ◌*◌, ◌<◌, ◌≤◌, true, false, List, [], ◌∷◌, ◌++◌, map, length, refl, sym, ap, ◌∙◌, subst, arith, append_assoc}
use Rattle.std.specs.Prelude.{◌↔◌, Some, Err, slice_get}
use Rattle.std.specs.List.{flat_map, range_with_len}
use Rattle.std.proofs.lemmas.Grind.{flat_map-append}
use Rattle.mont_base.specs.declared.constants.TheConstants.{FIELDS, FIRST_CLOCK, LAST}
use Rattle.mont_base.specs.declared.kinds.UnitKind.{UnitKind}
use Rattle.mont_base.specs.declared.record.Object.{Object}
use Rattle.mont_base.specs.Image.{IsRead, IsWellFormed, clock_of, record_at, records_of, words_at}
use Rattle.mont_base.specs.Layout.{IsLayout, Shape, kind_of, total_of, unit_of_slot, units_of, words_of}
use Rattle.mont_base.specs.Record.{reading}
use Rattle.mont_base.specs.State.{State}
use Rattle.mont_base.specs.Structure.{IsStructure, object_fault, structure_of}
use Rattle.mont_base.specs.Versions.{live_objects}
use Rattle.mont_laws.proofs.UnitRecords.{slot_of_record}
use Rattle.mont_laws.proofs.UnitSlots.{slots_have_units}
use Rattle.mont_image.specs.StoredImage.{IsImage}
use Rattle.scan.specs.Scanned.{IsReadable, all_slots}
use Rattle.scan.proofs.Ranges.{range_append}
use Rattle.image_units.specs.declared.recovery_refusal.RecoverRefusal.{RecoverRefusal}
use Rattle.image_units.specs.declared.recovery_refusal.RecoverRefusal.TheVariants as refusals
use Rattle.image_units.specs.Found.{all_records}
use Rattle.image_units.specs.FoundVersions.{HasNoRepeat, IsRepeatRefusal}
use Rattle.image_units.proofs.Accepted.{unit_of_record}
use Rattle.image_units.proofs.UnitVersions.{units_apart}
use Rattle.old_image.specs.OldSlots.{objects_in, widened}
use Rattle.old_image.specs.OldStructure.{IsOldStructure, MakesOldStructure, old_object_fault, old_structure_of, renewed_object}
use Rattle.old_image.specs.OldRecords.{IsSlotRefusal}
use Rattle.old_image.specs.Migration.{AreMigrated, IsFirstIn, IsOldWellFormed, IsUnitRefusal, KeepsStructures, RefusedOldImagesAreMalformed, migrated_slot}
use Rattle.old_image.specs.Renewal.{IsOldObjectRefusal, RenewsUnit}
use Rattle.old_image.proofs.FlatSlots.{length-flat, words_at-flat}
use Rattle.old_image.proofs.MigratedRecords.{apart_now, long_now, objects_now, readable_now}
use Rattle.old_image.proofs.Units.{one_kind}
use Rattle.old_image.proofs.Widened.{clock_is, clock_last, size_wide}

-- ---- the slots of one unit more
pub unit_more : (f : ℕ → List ℕ) (front : List ℕ) (unit slots : ℕ)
    → (front ++ flat_map f (range_with_len 0 (unit * slots))) ++ flat_map f (range_with_len (unit * slots) slots)
    ≡ front ++ flat_map f (range_with_len 0 ((unit + 1) * slots))
unit_more f front unit slots =
    let place : unit * slots ≡ 0 + unit * slots = omega arith in
    let more : unit * slots + slots ≡ (unit + 1) * slots = grind arith in
    append_assoc front (flat_map f (range_with_len 0 (unit * slots))) (flat_map f (range_with_len (unit * slots) slots))
    ∙ ap (λ (ws : List ℕ). front ++ ws)
    (sym (flat_map-append f (range_with_len 0 (unit * slots)) (range_with_len (unit * slots) slots))
    ∙ ap (λ (n : ℕ). flat_map f (range_with_len 0 (unit * slots) ++ range_with_len n slots)) place
    ∙ ap (flat_map f) (range_append 0 (unit * slots) slots)
    ∙ ap (λ (n : ℕ). flat_map f (range_with_len 0 n)) more)

-- ---- refusals
pub made_old : (s : Shape) (unit : ℕ) (os : List Object) → RenewsUnit s unit os → MakesOldStructure s unit os
made_old s unit os k = (
  old_structure_of k.kind os,
  record { kind = k.kind; of_unit = k.of_unit; sound = k.sound_old; made = refl },
)

module _ (s : Shape) (wide : List ℕ) where
  pub refused_unit : (unit : ℕ) → unit < units_of s → ((k : ℕ) → k < unit → RenewsUnit s k (objects_in s wide k))
      → (refusal : RecoverRefusal) → IsOldObjectRefusal s unit (objects_in s wide unit) refusal → IsUnitRefusal s wide refusal
  refused_unit unit inside lower (refusals.Slot slot fault) h = h
  refused_unit unit inside lower (refusals.Twice slot other) h = h
  refused_unit unit inside lower (refusals.Object u slot fault) h =
      subst (λ (n : ℕ). IsUnitRefusal s wide (refusals.Object n slot fault)) (sym h.0) (record {
        inside = inside;
        lower = λ k low. made_old s k (objects_in s wide k) (lower k low);
        first = h.1;
      })
  refused_unit unit inside lower refusals.Memory h = tt

  pub slot_refused : (refusal : RecoverRefusal) → IsSlotRefusal s wide refusal → IsFirstIn s wide refusal
  slot_refused (refusals.Slot slot fault) h = h
  slot_refused (refusals.Twice slot other) h = absurd h
  slot_refused (refusals.Object unit slot fault) h = absurd h
  slot_refused refusals.Memory h = tt

  pub repeat_refused : (refusal : RecoverRefusal) → IsReadable s wide → IsRepeatRefusal (all_records s wide) refusal
      → IsFirstIn s wide refusal
  repeat_refused (refusals.Slot slot fault) readable h = absurd h
  repeat_refused (refusals.Twice slot other) readable h = record { readable = readable; first = h }
  repeat_refused (refusals.Object unit slot fault) readable h = absurd h
  repeat_refused refusals.Memory readable h = tt

  pub unit_refused : (refusal : RecoverRefusal) → IsReadable s wide → HasNoRepeat (all_records s wide) → IsUnitRefusal s wide refusal
      → IsFirstIn s wide refusal
  unit_refused (refusals.Slot slot fault) readable apart h = absurd h
  unit_refused (refusals.Twice slot other) readable apart h = absurd h
  unit_refused (refusals.Object unit slot fault) readable apart h = record { readable = readable; apart = apart; lowest = h }
  unit_refused refusals.Memory readable apart h = tt

pub refused_old_images_are_malformed : RefusedOldImagesAreMalformed
refused_old_images_are_malformed s image (refusals.Slot slot fault) other h is =
    absurd (unread (is.readable slot h.inside h.has.0) h.has.1)
  where
    unread : IsRead (reading (unit_of_slot s slot) (words_at (widened s image) slot))
        → reading (unit_of_slot s slot) (words_at (widened s image) slot) ≡ Err fault → ⊥
    unread read e = subst IsRead e read
refused_old_images_are_malformed s image (refusals.Twice slot second) other h is = is.apart slot second h.first.repeats
refused_old_images_are_malformed s image (refusals.Object unit slot fault) other h is =
    let made = is.defined unit h.lowest.inside in
    let first = h.lowest.first in
    let kind = one_kind (kind_of s unit) first.kind made.1.kind first.of_unit made.1.of_unit in
    let both = sym first.first ∙ ap (λ (k : UnitKind). old_object_fault s unit k (objects_in s (widened s image) unit)) kind
    ∙ made.1.sound in
    cc
refused_old_images_are_malformed s image refusals.Memory other h is = absurd (other refl)

-- ---- the new image
inside_of : {A : Type 0} (xs : List A) (k : ℕ) → k < length xs → (x : A) × (slice_get xs k ≡ Some x)
inside_of [] k low = absurd (omega arith)
inside_of (x ∷ xs) zero low = (x, refl)
inside_of (x ∷ xs) (suc k) low = inside_of xs k (omega arith)

within_of : {A : Type 0} (xs : List A) (k : ℕ) (x : A) → slice_get xs k ≡ Some x → k < length xs
within_of [] k x e = absurd (cc)
within_of (y ∷ xs) zero x e = omega arith
within_of (y ∷ xs) (suc k) x e = let low = within_of xs k x e in omega arith

-- what the program knows in the end
pub record Migrates (s : Shape) (image now : List ℕ) : Type 0 where
  pub layout : IsLayout s
  pub old : IsImage s image true
  pub readable : IsReadable s (widened s image)
  pub apart : HasNoRepeat (all_records s (widened s image))
  pub kept : (unit : ℕ) → unit < units_of s → RenewsUnit s unit (objects_in s (widened s image) unit)
  pub all : now ≡ clock_of (widened s image) ∷ flat_map (migrated_slot s (widened s image)) (all_slots s)

pub migrates : (s : Shape) (image now wide : List ℕ) → IsLayout s → IsImage s image true → wide ≡ widened s image
    → IsReadable s (widened s image) → HasNoRepeat (all_records s (widened s image))
    → ((unit : ℕ) → unit < units_of s → RenewsUnit s unit (objects_in s wide unit))
    → now ≡ clock_of wide ∷ flat_map (migrated_slot s wide) (all_slots s) → Migrates s image now
migrates s image now wide layout old is readable apart kept all = record {
  layout = layout;
  old = old;
  readable = readable;
  apart = apart;
  kept = λ unit inside. subst (λ (ws : List ℕ). RenewsUnit s unit (objects_in s ws unit)) is (kept unit inside);
  all = all ∙ ap (λ (ws : List ℕ). clock_of ws ∷ flat_map (migrated_slot s ws) (all_slots s)) is;
}

module _ (s : Shape) (image now : List ℕ) (m : Migrates s image now) where
  abbrev wide : List ℕ
  wide = widened s image

  size : length wide ≡ words_of s
  size = size_wide s image m.old

  last : clock_of wide ≤ LAST
  last = clock_last s image m.old

  some_slots : 1 ≤ s.slots
  some_slots = let least = m.layout.some_slots in omega arith

  kind_at : (unit : ℕ) → unit < units_of s → (kind : UnitKind) × (kind_of s unit ≡ Some kind)
  kind_at unit inside = inside_of s.kinds unit inside

  unit_at : (slot : ℕ) → slot < total_of s → unit_of_slot s slot < units_of s
  unit_at slot inside = (slots_have_units s slot some_slots).0 inside

  long_slot : (slot : ℕ) → slot < total_of s → length (migrated_slot s wide slot) ≡ FIELDS
  long_slot slot inside = long_now s wide size last slot inside

  same_clock : clock_of now ≡ clock_of wide
  same_clock = ap clock_of m.all

  pub clock_now : clock_of now ≡ clock_of image
  clock_now = same_clock ∙ clock_is s image m.old

  pub slots_are : AreMigrated s image now
  slots_are slot inside = ap (λ (ws : List ℕ). words_at ws slot) m.all
      ∙ words_at-flat (migrated_slot s wide) (total_of s) long_slot (clock_of wide) slot inside

  size_is : length now ≡ words_of s
  size_is = let flat = length-flat (migrated_slot s wide) (total_of s) long_slot 0 (total_of s) (omega arith) in
      ap length m.all ∙ omega arith

  pub objects_are : (unit : ℕ) (kind : UnitKind) → kind_of s unit ≡ Some kind
      → live_objects (records_of s now unit) ≡ map (renewed_object kind) (objects_in s wide unit)
  objects_are unit kind of_unit =
      objects_now s wide size last now same_clock slots_are unit kind some_slots (within_of s.kinds unit kind of_unit) of_unit

  structure_is : (unit : ℕ) (state : State) → unit < units_of s
      → IsStructure s unit (live_objects (records_of s now unit)) state ↔ IsOldStructure s unit (objects_in s wide unit) state
  structure_is unit state inside =
      let k = m.kept unit inside in
      let objects = objects_are unit k.kind k.of_unit in (
        λ is. record {
          kind = k.kind;
          of_unit = k.of_unit;
          sound = k.sound_old;
          made = is.made
              ∙ ap (λ (kind : UnitKind). structure_of kind (live_objects (records_of s now unit)))
              (one_kind (kind_of s unit) is.kind k.kind is.of_unit k.of_unit)
              ∙ ap (structure_of k.kind) objects ∙ k.same;
        },
        λ is. record {
          kind = k.kind;
          of_unit = k.of_unit;
          sound = ap (object_fault s unit k.kind) objects ∙ k.sound_now;
          made = is.made
              ∙ ap (λ (kind : UnitKind). old_structure_of kind (objects_in s wide unit))
              (one_kind (kind_of s unit) is.kind k.kind is.of_unit k.of_unit)
              ∙ sym k.same ∙ ap (structure_of k.kind) (sym objects);
        },
      )

  accepted : IsWellFormed s now
  accepted = record {
    layout = m.layout;
    size = size_is;
    clock_begun = subst (λ (n : ℕ). FIRST_CLOCK ≤ n) (sym clock_now) m.old.clock_begun;
    clock_last = subst (λ (n : ℕ). n ≤ LAST) (sym clock_now) m.old.clock_last;
    readable = λ unit slot inside here kept_slot.
        let within = (slots_have_units s slot some_slots).1 (subst (λ (u : ℕ). u < units_of s) (sym here) inside) in
        let k = kind_at (unit_of_slot s slot) (unit_at slot within) in
        subst (λ (u : ℕ). IsRead (reading u (words_at now slot))) here
        (readable_now s wide size last now same_clock slots_are slot k.0 within k.1 kept_slot);
    apart = λ unit inside.
        let k = kind_at unit inside in
        apart_now s wide size last now same_clock slots_are unit k.0 some_slots inside k.1
        (units_apart s (record_at s wide) (slot_of_record s wide) (unit_of_record s wide) some_slots m.apart unit inside);
    defined = λ unit inside.
        let k = m.kept unit inside in (
          old_structure_of k.kind (objects_in s wide unit),
          (structure_is unit _ inside).1
              (record { kind = k.kind; of_unit = k.of_unit; sound = k.sound_old; made = refl }),
        );
  }

  pub image_is : IsImage s now false
  image_is = record {
    size = size_is;
    clock_begun = subst (λ (n : ℕ). FIRST_CLOCK ≤ n) (sym clock_now) m.old.clock_begun;
    clock_last = subst (λ (n : ℕ). n ≤ LAST) (sym clock_now) m.old.clock_last;
    kinds = λ t. absurd (cc);
  }

  pub keeps : KeepsStructures s image now
  keeps = record {
    accepted = accepted;
    objects = objects_are;
    states = λ states. (
      λ is. (is.0, λ unit state at. (structure_is unit state (inside_states states unit state is.0 at)).0 (is.1 unit state at)),
      λ is. (is.0, λ unit state at. (structure_is unit state (inside_states states unit state is.0 at)).1 (is.1 unit state at)),
    );
  }
    where
      inside_states : (states : List State) (unit : ℕ) (state : State) → length states ≡ units_of s → slice_get states unit ≡ Some state
          → unit < units_of s
      inside_states states unit state many at = let low = within_of states unit state at in omega arith

  pub well_formed : IsOldWellFormed s image
  well_formed = record {
    readable = m.readable;
    apart = m.apart;
    defined = λ unit inside. made_old s unit (objects_in s wide unit) (m.kept unit inside);
  }
