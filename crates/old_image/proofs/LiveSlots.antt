-- The live records of a unit, slot by slot.
use Rattle.std.proofs.Common.{◌≡◌, ℕ, ◌<◌, ◌≤◌, Bool, true, false, List, [], ◌∷◌, ◌++◌, map, take, length, replicate, refl, sym, ap, ◌∙◌, subst, arith, cond, if◌then◌else◌}
use Rattle.std.specs.Prelude.{Option, Some, None, option_map, Result, Ok, Err, filter}
use Rattle.std.specs.List.{Contains, filter_map, cons_option}
use Rattle.std.proofs.lemmas.Option.{same_Some}
use Rattle.std.proofs.lemmas.Simd.{map-map}
use Rattle.mont_base.specs.declared.constants.TheConstants.{FIELDS, LABEL, LAST}
use Rattle.mont_base.specs.declared.kinds.UnitKind.{UnitKind}
use Rattle.mont_base.specs.declared.record.Held.{Held}
use Rattle.mont_base.specs.declared.record.Label.{Label}
use Rattle.mont_base.specs.declared.record.Object.{Object}
use Rattle.mont_base.specs.declared.record.SlotFault.{SlotFault}
use Rattle.mont_base.specs.Image.{clock_of, record_at, record_read, records_of, slots_of, words_at}
use Rattle.mont_base.specs.Layout.{Shape, kind_of, total_of, unit_of_slot, words_of}
use Rattle.mont_base.specs.Record.{reading}
use Rattle.mont_base.specs.Versions.{is_live, object_of}
use Rattle.mont_laws.specs.SlotReadings.{Spells}
use Rattle.mont_laws.proofs.Mapped.{filter_map_agree}
use Rattle.mont_laws.proofs.SlotImages.{in_cut, some_inside}
use Rattle.mont_laws.proofs.SlotReadings.{spelled}
use Rattle.mont_laws.proofs.SlotWords.{first_at, length-words_at}
use Rattle.mont_laws.proofs.UnitRecords.{slot_of_record}
use Rattle.mont_laws.proofs.UnitSlots.{unit_of_member}
use Rattle.old_image.specs.OldSlots.{live_at, if_live, objects_in}
use Rattle.old_image.specs.OldStructure.{renewed_object, renewed_body}
use Rattle.old_image.specs.Migration.{migrated_slot, object_at, object_if, words_now}

-- ---- what is made of the records that a filter keeps, slot by slot
abbrev pub made : {X : Type 0} → (Held → X) → (Held → Bool) → Option Held → Option X
made f p None = None
made f p (Some r) = if p r then Some (f r) else None

module _ {X : Type 0} (f : Held → X) (p : Held → Bool) (h : ℕ → Option Held) where
  pub made_listed : (xs : List ℕ) → map f (filter p (filter_map h xs)) ≡ filter_map (λ x. made f p (h x)) xs
  made_listed [] = refl
  made_listed (x ∷ xs) = by (h x) (made_listed xs)
    where
      go : (b : Bool) (r : Held) (ys : List Held) (zs : List X) → map f (filter p ys) ≡ zs
          → map f (cond b (r ∷ filter p ys) (filter p ys)) ≡ cons_option (if b then Some (f r) else None) zs
      go true r ys zs rest = ap (λ (xs : List X). f r ∷ xs) rest
      go false r ys zs rest = rest

      by : (o : Option Held) → map f (filter p (filter_map h xs)) ≡ filter_map (λ x. made f p (h x)) xs
          → map f (filter p (cons_option o (filter_map h xs))) ≡ cons_option (made f p o) (filter_map (λ x. made f p (h x)) xs)
      by None rest = rest
      by (Some r) rest = go (p r) r (filter_map h xs) (filter_map (λ x. made f p (h x)) xs) rest

-- ---- a live record
live_parts : (rs : List Held) (o : Option Held) (r : Held) → if_live rs o ≡ Some r → (o ≡ Some r) × (is_live rs r ≡ true)
live_parts rs None r e = absurd (cc)
live_parts rs (Some q) r e = by (is_live rs q) refl e
  where
    by : (b : Bool) → is_live rs q ≡ b → (if b then Some q else None) ≡ Some r → (Some q ≡ Some r) × (is_live rs r ≡ true)
    by true f e = let same = same_Some q r e in (ap Some same, ap (is_live rs) (sym same) ∙ f)
    by false f e = absurd (cc)

pub live_made : {X : Type 0} (f : Held → X) (rs : List Held) (o : Option Held)
    → made f (is_live rs) o ≡ option_map f (if_live rs o)
live_made f rs None = refl
live_made f rs (Some q) = by (is_live rs q)
  where
    by : (b : Bool) → (if b then Some (f q) else None) ≡ option_map f (if b then Some q else None)
    by true = refl
    by false = refl

-- what is read of a slot
read_is : (slot : ℕ) (o : Result (Option (Label × List ℕ)) SlotFault) (r : Held) → record_read slot o ≡ Some r
    → o ≡ Ok (Some (r.label, r.body))
read_is slot (Err x) r e = absurd (cc)
read_is slot (Ok None) r e = absurd (cc)
read_is slot (Ok (Some v)) r e =
    ap (λ (q : Held). Ok (Some (q.label, q.body))) (same_Some (record { slot = slot; label = v.0; body = v.1 }) r e)

-- an object stands in its slot
pub object_slot : (s : Shape) (wide : List ℕ) (slot : ℕ) (o : Object) → object_at s wide slot ≡ Some o → o.slot ≡ slot
object_slot s wide slot o e = by (kind_of s (unit_of_slot s slot)) (live_at s wide slot) refl e
  where
    by : (k : Option UnitKind) (l : Option Held) → live_at s wide slot ≡ l → object_if k l ≡ Some o → o.slot ≡ slot
    by None None f e = absurd (cc)
    by None (Some r) f e = absurd (cc)
    by (Some kind) None f e = absurd (cc)
    by (Some kind) (Some r) f e =
        sym (ap (λ (x : Object). x.slot) (same_Some (renewed_object kind (object_of r)) o e))
        ∙ slot_of_record s wide slot r (live_parts (records_of s wide (unit_of_slot s slot)) (record_at s wide slot) r f).0

module _ (s : Shape) (wide : List ℕ) (size : length wide ≡ words_of s) (clock : clock_of wide ≤ LAST) where
  pub spells : (slot : ℕ) (r : Held) → slot < total_of s → record_at s wide slot ≡ Some r
      → Spells (unit_of_slot s slot) (words_at wide slot) r
  spells slot r inside e =
      let kept = some_inside s wide slot r e in
      let range = in_cut wide slot kept in
      let low = range.1 in
      let first = first_at wide slot in
      let read = sym (ap (λ b. if b then record_read slot (reading (unit_of_slot s slot) (words_at wide slot)) else None) kept) ∙ e in
      spelled (unit_of_slot s slot) (words_at wide slot) (length-words_at s wide slot size inside) r (omega arith)
      (read_is slot (reading (unit_of_slot s slot) (words_at wide slot)) r read)

  pub live_record : (slot : ℕ) (r : Held) → live_at s wide slot ≡ Some r
      → (record_at s wide slot ≡ Some r) × (is_live (records_of s wide (unit_of_slot s slot)) r ≡ true)
  live_record slot r e = live_parts (records_of s wide (unit_of_slot s slot)) (record_at s wide slot) r e

  -- ---- the object of a slot
  pub object_is : (slot : ℕ) (o : Object) → slot < total_of s → object_at s wide slot ≡ Some o
      → (o.slot ≡ slot) × (take LABEL (words_at wide slot) ++ o.body ≡ migrated_slot s wide slot)
  object_is slot o inside e = by (kind_of s (unit_of_slot s slot)) (live_at s wide slot) refl e
    where
      Is : Object → Option UnitKind → Option Held → Type 0
      Is o k l = (o.slot ≡ slot) × (take LABEL (words_at wide slot) ++ o.body ≡ words_now k l)

      by : (k : Option UnitKind) (l : Option Held) → live_at s wide slot ≡ l → object_if k l ≡ Some o → Is o k l
      by None None f e = absurd (cc)
      by None (Some r) f e = absurd (cc)
      by (Some kind) None f e = absurd (cc)
      by (Some kind) (Some r) f e =
          let read = (live_record slot r f).0 in
          subst (λ (x : Object). Is x (Some kind) (Some r)) (same_Some (renewed_object kind (object_of r)) o e) (
            slot_of_record s wide slot r read,
            ap (λ (ws : List ℕ). take LABEL ws ++ renewed_body kind r.body) (spells slot r inside read).shown,
          )

  pub no_object : (slot : ℕ) → object_at s wide slot ≡ None → migrated_slot s wide slot ≡ replicate FIELDS 0
  no_object slot e = by (kind_of s (unit_of_slot s slot)) (live_at s wide slot) e
    where
      by : (k : Option UnitKind) (l : Option Held) → object_if k l ≡ None → words_now k l ≡ replicate FIELDS 0
      by None None e = refl
      by None (Some r) e = refl
      by (Some kind) None e = refl
      by (Some kind) (Some r) e = absurd (cc)

  -- ---- the objects of a unit
  object_made : (kind : UnitKind) (l : Option Held) → option_map (λ r. renewed_object kind (object_of r)) l ≡ object_if (Some kind) l
  object_made kind None = refl
  object_made kind (Some r) = refl

  pub objects_listed : (unit : ℕ) (kind : UnitKind) → 1 ≤ s.slots → kind_of s unit ≡ Some kind
      → map (renewed_object kind) (objects_in s wide unit) ≡ filter_map (object_at s wide) (slots_of s unit)
  objects_listed unit kind some of_unit =
      let rs = records_of s wide unit in
      let f : Held → Object = λ r. renewed_object kind (object_of r) in
      map-map (renewed_object kind) object_of (filter (is_live rs) rs)
      ∙ made_listed f (is_live rs) (record_at s wide) (slots_of s unit)
      ∙ filter_map_agree (λ slot. made f (is_live rs) (record_at s wide slot)) (object_at s wide) (slots_of s unit) agree
    where
      agree : (slot : ℕ) → Contains (slots_of s unit) slot
          → made (λ r. renewed_object kind (object_of r)) (is_live (records_of s wide unit)) (record_at s wide slot) ≡ object_at s wide slot
      agree slot h =
          let here : unit ≡ unit_of_slot s slot = sym (unit_of_member s unit slot some h) in
          live_made (λ r. renewed_object kind (object_of r)) (records_of s wide unit) (record_at s wide slot)
          ∙ object_made kind (if_live (records_of s wide unit) (record_at s wide slot))
          ∙ ap (λ (k : Option UnitKind). object_if k (if_live (records_of s wide unit) (record_at s wide slot))) (sym of_unit)
          ∙ ap (λ (u : ℕ). object_if (kind_of s u) (if_live (records_of s wide u) (record_at s wide slot))) here
