-- Words that are current and durable alike.
use Rattle.std.proofs.Common.{◌≡◌, ℕ, zero, suc, ◌+◌, ◌-◌, ◌*◌, ◌<◌, ◌≤◌, ◌⊎◌, List, [], ◌∷◌, length, take, drop, map, replicate, get_or, sym, refl, ap, ◌∙◌, subst, inl, inr, ⊎_elim, arith, Bool, true, false}
use Rattle.std.specs.Prelude.{Option, Some, None, Ok, Err, slice_get, AllPairs, if◌then◌else◌}
use Rattle.std.specs.List.{Contains}
use Rattle.std.specs.FinMap as finite
use Rattle.std.specs.Ordering.{nat_cmp}
use Rattle.std.proofs.lemmas.Bool.{cases_lt, both_ways, false_from_ne_true}
use Rattle.std.proofs.lemmas.List.{ext_get_or, get_or_past, get_or-replicate, length-replicate, length-map, take-replicate, drop-replicate, nil_from_length}
use Rattle.std.proofs.lemmas.Option.{same_Some}
use Rattle.std.proofs.Math.Nat.{mul-le-mul_left}
use Rattle.mont_base.specs.declared.constants.TheConstants.{FIELDS}
use Rattle.mont_base.specs.declared.kinds.UnitKind.{UnitKind}
use Rattle.mont_base.specs.declared.kinds.UnitKind.TheVariants as kinds
use Rattle.mont_base.specs.declared.record.Held.{Held}
use Rattle.mont_base.specs.Layout.{Shape, IsLayout, units_of, total_of, words_of, word_of, unit_of_slot, kind_of}
use Rattle.mont_base.specs.Record.{reading}
use Rattle.mont_base.specs.State.{QueueOf, empty_state}
use Rattle.mont_base.specs.Structure.{object_fault, structure_of, IsStructure}
use Rattle.mont_base.specs.Versions.{live_objects}
use Rattle.mont_base.specs.Image.{cut_of, words_at, epoch_at, is_in_cut, record_read, record_at, slots_of, records_of, IsRead, DiffersFrom, IsWellFormed}
use Rattle.mont_laws.specs.SettledWords.{SettledWordsStay, HasRecord, WellFormedSlotsAreRead, WellFormedRecordsStand, empty_words, EmptyWordsAreAStore}
use Rattle.mont_laws.specs.UnitRecords.{HasNone, HasOne}
use Rattle.mont_laws.proofs.Mapped.{filter_map_none}
use Rattle.mont_laws.proofs.SlotWords.{first_at, length-words_at}
use Rattle.mont_laws.proofs.UnitSlots.{slots_have_units}
use Rattle.mont_laws.proofs.SlotReadings.{Reading, spelled, closed_of_nothing}
use Rattle.mont_laws.proofs.SlotImages.{in_cut, in_cut_from, outside_cut, outside_from, none_outside, some_inside, record_inside, durable_records_stand}
use Rattle.mont_laws.proofs.UnitRecords.{read_of_listed, listed_of_read}

pub settled_words_stay : SettledWordsStay
settled_words_stay words image p = ext_get_or 0 image words p.as_long (λ i low. ⊎_elim (λ e. e) (λ e. e) (p.each i low))

-- ---- the slots of an image that recovery accepts
read_some : (slot : ℕ) (o : Reading) (r : Held) → record_read slot o ≡ Some r
    → (o ≡ Ok (Some (r.label, r.body))) × (r.slot ≡ slot)
read_some slot (Err x) r e = absurd (cc)
read_some slot (Ok None) r e = absurd (cc)
read_some slot (Ok (Some v)) r e = let same = same_Some (record { slot = slot; label = v.0; body = v.1 }) r e in
    (ap (λ (q : Held). Ok (Some (q.label, q.body))) same, sym (ap (λ (q : Held). q.slot) same))

read_none : (slot : ℕ) (o : Reading) → IsRead o → record_read slot o ≡ None → o ≡ Ok None
read_none slot (Err x) is e = absurd is
read_none slot (Ok None) is e = refl
read_none slot (Ok (Some v)) is e = absurd (cc)

module _ (s : Shape) (image : List ℕ) (slot : ℕ) (k : IsWellFormed s image) (low : slot < total_of s) where
  some_slots : 1 ≤ s.slots
  some_slots = let some = k.layout.some_slots in omega arith

  abbrev here : Reading
  here = reading (unit_of_slot s slot) (words_at image slot)

  inside_read : (o : Option Held) → is_in_cut image slot ≡ true → record_at s image slot ≡ o → record_read slot here ≡ o
  inside_read o inside e = ap (λ (b : Bool). if b then record_read slot here else None) (sym inside) ∙ e

  has_record : (r : Held) → record_at s image slot ≡ Some r → HasRecord s image slot r
  has_record r e =
      let inside = some_inside s image slot r e in
      let range = in_cut image slot inside in
      let first = first_at image slot in
      let last = k.clock_last in
      let some = range.0 in
      let old = range.1 in
      let read = read_some slot here r (inside_read (Some r) inside e) in
      let long = length-words_at s image slot k.size low in
      let is = spelled (unit_of_slot s slot) (words_at image slot) long r (omega arith) read.0 in
      let epoch : get_or (words_at image slot) 0 0 ≡ r.label.epoch = ap (λ (l : List ℕ). get_or l 0 0) is.shown in
      record { spelled = is; there = read.1; within = omega arith }

  record_of : (r : Held) → HasRecord s image slot r → record_at s image slot ≡ Some r
  record_of r h =
      let epoch : epoch_at image slot ≡ r.label.epoch = sym (first_at image slot) ∙ ap (λ (l : List ℕ). get_or l 0 0) h.spelled.shown in
      let some = h.spelled.valid.label.some_epoch in
      let old = h.within in
      record_inside s image slot r h.spelled.valid h.there (in_cut_from image slot (omega arith) (omega arith)) h.spelled.shown

  unread_outside : record_at s image slot ≡ None → is_in_cut image slot ≡ false
  unread_outside e = false_from_ne_true (is_in_cut image slot) (λ inside.
      let range = in_cut image slot inside in
      let some = range.0 in
      let first = first_at image slot in
      let read = k.readable (unit_of_slot s slot) slot ((slots_have_units s slot some_slots).0 low) refl inside in
      let none = read_none slot here read (inside_read None inside e) in
      let closed = closed_of_nothing (unit_of_slot s slot) (words_at image slot) (length-words_at s image slot k.size low) none in
      omega arith)

pub well_formed_slots_are_read : WellFormedSlotsAreRead
well_formed_slots_are_read s image slot k low = record {
  some = λ r. (has_record s image slot k low r, record_of s image slot k low r);
  none = (
    λ e. outside_from image slot (unread_outside s image slot k low e),
    λ out. none_outside s image slot (outside_cut image slot out),
  );
}

module _ (s : Shape) (image : List ℕ) (unit : ℕ) (k : IsWellFormed s image) (low : unit < units_of s) where
  some : 1 ≤ s.slots
  some = let least = k.layout.some_slots in omega arith

  read_here : (slot : ℕ) (r : Held) → Contains (records_of s image unit) r → r.slot ≡ slot → record_at s image slot ≡ Some r
  read_here slot r h there = ap (record_at s image) (sym there) ∙ (read_of_listed s image unit r some h).1

  slot_stands : (slot : ℕ) → unit_of_slot s slot ≡ unit → (o : Option Held) → record_at s image slot ≡ o
      → HasNone (cut_of image) (records_of s image unit) image image slot
      ⊎ HasOne s (cut_of image) (records_of s image unit) None image image slot
  slot_stands slot of_unit None e =
      let in_store : slot < total_of s = (slots_have_units s slot some).1 (subst (λ (u : ℕ). u < units_of s) (sym of_unit) low) in
      let out = (well_formed_slots_are_read s image slot k in_store).none.0 e in
      inl (record {
        none = λ r h there. let clash = read_here slot r h there in absurd (cc);
        outside = record { in_current = out; in_durable = out };
      })
  slot_stands slot of_unit (Some r) e =
      let in_store : slot < total_of s = (slots_have_units s slot some).1 (subst (λ (u : ℕ). u < units_of s) (sym of_unit) low) in
      let is = ((well_formed_slots_are_read s image slot k in_store).some r).0 e in
      inr (record {
        held = r;
        listed = listed_of_read s image unit r some (ap (unit_of_slot s) is.there ∙ of_unit, ap (record_at s image) is.there ∙ e);
        only = λ q h there. same_Some q r (sym (read_here slot q h there) ∙ e);
        closed = false;
        closes = λ c. absurd (cc);
        stands = durable_records_stand s (cut_of image) false image image slot r
            is.spelled.valid is.there is.spelled.shown is.spelled.shown;
      })

pub well_formed_records_stand : WellFormedRecordsStand
well_formed_records_stand s image unit k low = record {
  of_unit = λ r h. (read_of_listed s image unit r (some s image unit k low) h).0;
  each = λ slot of_unit. slot_stands s image unit k low slot of_unit (record_at s image slot) refl;
}

-- ---- a store that was never used
zero_at : (n i : ℕ) → ◌≡◌ {A = ℕ} (get_or (replicate n 0) i 0) 0
zero_at n i = ⊎_elim
    (λ (low : i < n). get_or-replicate n i 0 0 low)
    (λ (past : n ≤ i). get_or_past (replicate n 0) i 0 (omega (arith, length-replicate {A = ℕ} n 0)))
    (cases_lt i n)

zeros_from : (n k total : ℕ) → n * k + n ≤ n * total
    → ◌≡◌ {A = List ℕ} (take n (drop (n * k) (replicate (n * total) 0))) (replicate n 0)
zeros_from n k total low = ap (take n) (drop-replicate (n * k) (n * total) 0) ∙ take-replicate n (n * total - n * k) 0 (omega arith)

mapped_at : {A B : Type 0} (f : A → B) (xs : List A) (i : ℕ) (b : B) → slice_get (map f xs) i ≡ Some b
    → (a : A) × (slice_get xs i ≡ Some a) × (f a ≡ b)
mapped_at f [] i b e = absurd (cc)
mapped_at f (x ∷ xs) zero b e = (x, refl, same_Some (f x) b e)
mapped_at f (x ∷ xs) (suc i) b e = mapped_at f xs i b e

item_at : {A : Type 0} (xs : List A) (i : ℕ) → i < length xs → (a : A) × (slice_get xs i ≡ Some a)
item_at [] i low = absurd (omega arith)
item_at (x ∷ xs) zero low = (x, refl)
item_at (x ∷ xs) (suc i) low = item_at xs i (omega arith)

none_apart : AllPairs DiffersFrom []
none_apart i j d low high = absurd (omega arith)

no_fault : (s : Shape) (unit : ℕ) (kind : UnitKind) → object_fault s unit kind [] ≡ None
no_fault s unit kinds.Map = refl
no_fault s unit kinds.Queue = refl
no_fault s unit kinds.Graph = refl
no_fault s unit kinds.Ordered = refl

no_entries : finite.entries (finite.empty {X = ℕ} {R = nat_cmp}) ≡ []
no_entries = nil_from_length (finite.entries finite.empty) (sym (finite.len-entries finite.empty) ∙ finite.len-empty nat_cmp ℕ)

empty_structure : (kind : UnitKind) → empty_state kind ≡ structure_of kind []
empty_structure kinds.Map = refl
empty_structure kinds.Queue = ap QueueOf (sym (ap (map (λ (e : ℕ × ℕ). e.1)) no_entries))
empty_structure kinds.Graph = refl
empty_structure kinds.Ordered = refl

module _ (s : Shape) (layout : IsLayout s) where
  size : length (empty_words s) ≡ words_of s
  size = ap suc (length-replicate (FIELDS * total_of s) 0) ∙ omega arith

  epoch_zero : (slot : ℕ) → epoch_at (empty_words s) slot ≡ 0
  epoch_zero slot =
      let place : word_of slot 0 ≡ suc (FIELDS * slot) = omega arith in
      ap (λ (i : ℕ). get_or (empty_words s) i 0) place ∙ zero_at (FIELDS * total_of s) (FIELDS * slot)

  closed : (slot : ℕ) → is_in_cut (empty_words s) slot ≡ false
  closed slot = outside_cut (empty_words s) slot (inl (epoch_zero slot))

  no_records : (unit : ℕ) → records_of s (empty_words s) unit ≡ []
  no_records unit =
      filter_map_none (record_at s (empty_words s)) (slots_of s unit) (λ slot. none_outside s (empty_words s) slot (closed slot))

  structure : (unit : ℕ) (kind : UnitKind) → kind_of s unit ≡ Some kind
      → IsStructure s unit (live_objects (records_of s (empty_words s) unit)) (empty_state kind)
  structure unit kind is = subst (λ (rs : List Held). IsStructure s unit (live_objects rs) (empty_state kind))
      (sym (no_records unit)) (record {
        kind = kind;
        of_unit = is;
        sound = no_fault s unit kind;
        made = empty_structure kind;
      })

pub empty_words_are_a_store : EmptyWordsAreAStore
empty_words_are_a_store s layout = record {
  size = size s layout;
  clock = refl;
  closed = epoch_zero s layout;
  slots = λ slot low.
      let place : word_of slot 0 ≡ suc (FIELDS * slot) = omega arith in
      let steps : FIELDS * (slot + 1) ≤ FIELDS * total_of s = mul-le-mul_left FIELDS (omega arith) in
      ap (λ (k : ℕ). take FIELDS (drop k (empty_words s))) place ∙ zeros_from FIELDS slot (total_of s) (omega arith);
  records = no_records s layout;
  well_formed = record {
    layout = layout;
    size = size s layout;
    clock_begun = omega arith;
    clock_last = omega arith;
    readable = λ unit slot low is inside. absurd (both_ways (is_in_cut (empty_words s) slot) (closed s layout slot) inside);
    apart = λ unit low. subst (AllPairs DiffersFrom) (sym (no_records s layout unit)) none_apart;
    defined = λ unit low. let kind = item_at s.kinds unit low in (empty_state kind.0, structure s layout unit kind.0 kind.1);
  };
  recovered = (
    length-map s.kinds empty_state,
    λ unit state at. let kind = mapped_at empty_state s.kinds unit state at in
        subst (IsStructure s unit (live_objects (records_of s (empty_words s) unit))) kind.2 (structure s layout unit kind.0 kind.1),
  );
}
