-- The records of an image that was migrated: the live ones of the old image, each in its slot.
use Rattle.std.proofs.Common.{◌≡◌, ℕ, ◌<◌, ◌≤◌, Bool, true, false, List, [], ◌∷◌, map, length, get_or, refl, sym, ap, ◌∙◌, subst, arith, inl, inr, ◌⊎◌, cond}
use Rattle.std.specs.Prelude.{Option, Some, None, option_map, filter, not, ◌&&◌, ◌||◌, All, AllPairs}
use Rattle.std.specs.List.{Contains, list_any}
use Rattle.std.proofs.lemmas.Bool.{both_ways}
use Rattle.std.proofs.lemmas.List.Elements.{All-cons, All-head, All-nil, All-tail}
use Rattle.std.proofs.lemmas.List.Kept.{AllPairs-cons, AllPairs-filter}
use Rattle.std.proofs.lemmas.Simd.{map-map}
use Rattle.mont_base.specs.declared.constants.TheConstants.{FIELDS, LAST}
use Rattle.mont_base.specs.declared.kinds.UnitKind.{UnitKind}
use Rattle.mont_base.specs.declared.kinds.UnitKind.TheVariants as kinds
use Rattle.mont_base.specs.declared.record.Held.{Held}
use Rattle.mont_base.specs.Image.{DiffersFrom, IsRead, clock_of, epoch_at, is_in_cut, record_at, records_of, slots_of, words_at}
use Rattle.mont_base.specs.Layout.{Shape, kind_of, total_of, unit_of_slot, units_of, words_of}
use Rattle.mont_base.specs.Record.{IsBody, reading}
use Rattle.mont_base.specs.Texts.{byte_words}
use Rattle.mont_base.specs.Versions.{is_delete, is_later, is_live, live_objects, object_of}
use Rattle.mont_laws.specs.SlotReadings.{held_words}
use Rattle.mont_laws.proofs.Mapped.{filter_map_agree}
use Rattle.mont_laws.proofs.Members.{element_cases, first_element, kept_element, later_element, no_element, pairs_head, pairs_tail}
use Rattle.mont_laws.proofs.SlotImages.{in_cut, in_cut_from, none_outside, outside_cut, record_inside, some_inside}
use Rattle.mont_laws.proofs.SlotReadings.{length-slot_words, reading-slot_words}
use Rattle.mont_laws.proofs.SlotWords.{first_at}
use Rattle.mont_laws.proofs.UnitRecords.{slot_of_record}
use Rattle.mont_laws.proofs.UnitSlots.{slots_have_units, unit_of_member}
use Rattle.old_image.specs.OldSlots.{live_at, if_live, objects_in}
use Rattle.old_image.specs.OldStructure.{renewed_object, renewed_body}
use Rattle.old_image.specs.Migration.{migrated_slot, words_now}
use Rattle.old_image.proofs.LiveSlots.{live_made, live_record, made, made_listed, spells}

-- a record with its body as it is now
abbrev pub held_now : UnitKind → Held → Held
held_now kind r = record r { body = renewed_body kind r.body }

body_now : (kind : UnitKind) (body : List ℕ) → IsBody body → IsBody (renewed_body kind body)
unfolding byte_words
body_now kinds.Map body is = refl
body_now kinds.Queue body is = is
body_now kinds.Graph body is = is
body_now kinds.Ordered body is = is

-- ---- live among the live
all_pass : {A : Type 0} (p : A → Bool) (xs : List A) → ((a : A) → Contains xs a → p a ≡ true) → filter p xs ≡ xs
all_pass p [] h = refl
all_pass p (x ∷ xs) h = rw (h x (first_element x xs)) (ap (λ ys. x ∷ ys) (all_pass p xs (λ a k. h a (later_element x xs a k))))

from_map : {A B : Type 0} (f : A → B) (xs : List A) (b : B) → Contains (map f xs) b → (a : A) × Contains xs a × (f a ≡ b)
from_map f [] b h = absurd (no_element b h)
from_map {A} f (x ∷ xs) b h = by (λ k. from_map f xs b k) (element_cases (f x) (map f xs) b h)
  where
    by : (Contains (map f xs) b → (a : A) × Contains xs a × (f a ≡ b)) → (b ≡ f x) ⊎ Contains (map f xs) b
        → (a : A) × Contains (x ∷ xs) a × (f a ≡ b)
    by rest (inl is) = (x, first_element x xs, sym is)
    by rest (inr k) = let r = rest k in (r.0, later_element x xs r.0 r.1, r.2)

none_of_kept : {A B : Type 0} (p : A → Bool) (q : B → Bool) (f : A → B) (t : A → Bool) (xs : List A) → ((a : A) → q (f a) ≡ t a)
    → list_any t xs ≡ false → list_any q (map f (filter p xs)) ≡ false
none_of_kept p q f t [] same none = refl
none_of_kept p q f t (x ∷ xs) same none = by (p x) (t x) refl none (λ n. none_of_kept p q f t xs same n)
  where
    by : (b c : Bool) → t x ≡ c → (c || list_any t xs) ≡ false → (list_any t xs ≡ false → list_any q (map f (filter p xs)) ≡ false)
        → list_any q (map f (cond b (x ∷ filter p xs) (filter p xs))) ≡ false
    by b true e n rest = absurd (cc)
    by false false e n rest = rest n
    by true false e n rest = rw (same x ∙ e) (rest n)

live_not : (d a : Bool) → (not d && not a) ≡ true → (d ≡ false) × (a ≡ false)
live_not true a e = absurd (cc)
live_not false true e = absurd (cc)
live_not false false e = (refl, refl)

module _ (kind : UnitKind) (rs : List Held) where
  abbrev live : List Held
  live = filter (is_live rs) rs

  -- each is live in the new image
  still_live : (q : Held) → Contains (map (held_now kind) live) q → is_live (map (held_now kind) live) q ≡ true
  still_live q h =
      let at = from_map (held_now kind) live q h in
      let is = kept_element (is_live rs) at.0 rs at.1 in
      let parts = live_not (is_delete at.0.label.kind) (list_any (is_later at.0) rs) is.1 in
      subst (λ (x : Held). is_live (map (held_now kind) live) x ≡ true) at.2
      (λ i. not (parts.0 i)
      && not (none_of_kept (is_live rs) (is_later (held_now kind at.0)) (held_now kind) (is_later at.0) rs (λ r. refl) parts.1 i))

  pub live_now : live_objects (map (held_now kind) live) ≡ map (renewed_object kind) (live_objects rs)
  live_now =
      ap (map object_of) (all_pass (is_live (map (held_now kind) live)) (map (held_now kind) live) still_live)
      ∙ map-map object_of (held_now kind) live ∙ sym (map-map (renewed_object kind) object_of live)

-- ---- versions stay
module _ (kind : UnitKind) where
  none_alike : (r : Held) (qs : List Held) → All (DiffersFrom r) qs → All (DiffersFrom (held_now kind r)) (map (held_now kind) qs)
  none_alike r [] h = All-nil (DiffersFrom (held_now kind r))
  none_alike r (q ∷ qs) h = All-cons (DiffersFrom (held_now kind r)) (held_now kind q) (map (held_now kind) qs)
      (All-head (DiffersFrom r) q qs h) (none_alike r qs (All-tail (DiffersFrom r) q qs h))

  pairs_now : (qs : List Held) → AllPairs DiffersFrom qs → AllPairs DiffersFrom (map (held_now kind) qs)
  pairs_now [] h = λ i j d low within. absurd (omega arith)
  pairs_now (q ∷ qs) h = AllPairs-cons DiffersFrom (held_now kind q) (map (held_now kind) qs)
      (none_alike q qs (pairs_head DiffersFrom q qs h)) (pairs_now qs (pairs_tail DiffersFrom q qs h))

-- ---- an image that was made of another's live records
module _ (s : Shape) (wide : List ℕ) (size : length wide ≡ words_of s) (clock : clock_of wide ≤ LAST) (now : List ℕ)
    (same : clock_of now ≡ clock_of wide) (words : (slot : ℕ) → slot < total_of s → words_at now slot ≡ migrated_slot s wide slot) where
  -- a slot has its live record, or is closed
  record_now : (slot : ℕ) (kind : UnitKind) → slot < total_of s → kind_of s (unit_of_slot s slot) ≡ Some kind
      → record_at s now slot ≡ option_map (held_now kind) (live_at s wide slot)
  record_now slot kind inside of_unit = by (live_at s wide slot) refl
    where
      words_are : words_at now slot ≡ words_now (Some kind) (live_at s wide slot)
      words_are = words slot inside ∙ ap (λ (k : Option UnitKind). words_now k (live_at s wide slot)) of_unit

      by : (l : Option Held) → live_at s wide slot ≡ l → record_at s now slot ≡ option_map (held_now kind) l
      by None e =
          let zero_epoch : epoch_at now slot ≡ 0 =
          sym (first_at now slot) ∙ ap (λ (ws : List ℕ). get_or ws 0 0) (words_are ∙ ap (words_now (Some kind)) e) in
          none_outside s now slot (outside_cut now slot (inl zero_epoch))
      by (Some r) e =
          let read = (live_record s wide size clock slot r e).0 in
          let is = spells s wide size clock slot r inside read in
          let there = slot_of_record s wide slot r read in
          let spelled : words_at now slot ≡ held_words (held_now kind r) = words_are ∙ ap (words_now (Some kind)) e in
          let range = in_cut wide slot (some_inside s wide slot r read) in
          let was : epoch_at wide slot ≡ r.label.epoch = sym (first_at wide slot) ∙ ap (λ (ws : List ℕ). get_or ws 0 0) is.shown in
          let epoch : epoch_at now slot ≡ r.label.epoch = sym (first_at now slot) ∙ ap (λ (ws : List ℕ). get_or ws 0 0) spelled in
          let low = range.0 in
          let high = range.1 in
          record_inside s now slot (held_now kind r)
          (record { label = is.valid.label; of_unit = is.valid.of_unit; body = body_now kind r.body is.valid.body })
          there (in_cut_from now slot (omega arith) (omega arith)) spelled

  pub records_now : (unit : ℕ) (kind : UnitKind) → 1 ≤ s.slots → unit < units_of s → kind_of s unit ≡ Some kind
      → records_of s now unit ≡ map (held_now kind) (filter (is_live (records_of s wide unit)) (records_of s wide unit))
  records_now unit kind some inside of_unit =
      filter_map_agree (record_at s now) (λ slot. made (held_now kind) (is_live rs) (record_at s wide slot)) (slots_of s unit) agree
      ∙ sym (made_listed (held_now kind) (is_live rs) (record_at s wide) (slots_of s unit))
    where
      rs : List Held
      rs = records_of s wide unit

      agree : (slot : ℕ) → Contains (slots_of s unit) slot
          → record_at s now slot ≡ made (held_now kind) (is_live (records_of s wide unit)) (record_at s wide slot)
      agree slot h =
          let here = unit_of_member s unit slot some h in
          let within = (slots_have_units s slot some).1 (subst (λ (u : ℕ). u < units_of s) (sym here) inside) in
          record_now slot kind within (ap (kind_of s) here ∙ of_unit)
          ∙ ap (λ (u : ℕ). option_map (held_now kind) (if_live (records_of s wide u) (record_at s wide slot))) here
          ∙ sym (live_made (held_now kind) (records_of s wide unit) (record_at s wide slot))

  pub objects_now : (unit : ℕ) (kind : UnitKind) → 1 ≤ s.slots → unit < units_of s → kind_of s unit ≡ Some kind
      → live_objects (records_of s now unit) ≡ map (renewed_object kind) (objects_in s wide unit)
  objects_now unit kind some inside of_unit =
      ap live_objects (records_now unit kind some inside of_unit) ∙ live_now kind (records_of s wide unit)

  -- ---- what else recovery asks
  pub apart_now : (unit : ℕ) (kind : UnitKind) → 1 ≤ s.slots → unit < units_of s → kind_of s unit ≡ Some kind
      → AllPairs DiffersFrom (records_of s wide unit) → AllPairs DiffersFrom (records_of s now unit)
  apart_now unit kind some inside of_unit apart =
      let rs = records_of s wide unit in
      subst (AllPairs DiffersFrom) (sym (records_now unit kind some inside of_unit))
      (pairs_now kind (filter (is_live rs) rs) (AllPairs-filter DiffersFrom (is_live rs) rs apart))

  pub readable_now : (slot : ℕ) (kind : UnitKind) → slot < total_of s → kind_of s (unit_of_slot s slot) ≡ Some kind
      → is_in_cut now slot ≡ true → IsRead (reading (unit_of_slot s slot) (words_at now slot))
  readable_now slot kind inside of_unit kept = by (live_at s wide slot) refl
    where
      words_are : words_at now slot ≡ words_now (Some kind) (live_at s wide slot)
      words_are = words slot inside ∙ ap (λ (k : Option UnitKind). words_now k (live_at s wide slot)) of_unit

      by : (l : Option Held) → live_at s wide slot ≡ l → IsRead (reading (unit_of_slot s slot) (words_at now slot))
      by None e =
          let zero_epoch : epoch_at now slot ≡ 0 =
          sym (first_at now slot) ∙ ap (λ (ws : List ℕ). get_or ws 0 0) (words_are ∙ ap (words_now (Some kind)) e) in
          absurd (both_ways (is_in_cut now slot) (outside_cut now slot (inl zero_epoch)) kept)
      by (Some r) e =
          let is = spells s wide size clock slot r inside (live_record s wide size clock slot r e).0 in
          let read = ap (reading (unit_of_slot s slot)) (words_are ∙ ap (words_now (Some kind)) e)
          ∙ reading-slot_words (unit_of_slot s slot) r.label (renewed_body kind r.body) is.valid.label is.valid.of_unit in
          subst IsRead (sym read) tt

-- ---- a slot has as many words as slots have
pub long_now : (s : Shape) (wide : List ℕ) → length wide ≡ words_of s → clock_of wide ≤ LAST → (slot : ℕ) → slot < total_of s
    → length (migrated_slot s wide slot) ≡ FIELDS
long_now s wide size clock slot inside = by (kind_of s (unit_of_slot s slot)) (live_at s wide slot) refl
  where
    by : (k : Option UnitKind) (l : Option Held) → live_at s wide slot ≡ l → length (words_now k l) ≡ FIELDS
    by None None e = refl
    by None (Some r) e = refl
    by (Some kind) None e = refl
    by (Some kind) (Some r) e =
        let is = spells s wide size clock slot r inside (live_record s wide size clock slot r e).0 in
        length-slot_words r.label (renewed_body kind r.body) (body_now kind r.body is.valid.body)
