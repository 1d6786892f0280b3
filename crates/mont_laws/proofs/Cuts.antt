-- What an image has of a unit's records, in whatever order these stand.
use Rattle.std.proofs.Common.{◌≡◌, ◌≢◌, ℕ, ◌<◌, ◌≤◌, ◌⊎◌, List, get_or, sym, refl, ap, ◌∙◌, subst, inl, inr, ⊎_elim, arith, true, false}
use Rattle.std.specs.Prelude.{Option, Some, None, AllPairs, nat_le, not, ◌==◌}
use Rattle.std.specs.List.{Contains}
use Rattle.std.proofs.lemmas.Bool.{cases_Bool, cases_eq, leb-true, le-leb, eqb-false, ne_eqb, not-true, not_from_false, both_ways, false_from_ne_true}
use Rattle.std.proofs.lemmas.List.Elements.{Contains-get_or}
use Rattle.std.proofs.lemmas.Option.{same_Some}
use Rattle.mont_base.specs.declared.record.Held.{Held}
use Rattle.mont_base.specs.Layout.{Shape, unit_of_slot}
use Rattle.mont_base.specs.Record.{reading}
use Rattle.mont_base.specs.Image.{IsPermitted, cut_of, words_at, is_in_cut, record_at, records_of, IsRead, DiffersFrom}
use Rattle.mont_laws.specs.Records.{AreSameRecords, cut_records, without_slot}
use Rattle.mont_laws.specs.UnitRecords.{HasLowerSlot, HasNone, HasOne, AreInSlots, IsCutOf, ImagesHaveCuts}
use Rattle.mont_laws.proofs.Members.{kept_element, element_kept, pair_cases}
use Rattle.mont_laws.proofs.Apart.{stays, stayed}
use Rattle.mont_laws.proofs.SlotReadings.{reading-slot_words}
use Rattle.mont_laws.proofs.SlotImages.{some_inside, lies_outside, slots_outside_are_unread, words_inside, read_inside, low_inside, open_inside}
use Rattle.mont_laws.proofs.UnitRecords.{read_of_listed, listed_of_read, records_are_listed}

-- ---- filters
pub in_cut_records : (cut : ℕ) (records : List Held) (r : Held) → Contains (cut_records cut records) r
    → Contains records r × (r.label.epoch ≤ cut)
in_cut_records cut records r h =
    let parts = kept_element (λ (q : Held). nat_le q.label.epoch cut) r records h in (parts.0, leb-true r.label.epoch cut parts.1)

pub cut_records_from : (cut : ℕ) (records : List Held) (r : Held) → Contains records r → r.label.epoch ≤ cut
    → Contains (cut_records cut records) r
cut_records_from cut records r h low =
    element_kept (λ (q : Held). nat_le q.label.epoch cut) r records h (le-leb r.label.epoch cut low)

-- ---- the records of an image
module _ (s : Shape) (records : List Held) (closing : Option ℕ) (cur dur image : List ℕ) (unit : ℕ)
    (some : 1 ≤ s.slots) (p : IsPermitted cur dur image) (k : AreInSlots s (cut_of image) records closing cur dur unit) where
  -- what is read of a slot is the record that stands there
  held_there : (slot : ℕ) (one : HasOne s (cut_of image) records closing cur dur slot) → is_in_cut image slot ≡ true
      → record_at s image slot ≡ Some one.held
  held_there slot one = read_inside s one.closed cur dur image slot one.held p one.stands

  given : (slot : ℕ) (r : Held) → unit_of_slot s slot ≡ unit → record_at s image slot ≡ Some r
      → Contains records r × (r.label.epoch ≤ cut_of image)
  given slot r of_unit e = ⊎_elim
      (λ (none : HasNone (cut_of image) records cur dur slot).
      let unread = slots_outside_are_unread s cur dur image slot p none.outside in absurd (cc))
      (λ (one : HasOne s (cut_of image) records closing cur dur slot).
      let inside = some_inside s image slot r e in
      let same : one.held ≡ r = same_Some one.held r (sym (held_there slot one inside) ∙ e) in
      subst (λ (q : Held). Contains records q × (q.label.epoch ≤ cut_of image)) same
      (one.listed, low_inside s one.closed cur dur image slot one.held p one.stands inside))
      (k.each slot of_unit)

  one_of : (r : Held) → Contains records r → HasOne s (cut_of image) records closing cur dur r.slot
  one_of r h = ⊎_elim
      (λ (none : HasNone (cut_of image) records cur dur r.slot). absurd (none.none r h refl))
      (λ (one : HasOne s (cut_of image) records closing cur dur r.slot). one)
      (k.each r.slot (k.of_unit r h))

  read_of_record : (r : Held) → Contains records r → is_in_cut image r.slot ≡ true → record_at s image r.slot ≡ Some r
  read_of_record r h inside =
      let one = one_of r h in held_there r.slot one inside ∙ ap Some (sym (one.only r h refl))

  -- a record up to the cut is within the image's cut unless it is the closing one
  stays_inside : (r : Held) → Contains records r → r.label.epoch ≤ cut_of image → closing ≢ Some r.slot
      → is_in_cut image r.slot ≡ true
  stays_inside r h low stays =
      let one = one_of r h in
      let same : r.label.epoch ≡ one.held.label.epoch = ap (λ (q : Held). q.label.epoch) (one.only r h refl) in
      open_inside s one.closed cur dur image r.slot one.held p one.stands
      (false_from_ne_true one.closed (λ e. stays (one.closes e))) (omega arith)

  record_of_read : (r : Held) → Contains (records_of s image unit) r
      → Contains records r × (r.label.epoch ≤ cut_of image) × (is_in_cut image r.slot ≡ true)
  record_of_read r h =
      let at = read_of_listed s image unit r some h in
      let is = given r.slot r at.0 at.1 in (is.0, is.1, some_inside s image r.slot r at.1)

  listed_inside : (r : Held) → Contains records r → is_in_cut image r.slot ≡ true → Contains (records_of s image unit) r
  listed_inside r h inside = listed_of_read s image unit r some (k.of_unit r h, read_of_record r h inside)

  -- all of them are read
  all_read : ((r : Held) → Contains records r → r.label.epoch ≤ cut_of image → is_in_cut image r.slot ≡ true)
      → AreSameRecords (records_of s image unit) (cut_records (cut_of image) records)
  all_read inside r = (
    λ h. let is = record_of_read r h in cut_records_from (cut_of image) records r is.0 is.1,
    λ h. let is = in_cut_records (cut_of image) records r h in listed_inside r is.0 (inside r is.0 is.1),
  )

  -- or all but the one of this slot
  others_read : (slot : ℕ) → is_in_cut image slot ≡ false
      → ((r : Held) → Contains records r → r.label.epoch ≤ cut_of image → r.slot ≢ slot → is_in_cut image r.slot ≡ true)
      → AreSameRecords (records_of s image unit) (cut_records (cut_of image) (without_slot slot records))
  others_read slot out inside r = (
    λ h. let is = record_of_read r h in
        let other : r.slot ≢ slot = λ e. both_ways (is_in_cut image slot) out (subst (λ (n : ℕ). is_in_cut image n ≡ true) e is.2) in
        cut_records_from (cut_of image) (without_slot slot records) r (stays r slot records is.0 other) is.1,
    λ h. let is = in_cut_records (cut_of image) (without_slot slot records) r h in
        let apart = stayed r slot records is.0 in
        listed_inside r apart.0 (inside r apart.0 is.1 apart.1),
  )

  by_closing : (o : Option ℕ) → closing ≡ o → IsCutOf (cut_of image) records closing (records_of s image unit)
  by_closing None e = inl (all_read (λ r h low. stays_inside r h low (λ c. cc)))
  by_closing (Some slot) e = ⊎_elim
      (λ (seen : is_in_cut image slot ≡ true). inl (all_read (λ r h low. ⊎_elim
      (λ (here : r.slot ≡ slot). ap (is_in_cut image) here ∙ seen)
      (λ (other : r.slot ≢ slot). stays_inside r h low (stays r.slot other))
      (cases_eq r.slot slot))))
      (λ (out : is_in_cut image slot ≡ false).
      inr (slot, e, others_read slot out (λ r h low other. stays_inside r h low (stays r.slot other))))
      (cases_Bool (is_in_cut image slot))
    where
      stays : (n : ℕ) → n ≢ slot → closing ≢ Some n
      stays n other c = other (sym (same_Some slot n (sym e ∙ c)))

  -- each slot within the cut is read
  readable : (slot : ℕ) → unit_of_slot s slot ≡ unit → is_in_cut image slot ≡ true → IsRead (reading unit (words_at image slot))
  readable slot of_unit inside = ⊎_elim
      (λ (none : HasNone (cut_of image) records cur dur slot).
      absurd (both_ways (is_in_cut image slot) (lies_outside cur dur image slot p none.outside) inside))
      (λ (one : HasOne s (cut_of image) records closing cur dur slot).
      let words = words_inside s one.closed cur dur image slot one.held p one.stands inside in
      let valid = one.stands.valid in
      subst IsRead (sym (ap (reading unit) words
      ∙ reading-slot_words unit one.held.label one.held.body valid.label (valid.of_unit ∙ of_unit))) tt)
      (k.each slot of_unit)

-- two of the records that are read are different ones, and so are their versions
apart_by_members : (records read : List Held) → AllPairs HasLowerSlot read → ((r : Held) → Contains read r → Contains records r)
    → AllPairs DiffersFrom records → AllPairs DiffersFrom read
apart_by_members records read rising listed apart i j d low high = ⊎_elim
    (λ (same : r ≡ q).
    let slots : r.slot ≡ q.slot = ap (λ (x : Held). x.slot) same in
    let below : r.slot < q.slot = rising i j d low high in
    absurd (omega arith))
    (λ (h : DiffersFrom r q ⊎ DiffersFrom q r). ⊎_elim
    (λ (differ : DiffersFrom r q). differ)
    (λ (differ : DiffersFrom q r) same. differ (sym same.0, sym same.1))
    h)
    (pair_cases DiffersFrom records r q apart
    (listed r (Contains-get_or read i d (omega arith)))
    (listed q (Contains-get_or read j d high)))
  where
    r : Held
    r = get_or read i d

    q : Held
    q = get_or read j d

pub images_have_cuts : ImagesHaveCuts
images_have_cuts s records closing cur dur image unit some p k = record {
  readable = readable s records closing cur dur image unit some p k;
  cut = by_closing s records closing cur dur image unit some p k closing refl;
  apart = apart_by_members records (records_of s image unit) (records_are_listed s image unit some).rising
      (λ r h. (record_of_read s records closing cur dur image unit some p k r h).0);
}
