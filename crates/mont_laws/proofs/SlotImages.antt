-- What an image that a crash permits has of a slot.
use Rattle.std.proofs.Common.{◌≡◌, ℕ, zero, suc, ◌-◌, ◌<◌, ◌≤◌, ◌⊎◌, List, [], ◌∷◌, length, take, drop, get_or, min, sym, refl, ap, ◌∙◌, subst, inl, inr, ⊎_elim, arith, Bool, true, false}
use Rattle.std.specs.Prelude.{Option, Some, None, nat_le, if◌then◌else◌}
use Rattle.std.proofs.lemmas.Bool.{cases_lt, cases_Bool, and_parts, and_from, leb-true, le-leb, both_ways, false_from_ne_true}
use Rattle.std.proofs.lemmas.List.{get_or_past, length-take, length-drop, ext_get_or}
use Rattle.mont_base.specs.declared.constants.TheConstants.{FIELDS}
use Rattle.mont_base.specs.declared.record.Held.{Held}
use Rattle.mont_base.specs.Layout.{Shape, word_of, unit_of_slot}
use Rattle.mont_base.specs.Record.{reading}
use Rattle.mont_base.specs.Image.{IsPermitted, cut_of, words_at, epoch_at, is_in_cut, record_read, record_at}
use Rattle.mont_laws.specs.SlotReadings.{held_words, IsRecordOf}
use Rattle.mont_laws.specs.SlotImages.{ImagesHaveParts, IsOutside, LiesOutside, SlotsOutsideAreUnread, KeepsFields, EpochsShowRecords, IsEpochOf, closed_if, StandsAt, RecordsAreReadOrNothing, DurableRecordsStand}
use Rattle.mont_laws.proofs.SlotReadings.{reading-slot_words}
use Rattle.mont_laws.proofs.SlotWords.{word_at, first_at}

-- ---- words by places, also after the end
pub each_word : (cur dur image : List ℕ) (w : ℕ) → IsPermitted cur dur image
    → (get_or image w 0 ≡ get_or cur w 0) ⊎ (get_or image w 0 ≡ get_or dur w 0)
each_word cur dur image w p = ⊎_elim
    (λ (low : w < length image). p.each w low)
    (λ (past : length image ≤ w). let long = p.as_long in inl (get_or_past image w 0 past ∙ sym (get_or_past cur w 0 (omega arith))))
    (cases_lt w (length image))

length-piece : (words others : List ℕ) (n k : ℕ) → length words ≡ length others
    → length (take n (drop k words)) ≡ length (take n (drop k others))
length-piece words others n k same =
    length-take n (drop k words)
    ∙ ap (min n) (length-drop k words ∙ ap (λ (l : ℕ). l - k) same ∙ sym (length-drop k others))
    ∙ sym (length-take n (drop k others))

few_words : (words : List ℕ) (n k i : ℕ) → i < length (take n (drop k words)) → i < n
few_words words n k i low = omega (arith, length-take n (drop k words))

pub slot_permitted : (cur dur image : List ℕ) (slot : ℕ) → IsPermitted cur dur image
    → IsPermitted (words_at cur slot) (words_at dur slot) (words_at image slot)
slot_permitted cur dur image slot p = record {
  as_long = length-piece image cur FIELDS (word_of slot 0) p.as_long;
  each = λ field low.
      let few = few_words image FIELDS (word_of slot 0) field low in
      ⊎_elim
      (λ (e : get_or image (word_of slot field) 0 ≡ get_or cur (word_of slot field) 0).
      inl (word_at image slot field few ∙ e ∙ sym (word_at cur slot field few)))
      (λ (e : get_or image (word_of slot field) 0 ≡ get_or dur (word_of slot field) 0).
      inr (word_at image slot field few ∙ e ∙ sym (word_at dur slot field few)))
      (each_word cur dur image (word_of slot field) p);
}

pub images_have_parts : ImagesHaveParts
images_have_parts cur dur image p = record {
  slots = λ slot. slot_permitted cur dur image slot p;
  clock = each_word cur dur image 0 p;
}

-- ---- the cut
pub in_cut : (image : List ℕ) (slot : ℕ) → is_in_cut image slot ≡ true
    → (1 ≤ epoch_at image slot) × (epoch_at image slot ≤ cut_of image)
in_cut image slot e =
    let parts = and_parts (nat_le 1 (epoch_at image slot)) (nat_le (epoch_at image slot) (cut_of image)) e in
    (leb-true 1 (epoch_at image slot) parts.0, leb-true (epoch_at image slot) (cut_of image) parts.1)

pub in_cut_from : (image : List ℕ) (slot : ℕ) → 1 ≤ epoch_at image slot
    → epoch_at image slot ≤ cut_of image → is_in_cut image slot ≡ true
in_cut_from image slot some low = and_from (nat_le 1 (epoch_at image slot)) (nat_le (epoch_at image slot) (cut_of image))
    (le-leb 1 (epoch_at image slot) some) (le-leb (epoch_at image slot) (cut_of image) low)

pub outside_cut : (image : List ℕ) (slot : ℕ) → IsOutside (cut_of image) (epoch_at image slot) → is_in_cut image slot ≡ false
outside_cut image slot out = false_from_ne_true (is_in_cut image slot) (λ e. let range = in_cut image slot e in
    let some = range.0 in let low = range.1 in ⊎_elim
    (λ (z : epoch_at image slot ≡ 0). omega arith)
    (λ (h : cut_of image < epoch_at image slot). omega arith)
    out)

pub outside_from : (image : List ℕ) (slot : ℕ) → is_in_cut image slot ≡ false → IsOutside (cut_of image) (epoch_at image slot)
outside_from image slot e = ⊎_elim
    (λ (z : epoch_at image slot < 1). inl (omega arith))
    (λ (some : 1 ≤ epoch_at image slot). ⊎_elim
    (λ (h : cut_of image < epoch_at image slot). inr h)
    (λ (low : epoch_at image slot ≤ cut_of image). absurd (both_ways (is_in_cut image slot) e (in_cut_from image slot some low)))
    (cases_lt (cut_of image) (epoch_at image slot)))
    (cases_lt (epoch_at image slot) 1)

-- what is read of a slot, by whether it is within the cut
abbrev read_if : Shape → List ℕ → ℕ → Bool → Option Held
read_if s image slot b = if b then record_read slot (reading (unit_of_slot s slot) (words_at image slot)) else None

pub none_outside : (s : Shape) (image : List ℕ) (slot : ℕ) → is_in_cut image slot ≡ false → record_at s image slot ≡ None
none_outside s image slot e = ap (read_if s image slot) e

pub some_inside : (s : Shape) (image : List ℕ) (slot : ℕ) (r : Held) → record_at s image slot ≡ Some r → is_in_cut image slot ≡ true
some_inside s image slot r e = go (is_in_cut image slot) e
  where
    go : (b : Bool) → read_if s image slot b ≡ Some r → b ≡ true
    go true e = refl
    go false e = absurd (cc)

pub record_inside : (s : Shape) (image : List ℕ) (slot : ℕ) (r : Held) → IsRecordOf (unit_of_slot s slot) r → r.slot ≡ slot
    → is_in_cut image slot ≡ true → words_at image slot ≡ held_words r → record_at s image slot ≡ Some r
record_inside s image slot r valid there inside words =
    ap (read_if s image slot) inside
    ∙ ap (λ (ws : List ℕ). record_read slot (reading (unit_of_slot s slot) ws)) words
    ∙ ap (record_read slot) (reading-slot_words (unit_of_slot s slot) r.label r.body valid.label valid.of_unit)
    ∙ ap (λ (n : ℕ). Some (record r { slot = n })) (sym there)

-- ---- a slot outside the cut
-- what holds of both words holds of the image's
pub either_word : (P : ℕ → Type 0) (cur dur image : List ℕ) (w : ℕ) → IsPermitted cur dur image
    → P (get_or cur w 0) → P (get_or dur w 0) → P (get_or image w 0)
either_word P cur dur image w p a b = ⊎_elim
    (λ (e : get_or image w 0 ≡ get_or cur w 0). subst P (sym e) a)
    (λ (e : get_or image w 0 ≡ get_or dur w 0). subst P (sym e) b)
    (each_word cur dur image w p)

pub lies_outside : (cur dur image : List ℕ) (slot : ℕ) → IsPermitted cur dur image → LiesOutside (cut_of image) cur dur slot
    → is_in_cut image slot ≡ false
lies_outside cur dur image slot p out = outside_cut image slot
    (either_word (IsOutside (cut_of image)) cur dur image (word_of slot 0) p out.in_current out.in_durable)

pub slots_outside_are_unread : SlotsOutsideAreUnread
slots_outside_are_unread s cur dur image slot p out = none_outside s image slot (lies_outside cur dur image slot p out)

-- ---- a slot with a record's words after the first
get_behind : (words : List ℕ) (i : ℕ) → get_or words (suc i) 0 ≡ get_or (drop 1 words) i 0
get_behind [] i = refl
get_behind (w ∷ words) i = refl

same_behind : (words others : List ℕ) (i : ℕ) → drop 1 words ≡ drop 1 others → get_or words (suc i) 0 ≡ get_or others (suc i) 0
same_behind words others i e = get_behind words i ∙ ap (λ (l : List ℕ). get_or l i 0) e ∙ sym (get_behind others i)

length-behind : (words others : List ℕ) → drop 1 words ≡ drop 1 others → 2 ≤ length others → length words ≡ length others
length-behind words others e some =
    let same : length words - 1 ≡ length others - 1 = sym (length-drop 1 words) ∙ ap length e ∙ length-drop 1 others in omega arith

-- words between two lists that have these words after the first are these words, where the first one is
pub whole_by_first : (cur dur image whole : List ℕ) → IsPermitted cur dur image → 2 ≤ length whole
    → drop 1 cur ≡ drop 1 whole → drop 1 dur ≡ drop 1 whole
    → get_or image 0 0 ≡ get_or whole 0 0 → image ≡ whole
whole_by_first cur dur image whole p some current durable first =
    ext_get_or 0 image whole (p.as_long ∙ length-behind cur whole current some) at
  where
    at : (i : ℕ) → i < length image → get_or image i 0 ≡ get_or whole i 0
    at zero low = first
    at (suc i) low = either_word (λ (w : ℕ). w ≡ get_or whole (suc i) 0) cur dur image (suc i) p
        (same_behind cur whole i current) (same_behind dur whole i durable)

pub epochs_show_records : EpochsShowRecords
epochs_show_records cur dur image slot r p k epoch = whole_by_first
    (words_at cur slot) (words_at dur slot) (words_at image slot) (held_words r)
    (slot_permitted cur dur image slot p) (omega arith) k.in_current k.in_durable (first_at image slot ∙ epoch)

-- ---- a record that stands in a slot
closed_behind : (closed : Bool) (words : List ℕ) → drop 1 (closed_if closed words) ≡ drop 1 words
closed_behind true [] = refl
closed_behind true (w ∷ words) = refl
closed_behind false words = refl

closed_epoch : (closed : Bool) (r : Held) → IsEpochOf r (get_or (closed_if closed (held_words r)) 0 0)
closed_epoch true r = inl refl
closed_epoch false r = inr refl

epoch_of_words : (words whole : List ℕ) (slot : ℕ) → words_at words slot ≡ whole → epoch_at words slot ≡ get_or whole 0 0
epoch_of_words words whole slot is = sym (first_at words slot) ∙ ap (λ (l : List ℕ). get_or l 0 0) is

module _ (s : Shape) (closed : Bool) (cur dur image : List ℕ) (slot : ℕ) (r : Held)
    (p : IsPermitted cur dur image) (k : StandsAt s (cut_of image) closed cur dur slot r) where
  current_epoch : epoch_at cur slot ≡ get_or (closed_if closed (held_words r)) 0 0
  current_epoch = epoch_of_words cur (closed_if closed (held_words r)) slot k.in_current

  -- the image's epoch is closed or the record's
  pub image_epoch : IsEpochOf r (epoch_at image slot)
  image_epoch = either_word (IsEpochOf r) cur dur image (word_of slot 0) p
      (subst (IsEpochOf r) (sym current_epoch) (closed_epoch closed r)) k.durable_epoch

  pub words_inside : is_in_cut image slot ≡ true → words_at image slot ≡ held_words r
  words_inside e = let range = in_cut image slot e in let some = range.0 in let low = range.1 in ⊎_elim
      (λ (z : epoch_at image slot ≡ 0). absurd (omega arith))
      (λ (is : epoch_at image slot ≡ r.label.epoch).
      let fields : KeepsFields cur dur slot r = record {
        in_current = ap (drop 1) k.in_current ∙ closed_behind closed (held_words r);
        in_durable = ap (drop 1) (k.in_durable (omega arith));
      } in
      epochs_show_records cur dur image slot r p fields is)
      image_epoch

  pub read_inside : is_in_cut image slot ≡ true → record_at s image slot ≡ Some r
  read_inside e = record_inside s image slot r k.valid k.there e (words_inside e)

  pub low_inside : is_in_cut image slot ≡ true → r.label.epoch ≤ cut_of image
  low_inside e = let range = in_cut image slot e in let some = range.0 in let low = range.1 in ⊎_elim
      (λ (z : epoch_at image slot ≡ 0). absurd (omega arith))
      (λ (is : epoch_at image slot ≡ r.label.epoch). omega arith)
      image_epoch

  by_cut : (b : Bool) → is_in_cut image slot ≡ b → record_at s image slot ≡ (if b then Some r else None)
  by_cut true e = read_inside e
  by_cut false e = none_outside s image slot e

  pub open_inside : closed ≡ false → r.label.epoch ≤ cut_of image → is_in_cut image slot ≡ true
  open_inside is_open low =
      let some = k.valid.label.some_epoch in
      let whole = ap (λ (b : Bool). get_or (closed_if b (held_words r)) 0 0) is_open in
      let is : epoch_at image slot ≡ r.label.epoch = either_word (λ (w : ℕ). w ≡ r.label.epoch) cur dur image (word_of slot 0) p
      (current_epoch ∙ whole) (epoch_of_words dur (held_words r) slot (k.in_durable low)) in
      in_cut_from image slot (omega arith) (omega arith)

  outside_beyond : cut_of image < r.label.epoch → is_in_cut image slot ≡ false
  outside_beyond high = outside_cut image slot (⊎_elim
      (λ (z : epoch_at image slot ≡ 0). inl z)
      (λ (is : epoch_at image slot ≡ r.label.epoch). inr (omega arith))
      image_epoch)

pub records_are_read_or_nothing : RecordsAreReadOrNothing
records_are_read_or_nothing s closed cur dur image slot r p k = record {
  words = words_inside s closed cur dur image slot r p k;
  by_cut = by_cut s closed cur dur image slot r p k (is_in_cut image slot) refl;
  either = ⊎_elim
      (λ (e : is_in_cut image slot ≡ true). inl (read_inside s closed cur dur image slot r p k e))
      (λ (e : is_in_cut image slot ≡ false). inr (none_outside s image slot e))
      (cases_Bool (is_in_cut image slot));
  whole = λ is_open low.
      read_inside s closed cur dur image slot r p k (open_inside s closed cur dur image slot r p k is_open low);
  beyond = λ high. none_outside s image slot (outside_beyond s closed cur dur image slot r p k high);
}

pub durable_records_stand : DurableRecordsStand
durable_records_stand s cut closed cur dur slot r valid there current durable = record {
  valid = valid;
  there = there;
  in_current = current;
  durable_epoch = inr (epoch_of_words dur (held_words r) slot durable);
  in_durable = λ low. durable;
}
