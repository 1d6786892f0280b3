-- Recovery's list of a unit's records, by its members.
use Rattle.std.proofs.Common.{◌≡◌, ℕ, zero, suc, ◌+◌, ◌*◌, ◌<◌, ◌≤◌, List, [], ◌∷◌, sym, refl, ap, ◌∙◌, ⊎_elim, arith, Bool, true, false}
use Rattle.std.specs.Prelude.{Option, Some, None, Result, Ok, Err, AllPairs, if◌then◌else◌}
use Rattle.std.specs.List.{Contains, filter_map, cons_option, range_with_len}
use Rattle.std.proofs.lemmas.List.Elements.{All-contains}
use Rattle.std.proofs.lemmas.List.Kept.{AllPairs-cons}
use Rattle.std.proofs.lemmas.Option.{same_Some}
use Rattle.mont_base.specs.declared.record.Held.{Held}
use Rattle.mont_base.specs.declared.record.Label.{Label}
use Rattle.mont_base.specs.declared.record.SlotFault.{SlotFault}
use Rattle.mont_base.specs.Layout.{Shape, unit_of_slot}
use Rattle.mont_base.specs.Record.{reading}
use Rattle.mont_base.specs.Image.{words_at, is_in_cut, record_read, record_at, slots_of, records_of}
use Rattle.mont_laws.specs.UnitRecords.{IsReadAt, HasLowerSlot, RecordsAreListed, RecordsAreListedOnce, AlikeImagesGiveOneList}
use Rattle.mont_laws.proofs.Members.{no_element, first_element, later_element, element_cases, pairs_head, pairs_tail, all_elements}
use Rattle.mont_laws.proofs.Mapped.{mapped_from, mapped_to, filter_map_agree, range_bounds}
use Rattle.mont_laws.proofs.UnitSlots.{unit_of_member, member_of_unit}

-- ---- what is read of a slot stands at that slot
slot_of_read : (slot : ℕ) (o : Result (Option (Label × List ℕ)) SlotFault) (r : Held) → record_read slot o ≡ Some r → r.slot ≡ slot
slot_of_read slot (Err x) r e = absurd (cc)
slot_of_read slot (Ok None) r e = absurd (cc)
slot_of_read slot (Ok (Some v)) r e = sym (ap (λ (q : Held). q.slot) (same_Some (record { slot = slot; label = v.0; body = v.1 }) r e))

pub slot_of_record : (s : Shape) (image : List ℕ) (slot : ℕ) (r : Held) → record_at s image slot ≡ Some r → r.slot ≡ slot
slot_of_record s image slot r e = go (is_in_cut image slot) e
  where
    go : (b : Bool) → (if b then record_read slot (reading (unit_of_slot s slot) (words_at image slot)) else None) ≡ Some r → r.slot ≡ slot
    go true e = slot_of_read slot (reading (unit_of_slot s slot) (words_at image slot)) r e
    go false e = absurd (cc)

-- ---- members and order
module _ (s : Shape) (image : List ℕ) where
  pub read_of_listed : (unit : ℕ) (r : Held) → 1 ≤ s.slots → Contains (records_of s image unit) r → IsReadAt s image unit r
  read_of_listed unit r some h =
      let at = mapped_from (record_at s image) r (slots_of s unit) h in
      let there = slot_of_record s image at.0 r at.2 in
      (ap (unit_of_slot s) there ∙ unit_of_member s unit at.0 some at.1, ap (record_at s image) there ∙ at.2)

  pub listed_of_read : (unit : ℕ) (r : Held) → 1 ≤ s.slots → IsReadAt s image unit r → Contains (records_of s image unit) r
  listed_of_read unit r some at =
      mapped_to (record_at s image) r.slot r (slots_of s unit) (member_of_unit s unit r.slot some at.0) at.1

  rising_from : (a n : ℕ) → AllPairs HasLowerSlot (filter_map (record_at s image) (range_with_len a n))
  rising_from a zero = λ i j d low high. absurd (omega arith)
  rising_from a (suc n) = go (record_at s image a) refl (rising_from (a + 1) n)
    where
      later : List Held
      later = filter_map (record_at s image) (range_with_len (a + 1) n)

      above : (r : Held) → r.slot ≡ a → (q : Held) → Contains later q → r.slot < q.slot
      above r there q h =
          let at = mapped_from (record_at s image) q (range_with_len (a + 1) n) h in
          let bounds = range_bounds at.0 (a + 1) n at.1 in
          let low = bounds.0 in
          let place = slot_of_record s image at.0 q at.2 in
          omega arith

      go : (o : Option Held) → record_at s image a ≡ o → AllPairs HasLowerSlot later → AllPairs HasLowerSlot (cons_option o later)
      go None e rising = rising
      go (Some r) e rising =
          AllPairs-cons HasLowerSlot r later (all_elements (HasLowerSlot r) later (above r (slot_of_record s image a r e))) rising

pub records_are_listed : RecordsAreListed
records_are_listed s image unit some = record {
  members = λ r. (read_of_listed s image unit r some, listed_of_read s image unit r some);
  rising = rising_from s image (unit * s.slots) s.slots;
}

-- two lists that rise and have the same members are one
module _ where
  below : (r : Held) (rs : List Held) (q : Held) → AllPairs HasLowerSlot (r ∷ rs) → Contains rs q → r.slot < q.slot
  below r rs q rising h = All-contains (HasLowerSlot r) rs q (pairs_head HasLowerSlot r rs rising) h

  -- of two rising lists with the same first element, what stands after it in one stands after it in the other
  behind : (r : Held) (rs : List Held) (x : Held) → AllPairs HasLowerSlot (r ∷ rs) → Contains rs x
      → (q : Held) (qs : List Held) → r ≡ q → Contains (q ∷ qs) x → Contains qs x
  behind r rs x rising h q qs same there = ⊎_elim
      (λ (e : x ≡ q).
      let low = below r rs x rising h in
      let equal : r.slot ≡ x.slot = ap (λ (y : Held). y.slot) (same ∙ sym e) in
      absurd (omega arith))
      (λ (k : Contains qs x). k)
      (element_cases q qs x there)

  pub one_rising : (rs qs : List Held) → AllPairs HasLowerSlot rs → AllPairs HasLowerSlot qs
      → ((r : Held) → Contains rs r → Contains qs r) → ((r : Held) → Contains qs r → Contains rs r) → rs ≡ qs
  one_rising [] [] rise grow to from = refl
  one_rising [] (q ∷ qs) rise grow to from = absurd (no_element q (from q (first_element q qs)))
  one_rising (r ∷ rs) [] rise grow to from = absurd (no_element r (to r (first_element r rs)))
  one_rising (r ∷ rs) (q ∷ qs) rise grow to from =
      ap (λ (x : Held). x ∷ rs) first
      ∙ ap (λ (xs : List Held). q ∷ xs) (one_rising rs qs (pairs_tail HasLowerSlot r rs rise) (pairs_tail HasLowerSlot q qs grow)
      (λ x h. behind r rs x rise h q qs first (to x (later_element r rs x h)))
      (λ x h. behind q qs x grow h r rs (sym first) (from x (later_element q qs x h))))
    where
      first : r ≡ q
      first = ⊎_elim
          (λ (e : r ≡ q). e)
          (λ (h : Contains qs r). ⊎_elim
          (λ (e : q ≡ r). sym e)
          (λ (k : Contains rs q). let low = below r rs q rise k in let high = below q qs r grow h in absurd (omega arith))
          (element_cases r rs q (from q (first_element q qs))))
          (element_cases q qs r (to r (first_element r rs)))

pub records_are_listed_once : RecordsAreListedOnce
records_are_listed_once s image unit records some k =
    let own = records_are_listed s image unit some in
    one_rising (records_of s image unit) records own.rising k.rising
    (λ r h. (k.members r).1 ((own.members r).0 h))
    (λ r h. (own.members r).1 ((k.members r).0 h))

pub alike_images_give_one_list : AlikeImagesGiveOneList
alike_images_give_one_list s image other unit some same =
    filter_map_agree (record_at s image) (record_at s other) (slots_of s unit)
    (λ slot h. same slot (unit_of_member s unit slot some h))
