-- The records that the readers of a region give are those of its unit.
use Rattle.std.proofs.Common.{◌≡◌, ℕ, ◌+◌, ◌*◌, ◌<◌, ◌≤◌, List, [], ◌∷◌, ◌++◌, sym, refl, ap, ◌∙◌, subst, arith, Bool, true, false, cond, inl, inr}
use Rattle.std.specs.Prelude.{◌==◌, ◌↔◌, Option, Some, None, option_to_list, if◌then◌else◌}
use Rattle.std.specs.List.{Contains}
use Rattle.std.proofs.lemmas.Bool.{cases_lt, eq-eqb}
use Rattle.std.proofs.lemmas.Bool.Decides.{nat_tests}
use Rattle.std.proofs.lemmas.List.Elements.{Contains-append_left, Contains-append_right, Contains-append_cases}
use Rattle.std.proofs.lemmas.List.Sums.{sum_by-cons}
use Rattle.std.proofs.lemmas.Option.{same_Some}
use Rattle.mont_base.specs.declared.record.Held.{Held}
use Rattle.mont_base.specs.Layout.{Shape, unit_of_slot}
use Rattle.mont_laws.proofs.Apart.{same_slot}
use Rattle.mont_laws.proofs.Mapped.{range_bounds}
use Rattle.mont_laws.proofs.Members.{no_element, first_element, later_element, element_cases}
use Rattle.mont_laws.proofs.Newest.{IsNewest, newest_is, newest_same}
use Rattle.mont_laws.proofs.UnitSlots.{member_of_unit}
use Rattle.core_answer.specs.Newest.{HaveSameNewest}
use Rattle.slots.specs.Books.{RegionShown, Agrees, record_in, slots_in, times}

-- ---- the record in a slot
-- what is found is a record, and stands in that slot
find_shows : (rs : List Held) (slot : ℕ) (r : Held) → record_in rs slot ≡ Some r → Contains rs r × (r.slot ≡ slot)
find_shows [] slot r e = absurd (cc)
find_shows (q ∷ rs) slot r e = by (q.slot == slot) refl e (find_shows rs slot r)
  where
    by : (t : Bool) → (q.slot == slot) ≡ t → cond t (Some q) (record_in rs slot) ≡ Some r
        → (record_in rs slot ≡ Some r → Contains rs r × (r.slot ≡ slot)) → Contains (q ∷ rs) r × (r.slot ≡ slot)
    by true f e ih =
        let same : q ≡ r = same_Some q r e in
        let here : q.slot ≡ slot = grind (arith, nat_tests) in
        (subst (Contains (q ∷ rs)) same (first_element q rs), ap (λ (p : Held). p.slot) (sym same) ∙ here)
    by false f e ih = let b = ih e in (later_element q rs r b.0, b.1)

-- where a record stands, one is found
found_some : (rs : List Held) (r : Held) → Contains rs r → (q : Held) × (record_in rs r.slot ≡ Some q)
found_some [] r c = absurd (no_element r c)
found_some (p ∷ rs) r c = by (p.slot == r.slot) refl (λ k. found_some rs r k)
  where
    by : (t : Bool) → (p.slot == r.slot) ≡ t → (Contains rs r → (q : Held) × (record_in rs r.slot ≡ Some q))
        → (q : Held) × (cond t (Some p) (record_in rs r.slot) ≡ Some q)
    by true f behind = (p, refl)
    by false f behind = elim (element_cases p rs r c) [
      | inl e ↦ let same : (p.slot == r.slot) ≡ true = eq-eqb p.slot r.slot (ap (λ (q : Held). q.slot) (sym e)) in absurd (cc)
      | inr k ↦ behind k
    ]

only_one : (o : Option Held) (r : Held) → Contains (option_to_list o) r → o ≡ Some r
only_one None r c = absurd (no_element r c)
only_one (Some q) r c = elim (element_cases q [] r c) [ inl e ↦ ap Some (sym e) | inr k ↦ absurd (no_element r k) ]

-- a record's slot stands among those of all
slot_counted : (rs : List Held) (r : Held) → Contains rs r → 1 ≤ times r.slot (slots_in rs)
slot_counted [] r c = absurd (no_element r c)
slot_counted (q ∷ rs) r c =
    let more : times r.slot (q.slot ∷ slots_in rs) ≡ (if q.slot == r.slot then 1 else 0) + times r.slot (slots_in rs) =
    sum_by-cons (λ (s : ℕ). if s == r.slot then 1 else 0) q.slot (slots_in rs) in
    elim (element_cases q rs r c) [
      | inl e ↦
          let same : (q.slot == r.slot) ≡ true = eq-eqb q.slot r.slot (ap (λ (p : Held). p.slot) (sym e)) in
          let count : Bool → ℕ = λ t. if t then 1 else 0 in
          let one : count (q.slot == r.slot) ≡ count true = ap count same in omega (arith, more, one)
      | inr k ↦ let rest = slot_counted rs r k in omega (arith, more, rest)
    ]

-- ---- the records of a region
-- those of the slots below one
pub record AreRecordsBelow (r : RegionShown) (slot : ℕ) (found : List Held) : Type 0 where
  pub each : (q : Held) → Contains found q ↔ (Contains r.seat.known.part.records q × (q.slot < slot))

-- where the slots of a unit begin
pub first_is : (r : RegionShown) (s : Shape) (unit slots : ℕ) → r.books.layout ≡ s → unit ≡ r.books.unit → slots ≡ s.slots
    → unit * slots ≡ r.books.unit * r.books.layout.slots
first_is r s unit slots same of_unit many = let some : r.books.layout.slots ≡ s.slots = ap (λ (x : Shape). x.slots) same in cc

module _ (r : RegionShown) (agrees : Agrees r) where
  abbrev records : List Held
  records = r.seat.known.part.records

  found_there : (q : Held) → Contains records q → record_in records q.slot ≡ Some q
  found_there q c =
      let some = found_some records q c in
      let shows = find_shows records q.slot some.0 some.1 in
      some.1 ∙ ap Some (same_slot records agrees.1.apart some.0 q shows.0 c shows.1)

  -- they stand in the unit's slots
  own_slot : (q : Held) → Contains records q → unit_of_slot r.books.layout q.slot ≡ r.books.unit
  own_slot q c = by (unit_of_slot r.books.layout q.slot == r.books.unit) refl
    where
      by : (t : Bool) → (unit_of_slot r.books.layout q.slot == r.books.unit) ≡ t
          → unit_of_slot r.books.layout q.slot ≡ r.books.unit
      by true e = grind (arith, nat_tests)
      by false e =
          let none : (if unit_of_slot r.books.layout q.slot == r.books.unit then 1 else 0) ≡ 0 =
          ap (λ (t : Bool). if t then 1 else 0) e in
          let all = agrees.1.slots.each q.slot ∙ none in
          let one = slot_counted records q c in absurd (omega (arith, all, one))

  within : (q : Held) → Contains records q
      → (r.books.unit * r.books.layout.slots ≤ q.slot) × (q.slot < r.books.unit * r.books.layout.slots + r.books.layout.slots)
  within q c =
      let many = agrees.1.own.layout.some_slots in
      range_bounds q.slot (r.books.unit * r.books.layout.slots) r.books.layout.slots
      (member_of_unit r.books.layout r.books.unit q.slot (omega (arith, many)) (own_slot q c))

  pub none_below : (first : ℕ) (found : List Held) → found ≡ [] → first ≡ r.books.unit * r.books.layout.slots
      → AreRecordsBelow r first found
  none_below first found none is = record {
    each = λ q. (
      λ c. absurd (no_element q (subst (λ (l : List Held). Contains l q) none c)),
      λ both. let low = (within q both.0).0 in let high = both.1 in absurd (omega (arith, low, high, is)),
    );
  }

  pub more_below : (slot : ℕ) (found more : List Held) (o : Option Held) → AreRecordsBelow r slot found → o ≡ record_in records slot
      → more ≡ found ++ option_to_list o → AreRecordsBelow r (slot + 1) more
  more_below slot found more o below is e = record { each = λ q. (forth q, back q) }
    where
      forth : (q : Held) → Contains more q → Contains records q × (q.slot < slot + 1)
      forth q c = elim (Contains-append_cases found (option_to_list o) q (subst (λ (l : List Held). Contains l q) e c)) [
        | inl k ↦ let b = (below.each q).0 k in let low = b.1 in (b.0, omega (arith, low))
        | inr k ↦ let b = find_shows records slot q (sym is ∙ only_one o q k) in let at = b.1 in (b.0, omega (arith, at))
      ]

      back : (q : Held) → Contains records q × (q.slot < slot + 1) → Contains more q
      back q both = subst (λ (l : List Held). Contains l q) (sym e) (elim (cases_lt q.slot slot) [
        | inl low ↦ Contains-append_left found (option_to_list o) q ((below.each q).1 (both.0, low))
        | inr high ↦
            let bound = both.1 in
            let at : q.slot ≡ slot = omega (arith, bound, high) in
            let here : o ≡ Some q = is ∙ subst (λ (n : ℕ). record_in records n ≡ Some q) at (found_there q both.0) in
            Contains-append_right found (option_to_list o) q
            (subst (λ (x : Option Held). Contains (option_to_list x) q) (sym here) (first_element q []))
      ])

  pub all_below : (slot : ℕ) (found : List Held) → r.books.unit * r.books.layout.slots + r.books.layout.slots ≤ slot
      → AreRecordsBelow r slot found → HaveSameNewest found records
  all_below slot found is below i = newest_same i found records agrees.1.apart
      (λ q e. let n : IsNewest i found q = newest_is i found q e in ((below.each q).0 n.there).0)
      (λ q c of. let high = (within q c).1 in (below.each q).1 (c, omega (arith, high, is)))
