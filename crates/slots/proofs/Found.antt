-- The books of a unit of which recovery found records and lost slots.
use Rattle.std.proofs.Common.{◌≡◌, ℕ, ◌+◌, ◌*◌, ◌<◌, ◌≤◌, List, [], ◌∷◌, length, append-nil, sym, refl, ap, ◌∙◌, subst, arith, Bool, true, false, cond, inl, inr}
use Rattle.std.specs.Prelude.{◌≢◌, ◌==◌, ◌||◌, not, filter, All, AllPairs, Option, None, if◌then◌else◌}
use Rattle.std.specs.List.{Contains, sum_by}
use Rattle.std.proofs.lemmas.Bool.{eq-eqb}
use Rattle.std.proofs.lemmas.Bool.Decides.{nat_tests}
use Rattle.std.proofs.lemmas.List.Elements.{All-contains, All-head, All-tail, All-cons, All-nil}
use Rattle.std.proofs.lemmas.List.Kept.{AllPairs-cons}
use Rattle.std.proofs.lemmas.List.{length-map}
use Rattle.std.proofs.lemmas.List.FromFn.{length-range_with_len}
use Rattle.std.proofs.lemmas.List.Sums.{sum_by-cons}
use Rattle.mont_base.specs.declared.operation.Entry.{Entry}
use Rattle.mont_base.specs.declared.record.Held.{Held}
use Rattle.mont_base.specs.Image.{slots_of}
use Rattle.mont_base.specs.Layout.{Shape, IsLayout, units_of, unit_of_slot}
use Rattle.mont_laws.specs.declared.retiring.Retired.{Retired}
use Rattle.mont_laws.specs.Retiring.{retired_among}
use Rattle.mont_laws.specs.SlotReadings.{IsRecordOf}
use Rattle.mont_laws.proofs.Members.{no_element, first_element, later_element, element_cases, pairs_head, pairs_tail, all_elements}
use Rattle.mont_laws.proofs.Recovered.{found_retire}
use Rattle.mont_laws.proofs.UnitSlots.{unit_of_member}
use Rattle.core_steps.specs.Opened.{by_version}
use Rattle.core_steps.proofs.VersionOrder.{versions_rise, versions_same}
use Rattle.heap.specs.HeapShown.{UnitShown}
use Rattle.slots.specs.RegionBeginning.{BeginsWith, AreFound, greatest, identities_in, is_among, is_closed, free_at_first, first_books}
use Rattle.slots.specs.Books.{BooksShown, RegionShown, AreBooks, Agrees, times, slots_in, HasLowerIdentity}
use Rattle.slots.proofs.Times.{times_cons, times_here, times_else, times_there, times_more, OtherSlots}
use Rattle.slots.proofs.Opens.{free_once}
use Rattle.slots.proofs.NextSerials.{max_member, found_serials}

-- ---- how often slots stand in lists in which each stands once
pub once_times : (x : ℕ) (ys : List ℕ) → AllPairs (λ (a b : ℕ). a ≢ b) ys → times x ys ≤ 1
once_times x [] apart = omega arith
once_times x (y ∷ ys) apart = by (y == x) refl (once_times x ys (pairs_tail (λ (a b : ℕ). a ≢ b) y ys apart))
  where
    none : (zs : List ℕ) → ((z : ℕ) → Contains zs z → z ≢ x) → times x zs ≡ 0
    none [] other = refl
    none (z ∷ zs) other = times_else x z zs (other z (first_element z zs)) ∙ none zs (λ w c. other w (later_element z zs w c))

    by : (t : Bool) → (y == x) ≡ t → times x ys ≤ 1 → times x (y ∷ ys) ≤ 1
    by true e ih =
        let same : y ≡ x = grind (arith, nat_tests) in
        let rest : times x ys ≡ 0 = none ys (λ z c f.
        All-contains (λ (b : ℕ). y ≢ b) ys z (pairs_head (λ (a b : ℕ). a ≢ b) y ys apart) c (same ∙ sym f)) in
        let here : times x (y ∷ ys) ≡ 1 + times x ys =
        subst (λ (n : ℕ). times x (n ∷ ys) ≡ 1 + times x ys) (sym same) (times_here x ys) in
        omega arith
    by false e ih =
        let other : times x (y ∷ ys) ≡ times x ys = times_else x y ys (λ f. absurd (grind (arith, nat_tests))) in omega arith

pub slots_apart : (rs : List Held) → AllPairs OtherSlots rs → AllPairs (λ (a b : ℕ). a ≢ b) (slots_in rs)
slots_apart [] apart = λ i j d lt within. absurd (omega arith)
slots_apart (r ∷ rs) apart = AllPairs-cons (λ (a b : ℕ). a ≢ b) r.slot (slots_in rs)
    (each rs (pairs_head OtherSlots r rs apart)) (slots_apart rs (pairs_tail OtherSlots r rs apart))
  where
    each : (qs : List Held) → All (OtherSlots r) qs → All (λ (b : ℕ). r.slot ≢ b) (slots_in qs)
    each [] all = All-nil (λ (b : ℕ). r.slot ≢ b)
    each (q ∷ qs) all = All-cons (λ (b : ℕ). r.slot ≢ b) q.slot (slots_in qs) (All-head (OtherSlots r) q qs all)
        (each qs (All-tail (OtherSlots r) q qs all))

-- ---- is_among and times
among_there : (x : ℕ) (ys : List ℕ) → is_among ys x ≡ true → 1 ≤ times x ys
among_there x [] e = absurd (cc)
among_there x (y ∷ ys) e = by (y == x) refl e (among_there x ys)
  where
    by : (t : Bool) → (y == x) ≡ t → (t || is_among ys x) ≡ true → (is_among ys x ≡ true → 1 ≤ times x ys) → 1 ≤ times x (y ∷ ys)
    by true f g ih =
        let same : y ≡ x = grind (arith, nat_tests) in
        let here : times x (y ∷ ys) ≡ 1 + times x ys =
        subst (λ (n : ℕ). times x (n ∷ ys) ≡ 1 + times x ys) (sym same) (times_here x ys) in
        omega arith
    by false f g ih = let one = ih g in let more = times_more x y ys in omega arith

among_none : (x : ℕ) (ys : List ℕ) → is_among ys x ≡ false → times x ys ≡ 0
among_none x [] e = refl
among_none x (y ∷ ys) e = by (y == x) refl e (among_none x ys)
  where
    by : (t : Bool) → (y == x) ≡ t → (t || is_among ys x) ≡ false → (is_among ys x ≡ false → times x ys ≡ 0) → times x (y ∷ ys) ≡ 0
    by true f g ih = absurd (cc)
    by false f g ih = times_else x y ys (λ h. absurd (grind (arith, nat_tests))) ∙ ih g

-- ---- a filter, and how often what it keeps stands
kept_times : (p : ℕ → Bool) (x : ℕ) (ys : List ℕ) → p x ≡ true → times x (filter p ys) ≡ times x ys
kept_times p x [] e = refl
kept_times p x (y ∷ ys) e = by (p y) refl (kept_times p x ys e)
  where
    by : (t : Bool) → p y ≡ t → times x (filter p ys) ≡ times x ys
        → times x (cond t (y ∷ filter p ys) (filter p ys)) ≡ times x (y ∷ ys)
    by true f ih = times_cons x y (filter p ys) ∙ ap (λ (n : ℕ). (if y == x then 1 else 0) + n) ih ∙ sym (times_cons x y ys)
    by false f ih = ih ∙ sym (times_else x y ys (λ g. let h : p y ≡ p x = ap p g in absurd (cc)))

dropped_times : (p : ℕ → Bool) (x : ℕ) (ys : List ℕ) → p x ≡ false → times x (filter p ys) ≡ 0
dropped_times p x [] e = refl
dropped_times p x (y ∷ ys) e = by (p y) refl (dropped_times p x ys e)
  where
    by : (t : Bool) → p y ≡ t → times x (filter p ys) ≡ 0 → times x (cond t (y ∷ filter p ys) (filter p ys)) ≡ 0
    by true f ih = times_else x y (filter p ys) (λ g. let h : p y ≡ p x = ap p g in absurd (cc)) ∙ ih
    by false f ih = ih

-- ---- sums
sum_same : (f g : ℕ → ℕ) (zs : List ℕ) → ((z : ℕ) → Contains zs z → f z ≡ g z) → sum_by f zs ≡ sum_by g zs
sum_same f g [] same = refl
sum_same f g (z ∷ zs) same =
    sum_by-cons f z zs
    ∙ (λ i. same z (first_element z zs) i + sum_same f g zs (λ w c. same w (later_element z zs w c)) i)
    ∙ sym (sum_by-cons g z zs)

sum_add : (f g : ℕ → ℕ) (zs : List ℕ) → sum_by (λ z. f z + g z) zs ≡ sum_by f zs + sum_by g zs
sum_add f g [] = refl
sum_add f g (z ∷ zs) =
    let a = sum_by-cons (λ (w : ℕ). f w + g w) z zs in
    let b = sum_by-cons f z zs in
    let c = sum_by-cons g z zs in
    let ih = sum_add f g zs in
    omega arith

sum_ones : (zs : List ℕ) → sum_by (λ z. 1) zs ≡ length zs
sum_ones [] = refl
sum_ones (z ∷ zs) = let a = sum_by-cons (λ (w : ℕ). 1) z zs in let ih = sum_ones zs in omega arith

sum_none : (zs : List ℕ) → sum_by (λ z. 0) zs ≡ 0
sum_none [] = refl
sum_none (z ∷ zs) = let a = sum_by-cons (λ (w : ℕ). 0) z zs in let ih = sum_none zs in omega arith

sum_one : (y : ℕ) (zs : List ℕ) → sum_by (λ z. if y == z then 1 else 0) zs ≡ times y zs
sum_one y [] = refl
sum_one y (z ∷ zs) =
    sum_by-cons (λ (w : ℕ). if y == w then 1 else 0) z zs
    ∙ (λ i. flips (y == z) (z == y) refl refl i + sum_one y zs i) ∙ sym (times_cons y z zs)
  where
    flips : (a b : Bool) → (y == z) ≡ a → (z == y) ≡ b → ◌≡◌ {A = ℕ} (if y == z then 1 else 0) (if z == y then 1 else 0)
    flips true true e f = ap (λ (t : Bool). if t then 1 else 0) (e ∙ sym f)
    flips false false e f = ap (λ (t : Bool). if t then 1 else 0) (e ∙ sym f)
    flips true false e f = absurd (grind (arith, nat_tests))
    flips false true e f = absurd (grind (arith, nat_tests))

-- a list whose elements each stand in another list once is as long as they stand in it
sum_times : (ys zs : List ℕ) → ((y : ℕ) → Contains ys y → times y zs ≡ 1) → sum_by (λ z. times z ys) zs ≡ length ys
sum_times [] zs within = sum_none zs
sum_times (y ∷ ys) zs within =
    let one : times y zs ≡ 1 = within y (first_element y ys) in
    let ih = sum_times ys zs (λ w c. within w (later_element y ys w c)) in
    let split : sum_by (λ z. times z (y ∷ ys)) zs ≡ sum_by (λ z. (if y == z then 1 else 0) + times z ys) zs =
    sum_same (λ z. times z (y ∷ ys)) (λ z. (if y == z then 1 else 0) + times z ys) zs (λ z c. times_cons z y ys) in
    let parts = sum_add (λ z. if y == z then 1 else 0) (λ z. times z ys) zs in
    let first = sum_one y zs in
    omega arith

-- ---- the identity of a record is one of theirs
identity_there : (rs : List Held) (r : Held) → Contains rs r → Contains (identities_in rs) r.label.identity
identity_there [] r c = absurd (no_element r c)
identity_there (q ∷ rs) r c = elim (element_cases q rs r c) [
  | inl e ↦ subst (λ (z : Held). Contains (identities_in (q ∷ rs)) z.label.identity) (sym e)
      (first_element q.label.identity (identities_in rs))
  | inr k ↦ later_element q.label.identity (identities_in rs) r.label.identity (identity_there rs r k)
]

-- ---- elements that stand somewhere
times_contains : (x : ℕ) (ys : List ℕ) → 1 ≤ times x ys → Contains ys x
times_contains x [] some = absurd (omega arith)
times_contains x (y ∷ ys) some = by (y == x) refl (λ l. times_contains x ys l)
  where
    by : (t : Bool) → (y == x) ≡ t → (1 ≤ times x ys → Contains ys x) → Contains (y ∷ ys) x
    by true e ih = let same : y ≡ x = grind (arith, nat_tests) in subst (Contains (y ∷ ys)) same (first_element y ys)
    by false e ih =
        let other : times x (y ∷ ys) ≡ times x ys = times_else x y ys (λ f. absurd (grind (arith, nat_tests))) in
        later_element y ys x (ih (omega arith))

slot_record : (x : ℕ) (rs : List Held) → Contains (slots_in rs) x → (r : Held) × Contains rs r × (r.slot ≡ x)
slot_record x [] c = absurd (no_element x c)
slot_record x (q ∷ rs) c = elim (element_cases q.slot (slots_in rs) x c) [
  | inl e ↦ (q, first_element q rs, sym e)
  | inr k ↦ let t = slot_record x rs k in (t.0, later_element q rs t.0 t.1, t.2)
]

module _ (s : Shape) (u : ℕ) (layout : IsLayout s) (inside : u < units_of s) (recs : List Held) (lost : List ℕ)
    (found : AreFound s u recs lost) where
  recs_once : (x : ℕ) → times x (slots_in recs) ≤ 1
  recs_once x = once_times x (slots_in recs) (slots_apart recs found.apart.slots)

  lost_once : (x : ℕ) → times x lost ≤ 1
  lost_once x = once_times x lost found.lost_apart

  -- a slot in use is one of the unit's
  rec_own : (x : ℕ) → 1 ≤ times x (slots_in recs) → unit_of_slot s x ≡ u
  rec_own x some =
      let t = slot_record x recs (times_contains x (slots_in recs) some) in
      subst (λ (n : ℕ). unit_of_slot s n ≡ u) t.2 (All-contains (λ (r : Held). unit_of_slot s r.slot ≡ u) recs t.0 found.of_unit t.1)

  lost_own_slot : (x : ℕ) → 1 ≤ times x lost → unit_of_slot s x ≡ u
  lost_own_slot x some = All-contains (λ (slot : ℕ). unit_of_slot s slot ≡ u) lost x found.lost_of_unit (times_contains x lost some)

  not_both : (x : ℕ) → 1 ≤ times x (slots_in recs) → 1 ≤ times x lost → ⊥
  not_both x some also =
      let t = slot_record x recs (times_contains x (slots_in recs) some) in
      All-contains (λ (slot : ℕ). t.0.slot ≢ slot) lost x
      (All-contains (λ (r : Held). All (λ (slot : ℕ). r.slot ≢ slot) lost) recs t.0 found.beside t.1)
      (times_contains x lost also) t.2

  each_once : (x : ℕ)
      → times x (free_at_first s u recs lost) + times x (slots_in recs) + times x (slots_in []) + times x lost
      ≡ (if unit_of_slot s x == u then 1 else 0)
  each_once x = by (is_among (slots_in recs) x) (is_among lost x) refl refl (free_once s u layout inside x)
    where
      closed_is : (a b : Bool) → is_among (slots_in recs) x ≡ a → is_among lost x ≡ b → is_closed recs lost x ≡ not (a || b)
      closed_is a b e f = λ i. not (e i || f i)

      own_of : unit_of_slot s x ≡ u → ◌≡◌ {A = ℕ} (if unit_of_slot s x == u then 1 else 0) 1
      own_of is = ap (λ (t : Bool). if t then 1 else 0) (eq-eqb (unit_of_slot s x) u is)

      by : (a b : Bool) → is_among (slots_in recs) x ≡ a → is_among lost x ≡ b
          → times x (slots_of s u) ≡ (if unit_of_slot s x == u then 1 else 0)
          → times x (free_at_first s u recs lost) + times x (slots_in recs) + times x (slots_in []) + times x lost
          ≡ (if unit_of_slot s x == u then 1 else 0)
      by true true e f range = absurd (not_both x (among_there x (slots_in recs) e) (among_there x lost f))
      by true false e f range =
          let one = among_there x (slots_in recs) e in
          let most = recs_once x in
          let none = among_none x lost f in
          let gone = dropped_times (is_closed recs lost) x (slots_of s u) (closed_is true false e f) in
          let own = own_of (rec_own x one) in
          let sum : times x (free_at_first s u recs lost) + times x (slots_in recs) + times x (slots_in []) + times x lost ≡ 1 =
          omega arith in
          sum ∙ sym own
      by false true e f range =
          let one = among_there x lost f in
          let most = lost_once x in
          let none = among_none x (slots_in recs) e in
          let gone = dropped_times (is_closed recs lost) x (slots_of s u) (closed_is false true e f) in
          let own = own_of (lost_own_slot x one) in
          let sum : times x (free_at_first s u recs lost) + times x (slots_in recs) + times x (slots_in []) + times x lost ≡ 1 =
          omega arith in
          sum ∙ sym own
      by false false e f range =
          let none = among_none x (slots_in recs) e in
          let also = among_none x lost f in
          let kept : times x (free_at_first s u recs lost) ≡ times x (slots_of s u) =
          kept_times (is_closed recs lost) x (slots_of s u) (closed_is false false e f) in
          let sum : times x (free_at_first s u recs lost) + times x (slots_in recs) + times x (slots_in []) + times x lost
          ≡ times x (slots_of s u) = omega arith in
          sum ∙ range

  one_of_range : (x : ℕ) → unit_of_slot s x ≡ u → times x (slots_of s u) ≡ 1
  one_of_range x is = free_once s u layout inside x ∙ ap (λ (t : Bool). if t then 1 else 0) (eq-eqb (unit_of_slot s x) u is)

  some : 1 ≤ s.slots
  some = let e = layout.some_slots in omega arith

  all_many : length (free_at_first s u recs lost) + length recs + length {A = Held} [] + length lost ≡ s.slots
  all_many =
      let z = slots_of s u in
      let free = free_at_first s u recs lost in
      let a : sum_by (λ x. times x free) z ≡ length free = sum_times free z (λ y c.
      let there = times_there y free c in
      let each = each_once y in
      let t : times y free ≤ times y z = kept_most (is_closed recs lost) y z in
      let m : times y z ≤ 1 = once_of_range y in omega arith) in
      let b : sum_by (λ x. times x (slots_in recs)) z ≡ length (slots_in recs) =
      sum_times (slots_in recs) z (λ y c. one_of_range y (rec_own y (times_there y (slots_in recs) c))) in
      let c : sum_by (λ x. times x lost) z ≡ length lost =
      sum_times lost z (λ y c. one_of_range y (lost_own_slot y (times_there y lost c))) in
      let sums : sum_by (λ x. times x free + times x (slots_in recs) + times x lost) z ≡ sum_by (λ x. 1) z =
      sum_same (λ x. times x free + times x (slots_in recs) + times x lost) (λ x. 1) z (λ x c.
      let each = each_once x in
      let own = ap (λ (t : Bool). if t then 1 else 0) (eq-eqb (unit_of_slot s x) u (unit_of_member s u x some c)) in
      let one : times x free + times x (slots_in recs) + times x (slots_in []) + times x lost ≡ 1 = each ∙ own in omega arith) in
      let p = sum_add (λ x. times x free + times x (slots_in recs)) (λ x. times x lost) z in
      let q = sum_add (λ x. times x free) (λ x. times x (slots_in recs)) z in
      let ones = sum_ones z in
      let many = length-range_with_len (u * s.slots) s.slots in
      let recs_long = length-map recs (λ (r : Held). r.slot) in
      omega arith
    where
      kept_most : (p : ℕ → Bool) (y : ℕ) (zs : List ℕ) → times y (filter p zs) ≤ times y zs
      kept_most p y zs = of (p y) refl
        where
          of : (t : Bool) → p y ≡ t → times y (filter p zs) ≤ times y zs
          of true e = let k = kept_times p y zs e in omega arith
          of false e = let k = dropped_times p y zs e in omega arith

      once_of_range : (y : ℕ) → times y (slots_of s u) ≤ 1
      once_of_range y = of (unit_of_slot s y == u) (free_once s u layout inside y)
        where
          of : (t : Bool) → times y (slots_of s u) ≡ (if t then 1 else 0) → times y (slots_of s u) ≤ 1
          of true e = omega arith
          of false e = omega arith

  pub found_are : AreBooks recs (retired_among (by_version recs)) lost [] [] None (first_books s u recs lost)
  found_are = record {
    own = record { layout = layout; inside = inside };
    slots = record { each = each_once; many = all_many };
    apart = found.apart;
    valid = subst (All (IsRecordOf u)) (sym (append-nil recs)) found.valid;
    begun = omega arith;
    serials = found_serials s u recs;
    numbered = subst (All (HasLowerIdentity (greatest (identities_in recs) + 1))) (sym (append-nil recs))
        (all_elements (HasLowerIdentity (greatest (identities_in recs) + 1)) recs (λ r c.
        let low = max_member 0 r.label.identity (identities_in recs) (identity_there recs r c) in omega arith));
    retires = found_retire recs (by_version recs) found.apart (versions_rise recs) (versions_same recs found.apart.versions);
    rows_are = refl;
    retired_are = refl;
    lost_are = refl;
    written_are = refl;
    places_are = refl;
    newest_is = refl;
    halted_is = refl;
  }

  pub found_region : (seat : UnitShown) (books : BooksShown) → seat.known.unit ≡ u → BeginsWith seat.known.part recs lost
      → books ≡ first_books s u recs lost → (let r : RegionShown = record { seat = seat; books = books } in Agrees r)
  found_region seat books of_unit starts is =
      subst (λ (b : BooksShown). let r : RegionShown = record { seat = seat; books = b } in Agrees r) (sym is) (
        sym of_unit,
        subst (λ (x : (List Held) × (List Retired) × (List ℕ) × (List Held) × (List Entry) × (Option ℕ)).
            AreBooks x.0 x.1 x.2 x.3 x.4 x.5 (first_books s u recs lost))
            (λ i. (
              sym starts.records_are i,
              sym starts.retired i,
              sym starts.lost_are i,
              sym starts.rests.written i,
              sym starts.history i,
              sym starts.frozen i,
            ))
            found_are,
      )
