-- The books of a unit of which nothing is stored.
use Rattle.std.proofs.Common.{◌≡◌, ℕ, ◌+◌, ◌*◌, ◌<◌, ◌≤◌, List, [], ◌∷◌, sym, refl, ap, ◌∙◌, subst, arith, Bool, true, false, inl, inr, ◌⊎◌}
use Rattle.std.specs.Prelude.{◌==◌, Option, None, if◌then◌else◌}
use Rattle.std.specs.List.{Contains}
use Rattle.std.proofs.lemmas.Bool.{cases_lt}
use Rattle.std.proofs.lemmas.Bool.Decides.{nat_tests}
use Rattle.std.proofs.lemmas.List.FromFn.{length-range_with_len}
use Rattle.mont_base.specs.declared.operation.Entry.{Entry}
use Rattle.mont_base.specs.declared.record.Held.{Held}
use Rattle.mont_base.specs.Image.{slots_of}
use Rattle.mont_base.specs.Layout.{Shape, IsLayout, units_of, unit_of_slot}
use Rattle.mont_laws.specs.declared.retiring.Retired.{Retired}
use Rattle.mont_laws.proofs.Members.{no_element, first_element}
use Rattle.mont_laws.proofs.UnitSlots.{unit_of_member}
use Rattle.mont_laws.proofs.Mapped.{in_range}
use Rattle.mont_laws.specs.Retiring.{retired_among}
use Rattle.core_steps.specs.Opened.{by_version}
use Rattle.core_steps.proofs.VersionOrder.{versions_same}
use Rattle.heap.specs.HeapShown.{UnitShown}
use Rattle.slots.specs.RegionBeginning.{BeginsWith, fresh_books}
use Rattle.slots.specs.Books.{BooksShown, RegionShown, AreBooks, Agrees, times}
use Rattle.slots.proofs.Times.{times_range, times_outside}
use Rattle.slots.proofs.RowFacts.{range_copies, place_of_slot}
use Rattle.slots.proofs.NextSerials.{fresh_serials}

-- no records are none by version
empty_list : {A : Type 0} (l : List A) → ((a : A) → Contains l a → ⊥) → l ≡ []
empty_list [] none = refl
empty_list (a ∷ l) none = absurd (none a (first_element a l))

no_versions : by_version [] ≡ []
no_versions = empty_list (by_version []) (λ r c. no_element r ((versions_same [] (λ i j d lt within. absurd (omega arith)) r).1 c))

module _ (s : Shape) (u : ℕ) (layout : IsLayout s) (inside : u < units_of s) where
  some_slots : 1 ≤ s.slots
  some_slots = let e = layout.some_slots in omega arith

  -- a slot of the unit is free once, and no other is
  pub free_once : (x : ℕ) → times x (slots_of s u) ≡ (if unit_of_slot s x == u then 1 else 0)
  free_once x = by (unit_of_slot s x == u) refl
    where
      by : (t : Bool) → (unit_of_slot s x == u) ≡ t → times x (slots_of s u) ≡ (if t then 1 else 0)
      by true e =
          let own : unit_of_slot s x ≡ u = grind (arith, nat_tests) in
          let range = place_of_slot s u x some_slots own in
          times_range x (u * s.slots) s.slots range.0 (omega (arith, range.0, range.1))
      by false e = times_outside x (u * s.slots) s.slots (out (cases_lt x (u * s.slots)) (cases_lt x (u * s.slots + s.slots)))
        where
          out : (x < u * s.slots) ⊎ (u * s.slots ≤ x) → (x < u * s.slots + s.slots) ⊎ (u * s.slots + s.slots ≤ x)
              → (x < u * s.slots) ⊎ (u * s.slots + s.slots ≤ x)
          out (inl l) m = inl l
          out (inr l) (inr m) = inr m
          out (inr l) (inl m) =
              let own : unit_of_slot s x ≡ u = unit_of_member s u x some_slots (in_range x (u * s.slots) s.slots l m) in
              absurd (grind (arith, nat_tests))

  pub fresh_are : AreBooks [] [] [] [] [] None (fresh_books s u)
  fresh_are = record {
    own = record { layout = layout; inside = inside };
    slots = record {
      each = λ x. let once = free_once x in omega arith;
      many = let all = length-range_with_len (u * s.slots) s.slots in omega arith;
    };
    apart = record {
      slots = λ i j d lt within. absurd (omega arith);
      versions = λ i j d lt within. absurd (omega arith);
    };
    valid = λ i d lt. absurd (omega arith);
    begun = omega arith;
    numbered = λ i d lt. absurd (omega arith);
    serials = λ queue. fresh_serials;
    retires = record {
      kept = λ r c. absurd (no_element r c);
      single = λ r c. absurd (no_element r c);
    };
    rows_are = range_copies (u * s.slots) s.slots None;
    retired_are = refl;
    lost_are = refl;
    written_are = refl;
    places_are = refl;
    newest_is = refl;
    halted_is = refl;
  }

  pub fresh_agrees : (seat : UnitShown) → seat.known.unit ≡ u → BeginsWith seat.known.part [] []
      → Agrees (record { seat = seat; books = fresh_books s u })
  fresh_agrees seat of_unit starts = (
    sym of_unit,
    subst (λ (x : (List Held) × (List Retired) × (List ℕ) × (List Held) × (List Entry) × (Option ℕ)).
        AreBooks x.0 x.1 x.2 x.3 x.4 x.5 (fresh_books s u))
        (λ i. (
          sym starts.records_are i,
          sym (starts.retired ∙ ap retired_among no_versions) i,
          sym starts.lost_are i,
          sym starts.rests.written i,
          sym starts.history i,
          sym starts.frozen i,
        ))
        fresh_are,
  )

  pub fresh_region : (seat : UnitShown) (books : BooksShown) → seat.known.unit ≡ u → BeginsWith seat.known.part [] []
      → books ≡ fresh_books s u
      → (let r : RegionShown = record { seat = seat; books = books } in Agrees r)
  fresh_region seat books of_unit starts is =
      subst (λ (b : BooksShown). let r : RegionShown = record { seat = seat; books = b } in
      Agrees r) (sym is) (fresh_agrees seat of_unit starts)
