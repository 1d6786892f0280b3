-- What the books of a unit tell of a slot, of a record and of its identity.
use Rattle.std.proofs.Common.{◌≡◌, ℕ, ◌+◌, ◌-◌, ◌*◌, ◌<◌, ◌≤◌, List, ◌++◌, sym, refl, ap, ◌∙◌, subst, arith, Bool, true, false, cond}
use Rattle.std.specs.Prelude.{◌==◌, All, Option, Some, None, slice_get, if◌then◌else◌}
use Rattle.std.specs.List.{Contains}
use Rattle.std.proofs.lemmas.Bool.Decides.{nat_tests}
use Rattle.std.proofs.lemmas.List.Elements.{All-contains, Contains-append_left}
use Rattle.std.proofs.lemmas.Option.{same_Some}
use Rattle.mont_base.specs.declared.operation.Entry.{Entry}
use Rattle.mont_base.specs.declared.record.Held.{Held}
use Rattle.mont_base.specs.Layout.{total_of, units_of, unit_of_slot}
use Rattle.mont_base.specs.Versions.{newest_of, is_delete}
use Rattle.mont_laws.specs.declared.retiring.Retired.{Retired}
use Rattle.mont_laws.specs.Records.{live_of, live_if}
use Rattle.mont_laws.proofs.Newest.{newest_is}
use Rattle.mont_laws.proofs.UnitSlots.{slots_have_units}
use Rattle.core_steps.specs.declared.parts.UnitPart.{UnitPart}
use Rattle.core_steps.specs.Storing.{IsFreeSlot}
use Rattle.slots.specs.Books.{BooksShown, AreBooks, times, slots_in, record_in, row_in, row_at, HasLowerIdentity}
use Rattle.slots.proofs.Times.{times_there, no_record}
use Rattle.slots.proofs.RowFacts.{find_none, find_there, row_of_slot}

-- the records of a list, and of one after it
pub all_before : {A : Type 0} (P : A → Type 0) (xs ys : List A) → All P (xs ++ ys) → (a : A) → Contains xs a → P a
all_before P xs ys all a c = All-contains P (xs ++ ys) a all (Contains-append_left xs ys a c)

module _ (recs : List Held) (ret : List Retired) (lost : List ℕ) (wr : List Held) (h : List Entry) (frozen : Option ℕ) (b : BooksShown)
    (k : AreBooks recs ret lost wr h frozen b) where
  pub some_slots : 1 ≤ b.layout.slots
  some_slots = let e = k.own.layout.some_slots in omega arith

  -- a slot that stands in one of the lists is one of the unit's, and stands nowhere else
  pub slot_own : (x : ℕ) → 1 ≤ times x b.free + times x (slots_in recs) + times x (slots_in wr) + times x lost
      → unit_of_slot b.layout x ≡ b.unit
  slot_own x some = by (unit_of_slot b.layout x == b.unit) refl
    where
      by : (t : Bool) → (unit_of_slot b.layout x == b.unit) ≡ t → unit_of_slot b.layout x ≡ b.unit
      by true e = grind (arith, nat_tests)
      by false e =
          let none : (if unit_of_slot b.layout x == b.unit then 1 else 0) ≡ 0 = ap (λ (t : Bool). if t then 1 else 0) e in
          let zero : times x b.free + times x (slots_in recs) + times x (slots_in wr) + times x lost ≡ 0 = k.slots.each x ∙ none in
          absurd (omega arith)

  pub slot_once : (x : ℕ) → times x b.free + times x (slots_in recs) + times x (slots_in wr) + times x lost ≤ 1
  slot_once x = by (unit_of_slot b.layout x == b.unit) (k.slots.each x)
    where
      by : (t : Bool) → times x b.free + times x (slots_in recs) + times x (slots_in wr) + times x lost ≡ (if t then 1 else 0)
          → times x b.free + times x (slots_in recs) + times x (slots_in wr) + times x lost ≤ 1
      by true e = omega arith
      by false e = omega arith

  -- so it is a slot of the store
  pub slot_inside : (x : ℕ) → unit_of_slot b.layout x ≡ b.unit → x < total_of b.layout
  slot_inside x is = (slots_have_units b.layout x some_slots).1 (subst (λ (u : ℕ). u < units_of b.layout) (sym is) k.own.inside)

  -- the row of a slot is the record in it
  pub row_shows : (slot : ℕ) → row_at b slot ≡ record_in recs slot
  row_shows slot = by (unit_of_slot b.layout slot == b.unit) refl
    where
      by : (t : Bool) → (unit_of_slot b.layout slot == b.unit) ≡ t
          → (if t then row_in (slice_get b.rows (slot - b.unit * b.layout.slots)) else None) ≡ record_in recs slot
      by true e =
          let own : unit_of_slot b.layout slot ≡ b.unit = grind (arith, nat_tests) in
          ap (λ (rows : List (Option Held)). row_in (slice_get rows (slot - b.unit * b.layout.slots))) k.rows_are
          ∙ ap row_in (row_of_slot b.layout b.unit slot some_slots own recs)
      by false e =
          let none : (if unit_of_slot b.layout slot == b.unit then 1 else 0) ≡ 0 = ap (λ (t : Bool). if t then 1 else 0) e in
          let all : times slot b.free + times slot (slots_in recs) + times slot (slots_in wr) + times slot lost ≡ 0 =
          k.slots.each slot ∙ none in
          sym (find_none slot recs (omega arith))

  -- a record is the one in its slot
  pub record_found : (r : Held) → Contains recs r → record_in recs r.slot ≡ Some r
  record_found r c = let once = slot_once r.slot in find_there recs r c (omega arith)

  -- a free slot is in no record, and neither written nor lost
  pub free_slot : (p : UnitPart) → p.records ≡ recs → p.written ≡ wr → p.lost ≡ lost → (x : ℕ) → Contains b.free x
      → IsFreeSlot b.layout b.unit p x
  free_slot p rs ws ls x c =
      let one = times_there x b.free c in
      let once = slot_once x in
      record {
        of_unit = slot_own x (omega arith);
        no_record = λ r a. no_record x recs (omega arith) r (subst (λ (l : List Held). Contains l r) rs a);
        none_written = λ w a. no_record x wr (omega arith) w (subst (λ (l : List Held). Contains l w) ws a);
        not_lost = λ a. let there = times_there x lost (subst (λ (l : List ℕ). Contains l x) ls a) in absurd (omega arith);
      }

  -- the next identity has no record
  pub next_unused : newest_of b.identity recs ≡ None
  next_unused = by (newest_of b.identity recs) refl
    where
      by : (o : Option Held) → newest_of b.identity recs ≡ o → o ≡ None
      by None e = refl
      by (Some r) e =
          let n = newest_is b.identity recs r e in
          let low : r.label.identity < b.identity = all_before (HasLowerIdentity b.identity) recs wr k.numbered r n.there in
          let same = n.identity in absurd (omega arith)

-- the live record of an identity is the newest of its records
pub live_newest : (recs : List Held) (i : ℕ) (r : Held) → live_of i recs ≡ Some r → newest_of i recs ≡ Some r
live_newest recs i r e = by (newest_of i recs) e
  where
    of : (t : Bool) (q : Held) → cond t None (Some q) ≡ Some r → q ≡ r
    of true q e = absurd (cc)
    of false q e = same_Some q r e

    by : (o : Option Held) → live_if o ≡ Some r → o ≡ Some r
    by None e = absurd (cc)
    by (Some q) e = ap Some (of (is_delete q.label.kind) q e)
