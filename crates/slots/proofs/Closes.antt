-- What closing a slot that isn't needed leaves of a unit and of its books.
use Rattle.std.proofs.Common.{◌≡◌, ℕ, ◌+◌, ◌-◌, ◌*◌, ◌<◌, ◌≤◌, List, [], ◌∷◌, ◌++◌, length, set, drop, length-append, sym, refl, ap, ◌∙◌, subst, arith, Bool, true, false, cond, inl, inr}
use Rattle.std.specs.Prelude.{◌≢◌, ◌==◌, not, All, Option, None, if◌then◌else◌}
use Rattle.std.proofs.lemmas.Bool.{eq-eqb, ne_eqb, not_from_false}
use Rattle.std.proofs.lemmas.Bool.Decides.{nat_tests}
use Rattle.std.proofs.lemmas.List.Elements.{All-contains, Contains-append_left, Contains-append_right, Contains-append_cases}
use Rattle.mont_base.specs.declared.operation.Entry.{Entry}
use Rattle.mont_base.specs.declared.record.Held.{Held}
use Rattle.mont_base.specs.Layout.{unit_of_slot}
use Rattle.mont_laws.specs.declared.retiring.Retired.{Retired}
use Rattle.mont_laws.specs.Records.{AreApart, without_slot, live_of}
use Rattle.mont_laws.specs.Retiring.{Retires, IsIn}
use Rattle.mont_laws.specs.SlotReadings.{IsRecordOf}
use Rattle.mont_laws.proofs.Apart.{apart_filter, stayed}
use Rattle.mont_laws.proofs.Members.{all_elements}
use Rattle.core_steps.specs.Closing.{without_retired, without_lost}
use Rattle.core_steps.proofs.UnitQueues.{slot_record, slots_once, without_free, without_none, filter_whole, in_queue}
use Rattle.slots.specs.Books.{BooksShown, AreBooks, times, slots_in, rows_of, HasLowerIdentity}
use Rattle.slots.proofs.Times.{times_cons, times_here, times_else, times_append, times_there, times_without, times_closed, length_without, record_times, no_record}
use Rattle.slots.proofs.RowFacts.{rows_without}
use Rattle.slots.proofs.Lives.{live_stays}
use Rattle.slots.proofs.NextSerials.{kept_serials}
use Rattle.slots.proofs.Agreements.{slot_own, slot_once, some_slots}

-- what holds of records and of written ones, with some records dropped
all_kept : (P : Held → Type 0) (slot : ℕ) (rs ws : List Held) → All P (rs ++ ws) → All P (without_slot slot rs ++ ws)
all_kept P slot rs ws all = all_elements P (without_slot slot rs ++ ws) (λ r c. elim (Contains-append_cases (without_slot slot rs) ws r c) [
  | inl a ↦ All-contains P (rs ++ ws) r all (Contains-append_left rs ws r (stayed r slot rs a).0)
  | inr a ↦ All-contains P (rs ++ ws) r all (Contains-append_right rs ws r a)
])

-- a lost slot that stands nowhere else
pub lost_without : (slot : ℕ) (lost : List ℕ) → times slot lost ≡ 0 → without_lost slot lost ≡ lost
lost_without slot lost none = filter_whole (λ (n : ℕ). not (n == slot)) lost (λ n c.
    not_from_false (n == slot) (ne_eqb n slot (λ e.
    let there : 1 ≤ times slot lost = subst (λ (x : ℕ). 1 ≤ times x lost) e (times_there n lost c) in absurd (omega arith))))

pub lost_rest : (slot : ℕ) (rest : List ℕ) → times slot (slot ∷ rest) ≤ 1 → without_lost slot (slot ∷ rest) ≡ rest
lost_rest slot rest once =
    let here = times_here slot rest in
    ap (λ (t : Bool). cond (not t) (slot ∷ without_lost slot rest) (without_lost slot rest)) (eq-eqb slot slot refl)
    ∙ lost_without slot rest (omega arith)

-- the first retired slot leaves the queue, and no other does
pub retired_rest : (rs : List Held) (t : Retired) (ts : List Retired) → AreApart rs → Retires rs (t ∷ ts)
    → without_retired t.slot (t ∷ ts) ≡ ts
retired_rest rs t ts apart h =
    ap (λ (b : Bool). cond (not b) (t ∷ without_retired t.slot ts) (without_retired t.slot ts)) (eq-eqb t.slot t.slot refl)
    ∙ without_none t.slot ts (λ v a e. (slots_once rs (t ∷ ts) apart h).0 (subst (λ (n : ℕ). IsIn n ts) e (in_queue ts v a)))

-- a queue of records isn't longer than they are
pub queue_short : (ts : List Retired) (rs : List Held) → Retires rs ts → length ts ≤ length rs
queue_short [] rs h = omega arith
queue_short (t ∷ ts) rs h =
    let rest = queue_short ts (without_slot t.slot rs) h.1 in
    let one : 1 ≤ times t.slot (slots_in rs) =
    subst (λ (n : ℕ). 1 ≤ times n (slots_in rs)) h.0.in_slot (record_times rs h.0.due_record h.0.there) in
    let all = length_without t.slot rs in omega arith

-- ---- the first retired slot closed, of a unit that has nothing written
module _ (recs : List Held) (t : Retired) (ts : List Retired) (lost : List ℕ) (h : List Entry) (frozen : Option ℕ) (b : BooksShown)
    (k : AreBooks recs (t ∷ ts) lost [] h frozen b) where
  in_records : 1 ≤ times t.slot (slots_in recs)
  in_records = let due = k.retires.0 in
      subst (λ (n : ℕ). 1 ≤ times n (slots_in recs)) due.in_slot (record_times recs due.due_record due.there)

  once : times t.slot b.free + times t.slot (slots_in recs) + times t.slot (slots_in []) + times t.slot lost ≤ 1
  once = slot_once recs (t ∷ ts) lost [] h frozen b k t.slot

  pub due_own : unit_of_slot b.layout t.slot ≡ b.unit
  due_own = let some = in_records in slot_own recs (t ∷ ts) lost [] h frozen b k t.slot (omega arith)

  pub lost_same : without_lost t.slot lost ≡ lost
  lost_same = let some = in_records in let all = once in lost_without t.slot lost (omega arith)

  pub queue_rest : without_retired t.slot (t ∷ ts) ≡ ts
  queue_rest = retired_rest recs t ts k.apart k.retires

  pub room_left : length b.free < b.layout.slots
  room_left =
      let some = in_records in
      let many = k.slots.many in
      let all = length_without t.slot recs in
      omega arith

  pub rows_closed : set b.rows (t.slot - b.unit * b.layout.slots) None ≡ rows_of b.layout b.unit (without_slot t.slot recs)
  rows_closed = ap (λ (rows : List (Option Held)). set rows (t.slot - b.unit * b.layout.slots) None) k.rows_are
      ∙ rows_without b.layout b.unit t.slot (some_slots recs (t ∷ ts) lost [] h frozen b k) due_own recs

  -- the same records are live
  live_same : (i : ℕ) → live_of i (without_slot t.slot recs) ≡ live_of i recs
  live_same i = subst (λ (n : ℕ). live_of i (without_slot n recs) ≡ live_of i recs) k.retires.0.in_slot
      (live_stays recs k.retires.0.due_record t.epoch k.apart k.retires.0.there k.retires.0.due i)

  pub closed_books : AreBooks (without_slot t.slot recs) ts lost [] h frozen (record b {
    rows = set b.rows (t.slot - b.unit * b.layout.slots) None;
    retired = drop 1 b.retired;
    free = b.free ++ t.slot ∷ [];
  })
  closed_books = record {
    own = k.own;
    slots = record {
      each = λ x. each x (x == t.slot) refl;
      many =
          let some = in_records in
          let all = once in
          let many = k.slots.many in
          let less = length_without t.slot recs in
          let longer = length-append b.free (t.slot ∷ []) in
          omega arith;
    };
    apart = apart_filter recs k.apart (λ (r : Held). not (r.slot == t.slot));
    valid = all_kept (IsRecordOf b.unit) t.slot recs [] k.valid;
    begun = k.begun;
    numbered = all_kept (HasLowerIdentity b.identity) t.slot recs [] k.numbered;
    serials = λ queue. kept_serials recs (without_slot t.slot recs) [] b.serial live_same (k.serials queue);
    retires = k.retires.1;
    rows_are = rows_closed;
    retired_are = ap (drop 1) k.retired_are;
    lost_are = k.lost_are;
    written_are = k.written_are;
    places_are = k.places_are;
    newest_is = k.newest_is;
    halted_is = k.halted_is;
  }
    where
      each : (x : ℕ) (same : Bool) → (x == t.slot) ≡ same
          → times x (b.free ++ t.slot ∷ []) + times x (slots_in (without_slot t.slot recs)) + times x (slots_in []) + times x lost
          ≡ (if unit_of_slot b.layout x == b.unit then 1 else 0)
      each x true e =
          let is : t.slot ≡ x = grind (arith, nat_tests) in
          let here : times t.slot (b.free ++ t.slot ∷ []) + times t.slot (slots_in (without_slot t.slot recs)) + times t.slot (slots_in [])
          + times t.slot lost ≡ (if unit_of_slot b.layout t.slot == b.unit then 1 else 0) =
          let some = in_records in
          let all = once in
          let was = k.slots.each t.slot in
          let a = times_append t.slot b.free (t.slot ∷ []) in
          let n = times_here t.slot [] in
          let none = times_closed t.slot recs in
          omega arith in
          subst (λ (y : ℕ). times y (b.free ++ t.slot ∷ []) + times y (slots_in (without_slot t.slot recs)) + times y (slots_in [])
          + times y lost ≡ (if unit_of_slot b.layout y == b.unit then 1 else 0)) is here
      each x false e =
          let other : x ≢ t.slot = λ f. absurd (grind (arith, nat_tests)) in
          let was = k.slots.each x in
          let a = times_append x b.free (t.slot ∷ []) in
          let n = times_else x t.slot [] (λ f. other (sym f)) in
          let same = times_without t.slot x recs other in
          omega arith

-- ---- the first lost slot closed
module _ (recs : List Held) (ret : List Retired) (slot : ℕ) (rest : List ℕ) (wr : List Held) (h : List Entry) (frozen : Option ℕ)
    (b : BooksShown) (k : AreBooks recs ret (slot ∷ rest) wr h frozen b) where
  once_lost : times slot b.free + times slot (slots_in recs) + times slot (slots_in wr) + times slot (slot ∷ rest) ≤ 1
  once_lost = slot_once recs ret (slot ∷ rest) wr h frozen b k slot

  pub lost_own : unit_of_slot b.layout slot ≡ b.unit
  lost_own = let here = times_here slot rest in slot_own recs ret (slot ∷ rest) wr h frozen b k slot (omega arith)

  pub first_lost_rest : without_lost slot (slot ∷ rest) ≡ rest
  first_lost_rest = let all = once_lost in lost_rest slot rest (omega arith)

  no_record_lost : times slot (slots_in recs) ≡ 0
  no_record_lost = let all = once_lost in let here = times_here slot rest in omega arith

  pub records_same : without_slot slot recs ≡ recs
  records_same = without_free slot recs (no_record slot recs no_record_lost)

  pub queue_same : without_retired slot ret ≡ ret
  queue_same = without_none slot ret (λ t a e.
      let one = slot_record recs ret k.apart k.retires t a in
      no_record slot recs no_record_lost one.retired_record one.there (one.in_slot ∙ e))

  pub room_beside : length b.free < b.layout.slots
  room_beside = let many = k.slots.many in omega arith

  pub swept_books : AreBooks recs ret rest wr h frozen (record b {
    free = b.free ++ slot ∷ [];
    lost = rest;
    sweeping = false;
  })
  swept_books = record {
    own = k.own;
    slots = record {
      each = λ x.
          let was = k.slots.each x in
          let a = times_append x b.free (slot ∷ []) in
          let n = times_cons x slot [] in
          let m = times_cons x slot rest in
          omega arith;
      many = let many = k.slots.many in let a = length-append b.free (slot ∷ []) in omega arith;
    };
    apart = k.apart;
    valid = k.valid;
    begun = k.begun;
    numbered = k.numbered;
    serials = k.serials;
    retires = k.retires;
    rows_are = k.rows_are;
    retired_are = k.retired_are;
    lost_are = refl;
    written_are = k.written_are;
    places_are = k.places_are;
    newest_is = k.newest_is;
    halted_is = k.halted_is;
  }
