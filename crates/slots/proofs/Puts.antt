-- What a change writes, and that the books follow.
use Rattle.std.proofs.Common.{◌≡◌, ℕ, ◌+◌, ◌<◌, ◌≤◌, List, [], ◌∷◌, ◌++◌, length, drop, get_or, append_assoc, length-append, sym, refl, ap, ◌∙◌, subst, arith, false, inl, inr, ◌⊎◌}
use Rattle.std.specs.Prelude.{◌==◌, IsTrue, All, Option, Some, None, option_map, nat_le, if◌then◌else◌}
use Rattle.std.specs.List.{Contains}
use Rattle.std.proofs.lemmas.Bool.Decides.{nat_tests}
use Rattle.std.proofs.lemmas.Option.{same_Some}
use Rattle.std.proofs.lemmas.List.{map-append, length-map}
use Rattle.std.proofs.lemmas.List.Elements.{All-append, All-cons, All-nil}
use Rattle.mont_base.specs.declared.constants.TheConstants.{BODY, LAST}
use Rattle.mont_base.specs.declared.operation.Entry.{Entry}
use Rattle.mont_base.specs.declared.record.Change.{Change}
use Rattle.mont_base.specs.declared.record.Change.TheVariants.{Insert, Replace, Remove}
use Rattle.mont_base.specs.declared.record.Held.{Held}
use Rattle.mont_base.specs.declared.record.Kind.{Kind}
use Rattle.mont_base.specs.declared.record.Kind.TheVariants as kinds
use Rattle.mont_base.specs.Layout.{Shape, total_of, units_of}
use Rattle.mont_base.specs.Record.{IsVersionOf}
use Rattle.mont_laws.specs.declared.retiring.Retired.{Retired}
use Rattle.mont_laws.specs.SlotReadings.{IsRecordOf}
use Rattle.mont_laws.proofs.Newest.{IsNewest, newest_is}
use Rattle.mont_laws.proofs.Members.{first_element}
use Rattle.core_steps.specs.Storing.{IsFreeSlot}
use Rattle.heap.specs.HeapShown.{HeapShown, UnitShown}
use Rattle.heap_rule.specs.declared.views.UnitKnown.{UnitKnown}
use Rattle.heap_rule.specs.Views.{are_clean}
use Rattle.slots.specs.declared.books.Written.{Written}
use Rattle.slots.specs.Books.{BooksShown, RegionShown, AreBooks, AreBooksOf, Agrees, IsRegionOf, StaysOpen, times, slots_in, record_in, slot_before, as_written, HasLowerIdentity}
use Rattle.slots.specs.WrittenRecords.{record_by, identity_by, body_by, version_in, greatest_version, identity_after, serial_after, slot_named, IsLiveAt, NamesLive, CanPut}
use Rattle.slots.specs.Putting.{MayWrite, MayStore, IsUnfinishedAt, FirstIsUnfinished, HasPut, WasCutPutting, unit_put, put_by, seat_put, books_put}
use Rattle.slots.specs.Rooms.{at_front}
use Rattle.slots.specs.Serials.{is_queue, serial_past, IsNextSerial}
use Rattle.slots.proofs.Times.{times_cons, record_times_append}
use Rattle.slots.proofs.NextSerials.{put_serials, serial_put}
use Rattle.slots.proofs.Agreements.{all_before, live_newest, next_unused, record_found, free_slot, slot_inside}

some_version : (kind : Kind) (v : ℕ) → IsVersionOf kind v → 1 ≤ v
some_version kinds.New v h = omega arith
some_version kinds.Copy v h = let l = h.0 in omega arith
some_version kinds.Delete v h = let l = h.0 in omega arith

module _ (recs : List Held) (ret : List Retired) (lost : List ℕ) (wr : List Held) (h : List Entry) (frozen : Option ℕ) (b : BooksShown)
    (k : AreBooks recs ret lost wr h frozen b) where
  -- ---- a live record by its slot
  live_found : (slot i : ℕ) (l : IsLiveAt recs slot i) → record_in recs slot ≡ Some l.live
  live_found slot i l =
      let new : IsNewest i recs l.live = newest_is i recs l.live (live_newest recs i l.live l.is) in
      subst (λ (n : ℕ). record_in recs n ≡ Some l.live) l.in_slot (record_found recs ret lost wr h frozen b k l.live new.there)

  live_low : (slot i : ℕ) → IsLiveAt recs slot i → i < b.identity
  live_low slot i l =
      let new : IsNewest i recs l.live = newest_is i recs l.live (live_newest recs i l.live l.is) in
      let low : l.live.label.identity < b.identity = all_before (HasLowerIdentity b.identity) recs wr k.numbered l.live new.there in
      let same = new.identity in omega arith

  live_version : (slot i : ℕ) (l : IsLiveAt recs slot i) → greatest_version i recs ≡ l.live.label.version
  live_version slot i l = ap version_in (live_newest recs i l.live l.is)

  live_valid : (slot i : ℕ) (l : IsLiveAt recs slot i) → IsRecordOf b.unit l.live × (l.live.label.identity ≡ i)
  live_valid slot i l =
      let new : IsNewest i recs l.live = newest_is i recs l.live (live_newest recs i l.live l.is) in
      (all_before (IsRecordOf b.unit) recs wr k.valid l.live new.there, new.identity)

  -- the version of the record in the slot is the greatest of its identity
  pub version_found : (slot i : ℕ) → IsLiveAt recs slot i → version_in (record_in recs slot) ≡ greatest_version i recs
  version_found slot i l = ap version_in (live_found slot i l) ∙ sym (live_version slot i l)

  -- ---- what is written
  -- the slot of the version before it
  pub before_named : (change : Change) (epoch slot : ℕ) → NamesLive recs change
      → slot_named change ≡ slot_before recs (record_by b.unit b.identity recs change epoch slot)
  before_named (Insert body) epoch slot names = sym (ap (option_map (λ (r : Held). r.slot)) (next_unused recs ret lost wr h frozen b k))
  before_named (Replace old i body) epoch slot l =
      ap Some (sym l.in_slot) ∙ sym (ap (option_map (λ (r : Held). r.slot)) (live_newest recs i l.live l.is))
  before_named (Remove old i) epoch slot l =
      ap Some (sym l.in_slot) ∙ sym (ap (option_map (λ (r : Held). r.slot)) (live_newest recs i l.live l.is))

  few_units : b.unit < 256
  few_units = let low = k.own.inside in let few = k.own.layout.kinds.few in omega arith

  -- a first version, and a later one
  pub first_version : greatest_version b.identity recs + 1 ≡ 1
  first_version = ap (λ (o : Option Held). version_in o + 1) (next_unused recs ret lost wr h frozen b k)

  next_version : (slot i : ℕ) → IsLiveAt recs slot i → nat_le LAST (greatest_version i recs) ≡ false
      → (2 ≤ greatest_version i recs + 1) × (greatest_version i recs + 1 ≤ LAST)
  next_version slot i l more =
      let v = (live_valid slot i l).0.label.version in
      let some = some_version l.live.label.kind l.live.label.version v in
      let same = live_version slot i l in
      let below : greatest_version i recs < LAST = grind (arith, nat_tests) in
      (omega arith, omega arith)

  module _ (epoch slot : ℕ) (some : 1 ≤ epoch) (last : epoch ≤ LAST) where
    pub record_valid : (change : Change) → CanPut b recs change → length (body_by change) ≡ BODY
        → IsRecordOf b.unit (record_by b.unit b.identity recs change epoch slot)
    record_valid (Insert body) may long = record {
      label = record {
        unit = few_units;
        some_epoch = some;
        last_epoch = last;
        some_identity = k.begun;
        last_identity = may.identity refl;
        version = first_version;
      };
      of_unit = refl;
      body = long;
    }
    record_valid (Replace old i body) may long =
        let v = live_valid old i may.names in
        let low = v.0.label.some_identity in
        let high = v.0.label.last_identity in
        let same = v.1 in
        record {
          label = record {
            unit = few_units;
            some_epoch = some;
            last_epoch = last;
            some_identity = omega arith;
            last_identity = omega arith;
            version = next_version old i may.names may.version;
          };
          of_unit = refl;
          body = long;
        }
    record_valid (Remove old i) may long =
        let v = live_valid old i may.names in
        let low = v.0.label.some_identity in
        let high = v.0.label.last_identity in
        let same = v.1 in
        record {
          label = record {
            unit = few_units;
            some_epoch = some;
            last_epoch = last;
            some_identity = omega arith;
            last_identity = omega arith;
            version = next_version old i may.names may.version;
          };
          of_unit = refl;
          body = long;
        }

  -- ---- the books once it is written
  pub grows : (change : Change) → b.identity ≤ identity_after b.identity change
  grows (Insert body) = omega arith
  grows (Replace old i body) = omega arith
  grows (Remove old i) = omega arith

  pub low_identity : (change : Change) → NamesLive recs change → identity_by b.identity change < identity_after b.identity change
  low_identity (Insert body) names = omega arith
  low_identity (Replace old i body) names = live_low old i names
  low_identity (Remove old i) names = live_low old i names

  pub put_books : (w : Held) (rest : List ℕ) (identity serial : ℕ) → b.free ≡ w.slot ∷ rest → IsRecordOf b.unit w
      → b.identity ≤ identity → w.label.identity < identity → (IsTrue (is_queue b.layout b.unit) → serial ≡ serial_past b.serial w)
      → AreBooks recs ret lost (wr ++ w ∷ []) h frozen
      (record b { free = rest; written = b.written ++ as_written recs w ∷ []; identity = identity; serial = serial })
  put_books w rest identity serial first valid more low follows = record {
    own = k.own;
    slots = record {
      each = λ x.
          let f : times x b.free ≡ (if w.slot == x then 1 else 0) + times x rest = ap (times x) first ∙ times_cons x w.slot rest in
          let d : times x (w.slot ∷ []) ≡ (if w.slot == x then 1 else 0) + times x [] = times_cons x w.slot [] in
          let a : times x (slots_in (wr ++ w ∷ [])) ≡ times x (slots_in wr) + times x (w.slot ∷ []) =
          record_times_append x wr (w ∷ []) in
          let all = k.slots.each x in omega arith;
      many =
          let f : length b.free ≡ length (w.slot ∷ rest) = ap length first in
          let a = length-append wr (w ∷ []) in
          let all = k.slots.many in omega arith;
    };
    apart = k.apart;
    valid = subst (All (IsRecordOf b.unit)) (append_assoc recs wr (w ∷ []))
        (All-append (IsRecordOf b.unit) (recs ++ wr) (w ∷ []) k.valid
        (All-cons (IsRecordOf b.unit) w [] valid (All-nil (IsRecordOf b.unit))));
    begun = let some = k.begun in omega arith;
    numbered = subst (All (HasLowerIdentity identity)) (append_assoc recs wr (w ∷ []))
        (All-append (HasLowerIdentity identity) (recs ++ wr) (w ∷ [])
        (λ i d lt. let below : HasLowerIdentity b.identity (get_or (recs ++ wr) i d) = k.numbered i d lt in omega arith)
        (All-cons (HasLowerIdentity identity) w [] low (All-nil (HasLowerIdentity identity))));
    serials = λ queue. subst (IsNextSerial recs (wr ++ w ∷ [])) (sym (follows queue)) (put_serials recs wr w b.serial (k.serials queue));
    retires = k.retires;
    rows_are = k.rows_are;
    retired_are = k.retired_are;
    lost_are = k.lost_are;
    written_are = ap (λ (l : List Written). l ++ as_written recs w ∷ []) k.written_are
        ∙ sym (map-append (as_written recs) wr (w ∷ []));
    places_are = k.places_are;
    newest_is = k.newest_is;
    halted_is = k.halted_is;
  }

-- ---- of a region
pub front_is : {A : Type 0} (a : A) (l : List A) → at_front l ≡ Some a → l ≡ a ∷ drop 1 l
front_is a [] e = absurd (cc)
front_is a (x ∷ l) e = ap (λ y. y ∷ l) (same_Some x a e)

module _ (r : RegionShown) (change : Change) (epoch slot : ℕ) (agrees : Agrees r) (first : at_front r.books.free ≡ Some slot) where
  free_shape : r.books.free ≡ slot ∷ drop 1 r.books.free
  free_shape = front_is slot r.books.free first

  -- the first free slot may be written
  pub may_store : (heap : HeapShown) (w : Held) → IsRegionOf heap r → r.books.halted ≡ None → MayWrite r.seat.known.part epoch
      → w ≡ put_by r change epoch slot → IsRecordOf r.books.unit w → MayStore heap.opening.layout r.seat.known w
  may_store heap w region running writes is valid =
      let p = r.seat.known.part in
      let slot_is : w.slot ≡ slot = ap (λ (x : Held). x.slot) is in
      let free = free_slot p.records p.retired p.lost p.written p.history p.frozen r.books agrees.1 p refl refl refl slot
      (subst (λ (l : List ℕ). Contains l slot) (sym free_shape) (first_element slot (drop 1 r.books.free))) in
      record {
        running = sym agrees.1.halted_is ∙ running;
        registered = subst (λ (x : Held). MayWrite p x.label.epoch) (sym is) writes;
        unused = subst (λ (x : Shape × ℕ × ℕ). IsFreeSlot x.0 x.1 p x.2) (λ i. (region.layout i, agrees.0 i, sym slot_is i)) free;
        inside = subst (λ (x : Shape × ℕ). x.1 < total_of x.0) (λ i. (region.layout i, sym slot_is i))
            (slot_inside p.records p.retired p.lost p.written p.history p.frozen r.books agrees.1 slot free.of_unit);
        valid = subst (λ (u : ℕ). IsRecordOf u w) agrees.0 valid;
      }

  pub room_to_write : length r.books.written < r.books.layout.slots
  room_to_write =
      let many = agrees.1.slots.many in
      let short : length r.books.free ≡ length (slot ∷ drop 1 r.books.free) = ap length free_shape in
      let written = ap length agrees.1.written_are ∙ length-map r.seat.known.part.written (as_written r.seat.known.part.records) in
      omega arith

  -- it was
  pub region_put : (w : Held) (before : Option ℕ) (seat : UnitShown) (books : BooksShown) → CanPut r.books r.seat.known.part.records change
      → w ≡ put_by r change epoch slot → before ≡ slot_named change → IsRecordOf r.books.unit w
      → seat ≡ record r.seat { known = unit_put r.seat.known w }
      → books ≡ record r.books {
        free = drop 1 r.books.free;
        written = r.books.written ++ (let one : Written = record { held = w; before = before } in one) ∷ [];
        identity = identity_after r.books.identity change;
        serial = serial_after r.books change;
      }
      → (let new : RegionShown = record { seat = seat; books = books } in HasPut r new change epoch slot × Agrees new)
  region_put w before seat books may is named valid s b = (
    record { rest = drop 1 r.books.free; first = free_shape; seat_is = seat_is; books_are = books_are },
    subst Agrees (λ i. (let x : RegionShown = record { seat = sym seat_is i; books = sym books_are i } in x)) follows,
  )
    where
      seat_is : seat ≡ seat_put r change epoch slot
      seat_is = s ∙ (λ i. record r.seat { known = unit_put r.seat.known (is i) })

      before_is : before ≡ slot_before r.seat.known.part.records (put_by r change epoch slot)
      before_is = let p = r.seat.known.part in
          named ∙ before_named p.records p.retired p.lost p.written p.history p.frozen r.books agrees.1 change epoch slot may.names

      books_are : books ≡ books_put r change epoch slot (drop 1 r.books.free)
      books_are = b ∙ (λ i. record r.books {
        free = drop 1 r.books.free;
        written = r.books.written ++ (let one : Written = record { held = is i; before = before_is i } in one) ∷ [];
        identity = identity_after r.books.identity change;
        serial = serial_after r.books change;
      })

      follows : (let x : RegionShown =
          record { seat = seat_put r change epoch slot; books = books_put r change epoch slot (drop 1 r.books.free) } in
          Agrees x)
      follows = let p = r.seat.known.part in (
        agrees.0,
        put_books p.records p.retired p.lost p.written p.history p.frozen r.books agrees.1 (put_by r change epoch slot)
            (drop 1 r.books.free)
            (identity_after r.books.identity change) (serial_after r.books change) free_shape (subst (IsRecordOf r.books.unit) is valid)
            (grows p.records p.retired p.lost p.written p.history p.frozen r.books agrees.1 change)
            (low_identity p.records p.retired p.lost p.written p.history p.frozen r.books agrees.1 change may.names)
            (serial_put r.books p.records change epoch slot),
      )

  -- or it was cut
  pub put_cut : (w : Held) (seat : UnitShown) → w ≡ put_by r change epoch slot → IsUnfinishedAt r.seat seat w
      → (let new : RegionShown = record { seat = seat; books = r.books } in WasCutPutting r new change epoch × Agrees new)
  put_cut w seat is cut = (
    record {
      books_are = refl;
      unfinished = subst (FirstIsUnfinished r seat change epoch) (sym free_shape) (subst (IsUnfinishedAt r.seat seat) is cut);
    },
    by cut,
  )
    where
      by : IsUnfinishedAt r.seat seat w → (r.books.unit ≡ seat.known.unit) × AreBooksOf seat.known.part r.books
      by (inl e) = subst (λ (x : UnitShown). (r.books.unit ≡ x.known.unit) × AreBooksOf x.known.part r.books) (sym e) agrees
      by (inr c) = subst (λ (x : UnitKnown). (r.books.unit ≡ x.unit) × AreBooksOf x.part r.books) (sym c.1.shows) agrees

  -- the heap and the history are as before
  pub put_open : (heap : HeapShown) (w : Held) (seat : UnitShown) (books : BooksShown) → IsRegionOf heap r → r.books.halted ≡ None
      → books.layout ≡ r.books.layout → books.halted ≡ r.books.halted
      → (seat ≡ record r.seat { known = unit_put r.seat.known w }) ⊎ IsUnfinishedAt r.seat seat w
      → (let new : RegionShown = record { seat = seat; books = books } in StaysOpen heap r new)
  put_open heap w seat books region running layout halted shows = by shows
    where
      opened : seat.table ≡ r.seat.table → seat.known.part.history ≡ r.seat.known.part.history → seat.known.clean ≡ r.seat.known.clean
          → (let new : RegionShown = record { seat = seat; books = books } in StaysOpen heap r new)
      opened table history clean = record {
        of_heap = record { table = table ∙ region.table; layout = layout ∙ region.layout };
        running = halted ∙ running;
        history = history;
        clean = λ was. subst (λ (l : List ℕ). IsTrue (are_clean (units_of heap.opening.layout) l)) (sym clean) was;
      }

      by : (seat ≡ record r.seat { known = unit_put r.seat.known w }) ⊎ IsUnfinishedAt r.seat seat w
          → (let new : RegionShown = record { seat = seat; books = books } in StaysOpen heap r new)
      by (inl e) = opened (ap (λ (x : UnitShown). x.table) e) (ap (λ (x : UnitShown). x.known.part.history) e)
          (ap (λ (x : UnitShown). x.known.clean) e)
      by (inr (inl e)) = opened (ap (λ (x : UnitShown). x.table) e) (ap (λ (x : UnitShown). x.known.part.history) e)
          (ap (λ (x : UnitShown). x.known.clean) e)
      by (inr (inr c)) = opened c.0 (ap (λ (x : UnitKnown). x.part.history) c.1.shows) (ap (λ (x : UnitKnown). x.clean) c.1.shows)
