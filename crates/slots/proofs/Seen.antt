-- From what contracts see of a region to what its fields have. The fields are r, and v is seen.
use Rattle.std.proofs.Common.{◌≡◌, ℕ, zero, suc, ◌+◌, ◌*◌, ◌<◌, ◌≤◌, List, [], ◌∷◌, ◌++◌, length, get_or, drop, add-zero, sym, refl, ap, ◌∙◌, subst, arith, false, inl, inr}
use Rattle.std.specs.Prelude.{All, Option, Some, None, Result, Ok, Err, OnOk, OnErr, nat_le, max}
use Rattle.std.specs.List.{flat_map, range_with_len}
use Rattle.std.proofs.lemmas.List.FromFn.{length-range_with_len}
use Rattle.std.proofs.lemmas.Bool.Decides.{nat_tests}
use Rattle.std.proofs.lemmas.Option.{same_Some}
use Rattle.mont_base.specs.declared.operation.Receipt.{Receipt}
use Rattle.mont_base.specs.declared.record.Change.{Change}
use Rattle.mont_base.specs.declared.record.Change.TheVariants.{Insert, Replace, Remove}
use Rattle.mont_base.specs.declared.record.Kind.{Kind}
use Rattle.mont_base.specs.declared.record.Held.{Held}
use Rattle.mont_base.specs.Layout.{Shape, total_of, unit_of_slot}
use Rattle.mont_base.specs.Record.{number_of_kind}
use Rattle.mont_base.specs.declared.constants.TheConstants.{FIELDS, BODY, LAST}
use Rattle.mont_laws.specs.SlotReadings.{held_words, IsRecordOf}
use Rattle.core_steps.specs.Closing.{IsFirstDue, CanPersistClose}
use Rattle.core_steps.specs.Storing.{IsFreeSlot, CanStore}
use Rattle.heap.specs.HeapShown.{HeapShown, UnitShown}
use Rattle.heap_rule.specs.Plays.{IsDurable}
use Rattle.heap_rule.specs.SoundUnits.{IsSoundUnit}
use Rattle.heap_rule.specs.Views.{unit_closed, unit_persisted, unit_loaded_durable, unit_wrote}
use Rattle.slots.specs.Books.{BooksShown, RegionShown, AreBooksOf, Agrees, IsRegionOf, IsAtRest, StaysOpen, books_showing, record_in, row_at}
use Rattle.slots.specs.Putting.{HasJustAnswered, HasPut, WasCutPutting, MayWrite, MayStore, unit_put, put_by, IsUnfinishedAt}
use Rattle.slots.specs.Reclaiming.{first_due, first_closed}
use Rattle.slots.specs.Sweeping.{MaySweep, WasCutSweeping, sweeping_at, swept}
use Rattle.slots.specs.Rooms.{at_front, settled, retired_with, IsOwnSlot}
use Rattle.slots.specs.declared.books.Written.{Written}
use Rattle.slots.specs.WrittenRecords.{CanPut, NamesLive, slot_named, kind_by, identity_by, body_by, version_in, greatest_version, ends_version, identity_after, serial_after}
use Rattle.slots.proofs.Agreements.{row_shows}
use Rattle.slots.proofs.Puts.{version_found, first_version, record_valid, may_store, room_to_write, region_put, put_cut, put_open}
use Rattle.slots.proofs.Reclaims.{books_closed, due_inside, due_own_slot, closed_is, IsReclaiming, begins}
use Rattle.slots.proofs.Settles.{books_shown, own_of_answer, room_of_answer, answered_books}
use Rattle.slots.proofs.Stores.{seat_begun, can_field, stored_field, can_label, stored_label, stored_cut}
use Rattle.slots.proofs.Sweeps.{lost_inside, lost_room, may_persist_lost, swept_is, swept_agrees, swept_cut, sweeping_may, sweeping_agrees}

-- ---- ranges
pub items_long : (a n : ℕ) (xs : List ℕ) → xs ≡ range_with_len a n → length xs ≡ n
items_long a n xs e = ap length e ∙ length-range_with_len a n

range_suc : (a n : ℕ) → range_with_len a (suc n) ≡ range_with_len a n ++ (a + n) ∷ []
range_suc a zero = ap (λ (y : ℕ). y ∷ []) (sym (add-zero a))
range_suc a (suc n) =
    let next : (a + 1) + n ≡ a + suc n = omega arith in
    ap (λ (l : List ℕ). a ∷ l) (range_suc (a + 1) n ∙ ap (λ (y : ℕ). range_with_len (a + 1) n ++ y ∷ []) next)

pub range_more : (a n m : ℕ) (xs ys : List ℕ) → xs ≡ range_with_len a n → ys ≡ xs ++ (a + n) ∷ [] → m ≡ n + 1 → ys ≡ range_with_len a m
range_more a n m xs ys e f is =
    let next : suc n ≡ m = omega arith in
    f ∙ ap (λ (l : List ℕ). l ++ (a + n) ∷ []) e ∙ sym (range_suc a n) ∙ ap (range_with_len a) next

-- ---- the stores of a record
module _ (s : Shape) (t x : UnitShown) (w : Held) (may : MayStore s t.known w) (n : ℕ) (at : x ≡ seat_begun t w n) where
  pub field_may : (field value : ℕ) → field ≡ n + 1 → field < FIELDS → value ≡ get_or (held_words w) field 0
      → CanStore (IsFreeSlot s x.known.unit x.known.part w.slot) x.known.unit x.known.part w.slot field value
  field_may field value is few words =
      subst (λ (y : UnitShown). CanStore (IsFreeSlot s y.known.unit y.known.part w.slot) y.known.unit y.known.part w.slot field value)
      (sym at)
      (can_field s t w may.valid may.running may.registered may.unused n field value is few words)

  pub field_stored : (y : UnitShown) (field value : ℕ) → field ≡ n + 1 → field < FIELDS → value ≡ get_or (held_words w) field 0
      → y ≡ record x { known = unit_wrote x.known w.slot field value } → y ≡ seat_begun t w field
  field_stored y field value is few words e =
      e ∙ (λ i. record (at i) { known = unit_wrote (at i).known w.slot field value })
      ∙ stored_field s t w may.valid may.running may.registered may.unused n field value is few words

  pub label_may : (value : ℕ) → n + 1 ≡ FIELDS → value ≡ get_or (held_words w) 0 0
      → CanStore (IsFreeSlot s x.known.unit x.known.part w.slot) x.known.unit x.known.part w.slot 0 value
  label_may value last words =
      subst (λ (y : UnitShown). CanStore (IsFreeSlot s y.known.unit y.known.part w.slot) y.known.unit y.known.part w.slot 0 value) (sym at)
      (can_label s t w may.valid may.running may.registered may.unused n value last words)

  pub label_stored : (y : UnitShown) (value : ℕ) → n + 1 ≡ FIELDS → y ≡ record x { known = unit_wrote x.known w.slot 0 value }
      → y ≡ record { table = t.table; known = unit_put t.known w }
  label_stored y value last e =
      e ∙ (λ i. record (at i) { known = unit_wrote (at i).known w.slot 0 value })
      ∙ stored_label s t w may.valid may.running may.registered may.unused n value last

  pub cut_stored : (y : UnitShown) → n < FIELDS → y ≡ x → IsUnfinishedAt t y w
  cut_stored y few e = subst (λ (z : UnitShown). IsUnfinishedAt t z w) (sym (e ∙ at))
      (stored_cut s t w may.valid may.running may.registered may.unused n few)

  pub label_end : {T E : Type 0} (result : Result T E) (y : UnitShown) (value : ℕ) → n + 1 ≡ FIELDS
      → OnOk result (y ≡ record x { known = unit_wrote x.known w.slot 0 value })
      → OnOk result (y ≡ record { table = t.table; known = unit_put t.known w })
  label_end (Ok a) y value last e = label_stored y value last e
  label_end (Err a) y value last e = tt

  pub cut_end : {T E : Type 0} (result : Result T E) (y : UnitShown) → n < FIELDS → OnErr result (y ≡ x)
      → OnErr result (IsUnfinishedAt t y w)
  cut_end (Ok a) y few e = tt
  cut_end (Err a) y few e = cut_stored y few e

-- the words of a body stand after the four of the label
pub body_word : (w : Held) (at : ℕ) → get_or w.body at 0 ≡ get_or (held_words w) (4 + at) 0
body_word w at =
    let behind : suc (suc (suc (suc at))) ≡ 4 + at = omega arith in ap (λ (field : ℕ). get_or (held_words w) field 0) behind

-- the three words after the label's epoch, one by one
module _ (s : Shape) (t : UnitShown) (w : Held) (may : MayStore s t.known w) (word : ℕ)
    (is : word ≡ 256 * number_of_kind w.label.kind + w.label.unit) where
  pub kind_may : CanStore (IsFreeSlot s t.known.unit t.known.part w.slot) t.known.unit t.known.part w.slot 1 word
  kind_may = field_may s t t w may 0 refl 1 word refl (omega arith) is

  module _ (x : UnitShown) (first : x ≡ record t { known = unit_wrote t.known w.slot 1 word }) where
    pub kind_stored : x ≡ seat_begun t w 1
    kind_stored = field_stored s t t w may 0 refl x 1 word refl (omega arith) is first

    pub identity_may : CanStore (IsFreeSlot s x.known.unit x.known.part w.slot) x.known.unit x.known.part w.slot 2 w.label.identity
    identity_may = field_may s t x w may 1 kind_stored 2 w.label.identity refl (omega arith) refl

    module _ (y : UnitShown) (second : y ≡ record x { known = unit_wrote x.known w.slot 2 w.label.identity }) where
      pub identity_stored : y ≡ seat_begun t w 2
      identity_stored = field_stored s t x w may 1 kind_stored y 2 w.label.identity refl (omega arith) refl second

      pub version_may : CanStore (IsFreeSlot s y.known.unit y.known.part w.slot) y.known.unit y.known.part w.slot 3 w.label.version
      version_may = field_may s t y w may 2 identity_stored 3 w.label.version refl (omega arith) refl

      pub version_stored : (z : UnitShown) → z ≡ record y { known = unit_wrote y.known w.slot 3 w.label.version } → z ≡ seat_begun t w 3
      version_stored z third = field_stored s t y w may 2 identity_stored z 3 w.label.version refl (omega arith) refl third

-- ---- reading and closing
module _ (r v : RegionShown) (is : r ≡ v) (agrees : Agrees v) where
  pub found_in : (slot : ℕ) (o : Option Held) → o ≡ row_at r.books slot → o ≡ record_in v.seat.known.part.records slot
  found_in slot o e = let p = v.seat.known.part in
      e ∙ ap (λ (x : RegionShown). row_at x.books slot) is
      ∙ row_shows p.records p.retired p.lost p.written p.history p.frozen v.books agrees.1 slot

  module _ (slot : ℕ) (rests : IsAtRest v.seat.known.part) (due : IsFirstDue v.books.retired v.seat.known.part.durable slot) where
    pub own_at : unit_of_slot r.books.layout slot ≡ r.books.unit
    own_at = subst (λ (x : RegionShown). unit_of_slot x.books.layout slot ≡ x.books.unit) (sym is) (due_own_slot v slot agrees rests due)

    pub closed_at : (first second : UnitShown) (books : BooksShown)
        → first ≡ record r.seat { known = unit_closed r.seat.known slot }
        → second ≡ record first { known = unit_persisted first.known slot }
        → books ≡ books_closed r.books slot
        → (let now : RegionShown = record { seat = second; books = books } in now ≡ first_closed v slot)
    closed_at first second books f g b = closed_is v slot agrees rests due second books
        (g ∙ (λ i. record (f i) { known = unit_persisted (f i).known slot })
        ∙ (λ i. record (is i).seat { known = unit_persisted (unit_closed (is i).seat.known slot) slot }))
        (b ∙ ap (λ (x : RegionShown). books_closed x.books slot) is)

pub due_in_heap : (heap : HeapShown) (v : RegionShown) (slot : ℕ) → IsRegionOf heap v → Agrees v → IsAtRest v.seat.known.part
    → IsFirstDue v.books.retired v.seat.known.part.durable slot → slot < total_of heap.opening.layout
due_in_heap heap v slot region agrees rests due =
    subst (λ (s : Shape). slot < total_of s) region.layout (due_inside v slot agrees rests due)

pub lost_in_heap : (heap : HeapShown) (v : RegionShown) (slot : ℕ) → IsRegionOf heap v → Agrees v → at_front v.books.lost ≡ Some slot
    → slot < total_of heap.opening.layout
lost_in_heap heap v slot region agrees first =
    subst (λ (s : Shape). slot < total_of s) region.layout (lost_inside v slot agrees first)

-- ---- answers
module _ (r v : RegionShown) (receipt : Receipt) (is : r ≡ v) (j : HasJustAnswered v receipt) where
  pub own_answered : All (IsOwnSlot r.books.layout r.books.unit) r.books.written
  own_answered = subst (λ (x : RegionShown). All (IsOwnSlot x.books.layout x.books.unit) x.books.written) (sym is)
      (own_of_answer v receipt j)

  pub room_answered : length (r.books.retired ++ flat_map retired_with r.books.written) ≤ r.books.layout.slots
  room_answered = subst (λ (x : RegionShown). length (x.books.retired ++ flat_map retired_with x.books.written) ≤ x.books.layout.slots)
      (sym is) (room_of_answer v receipt j)

  settled_is : (books : BooksShown) → books ≡ record (settled r.books) { places = receipt.place + 1; newest = receipt.entry.epoch }
      → books ≡ record (settled v.books) { places = receipt.place + 1; newest = receipt.entry.epoch }
  settled_is books b = b ∙ ap (λ (x : RegionShown). let y : BooksShown = record (settled x.books) {
    places = receipt.place + 1;
    newest = receipt.entry.epoch;
  } in y) is

  pub answered_is : (books : BooksShown) → books ≡ record (settled r.books) { places = receipt.place + 1; newest = receipt.entry.epoch }
      → books ≡ books_showing v.books v.seat.known.part
  answered_is books b =
      settled_is books b ∙ books_shown v.seat.known.part (record (settled v.books) {
        places = receipt.place + 1;
        newest = receipt.entry.epoch;
      }) (answered_books v receipt j)

  pub answered_agree : (seat : UnitShown) (books : BooksShown) → seat ≡ r.seat
      → books ≡ record (settled r.books) { places = receipt.place + 1; newest = receipt.entry.epoch }
      → (let now : RegionShown = record { seat = seat; books = books } in Agrees now)
  answered_agree seat books s b = subst (λ (x : UnitShown × BooksShown). (x.1.unit ≡ x.0.known.unit) × AreBooksOf x.0.known.part x.1)
      (λ i. (sym (s ∙ ap (λ (x : RegionShown). x.seat) is) i, sym (settled_is books b) i)) (j.unit_is, answered_books v receipt j)

-- what stands whatever was answered
pub on_err : {T E : Type 0} (P : Type 0) (result : Result T E) → P → OnErr result P
on_err P (Ok x) p = tt
on_err P (Err e) p = p

-- ---- writing
module _ (heap : HeapShown) (r v : RegionShown) (is : r ≡ v) (change : Change) (epoch slot : ℕ) (w : Held) (region : IsRegionOf heap v)
    (agrees : Agrees v) (running : v.books.halted ≡ None) (may : CanPut v.books v.seat.known.part.records change)
    (first : at_front r.books.free ≡ Some slot) (writes : w ≡ put_by v change epoch slot) (valid : IsRecordOf v.books.unit w) where
  first_seen : at_front v.books.free ≡ Some slot
  first_seen = subst (λ (x : RegionShown). at_front x.books.free ≡ Some slot) is first

  pub store_at : MayWrite v.seat.known.part epoch → MayStore heap.opening.layout r.seat.known w
  store_at registered = subst (λ (x : RegionShown). MayStore heap.opening.layout x.seat.known w) (sym is)
      (may_store v change epoch slot agrees first_seen heap w region running registered writes valid)

  pub room_at : length r.books.written < r.books.layout.slots
  room_at = subst (λ (x : RegionShown). length x.books.written < x.books.layout.slots) (sym is)
      (room_to_write v change epoch slot agrees first_seen)

  pub put_at : (before : Option ℕ) (seat : UnitShown) (books : BooksShown) → before ≡ slot_named change
      → seat ≡ record r.seat { known = unit_put r.seat.known w }
      → books ≡ record r.books {
        free = drop 1 r.books.free;
        written = r.books.written ++ (let one : Written = record { held = w; before = before } in one) ∷ [];
        identity = identity_after r.books.identity change;
        serial = serial_after r.books change;
      }
      → (let new : RegionShown = record { seat = seat; books = books } in
      HasPut v new change epoch slot × Agrees new × StaysOpen heap v new)
  put_at before seat books named s b =
      let seat_is : seat ≡ record v.seat { known = unit_put v.seat.known w } =
      s ∙ (λ i. record (is i).seat { known = unit_put (is i).seat.known w }) in
      let books_are = b ∙ (λ i. let x : BooksShown = record (is i).books {
        free = drop 1 (is i).books.free;
        written = (is i).books.written ++ (let one : Written = record { held = w; before = before } in one) ∷ [];
        identity = identity_after (is i).books.identity change;
        serial = serial_after (is i).books change;
      } in x) in
      let has = region_put v change epoch slot agrees first_seen w before seat books may writes named valid seat_is books_are in (
        has.0,
        has.1,
        put_open v change epoch slot agrees first_seen heap w seat books region running
            (ap (λ (x : BooksShown). x.layout) books_are) (ap (λ (x : BooksShown). x.halted) books_are) (inl seat_is),
      )

  pub cut_at : (seat : UnitShown) → IsUnfinishedAt r.seat seat w
      → (let new : RegionShown = record { seat = seat; books = r.books } in
      WasCutPutting v new change epoch × Agrees new × StaysOpen heap v new)
  cut_at seat cut =
      let c : IsUnfinishedAt v.seat seat w = subst (λ (x : RegionShown). IsUnfinishedAt x.seat seat w) is cut in
      let has = put_cut v change epoch slot agrees first_seen w seat writes c in
      subst (λ (b : BooksShown). let new : RegionShown = record { seat = seat; books = b } in
      WasCutPutting v new change epoch × Agrees new × StaysOpen heap v new)
      (sym (ap (λ (x : RegionShown). x.books) is))
      (has.0, has.1, put_open v change epoch slot agrees first_seen heap w seat v.books region running refl refl (inr c))

-- ---- reclaiming
pub begins_at : (heap : HeapShown) (r v : RegionShown) (clock : ℕ) (seat : UnitShown) → r ≡ v → IsRegionOf heap v → Agrees v
    → v.books.halted ≡ None → IsAtRest v.seat.known.part → seat ≡ record r.seat { known = unit_loaded_durable r.seat.known clock }
    → (now : ℕ) × IsSoundUnit heap.opening now clock seat.known
    → (let now : RegionShown = record { seat = seat; books = r.books } in IsReclaiming heap v now clock)
begins_at heap r v clock seat is region agrees running rests s sound =
    begins heap v (record { seat = seat; books = r.books }) clock region agrees
    running rests (λ i. record {
      seat = (s ∙ (λ j. record (is j).seat { known = unit_loaded_durable (is j).seat.known clock })) i;
      books = (is i).books;
    }) sound.1.begun (sound.0, (clock, sound.1))

-- ---- sweeping: r is the region with its first lost label closed
module _ (r v : RegionShown) (slot : ℕ) (is : r ≡ sweeping_at v slot) (agrees : Agrees v) (first : at_front v.books.lost ≡ Some slot) where
  pub persists_at : v.books.halted ≡ None → MaySweep v → CanPersistClose r.seat.known.part slot
  persists_at running may = subst (λ (x : RegionShown). CanPersistClose x.seat.known.part slot) (sym is)
      (may_persist_lost v slot agrees first running may)

  pub table_at : (heap : HeapShown) → IsRegionOf heap v → r.seat.table ≡ heap.table
  table_at heap region = ap (λ (x : RegionShown). x.seat.table) is ∙ region.table

  pub room_swept : length r.books.free < r.books.layout.slots
  room_swept = subst (λ (x : RegionShown). length x.books.free < x.books.layout.slots) (sym is) (lost_room v slot agrees first)

  pub swept_seen : (seat : UnitShown) (books : BooksShown) → seat ≡ record r.seat { known = unit_persisted r.seat.known slot }
      → books ≡ record r.books { lost = drop 1 r.books.lost; free = r.books.free ++ slot ∷ []; sweeping = false }
      → (let now : RegionShown = record { seat = seat; books = books } in now ≡ swept v)
  swept_seen seat books s b = swept_is v slot agrees first seat books
      (s ∙ (λ i. record (is i).seat { known = unit_persisted (is i).seat.known slot }))
      (b ∙ (λ i. let x : BooksShown = record (is i).books {
        lost = drop 1 (is i).books.lost;
        free = (is i).books.free ++ slot ∷ [];
        sweeping = false;
      } in x))

  pub swept_cut_at : MaySweep v → WasCutSweeping v r × MaySweep r × Agrees r
  swept_cut_at may = subst (λ (x : RegionShown). WasCutSweeping v x × MaySweep x × Agrees x) (sym is)
      (swept_cut v slot agrees first, sweeping_may v slot agrees first may, sweeping_agrees v slot agrees first)

-- ---- the record of a change
pub version_of_change : (v : RegionShown) (change : Change) (slot : ℕ) → Agrees v → NamesLive v.seat.known.part.records change
    → slot_named change ≡ Some slot → version_in (record_in v.seat.known.part.records slot)
    ≡ greatest_version (identity_by v.books.identity change) v.seat.known.part.records
version_of_change v (Insert body) slot agrees names e = absurd (cc)
version_of_change v (Replace old i body) slot agrees names e = let p = v.seat.known.part in
    subst (λ (n : ℕ). version_in (record_in p.records n) ≡ greatest_version i p.records) (same_Some old slot e)
    (version_found p.records p.retired p.lost p.written p.history p.frozen v.books agrees.1 old i names)
version_of_change v (Remove old i) slot agrees names e = let p = v.seat.known.part in
    subst (λ (n : ℕ). version_in (record_in p.records n) ≡ greatest_version i p.records) (same_Some old slot e)
    (version_found p.records p.retired p.lost p.written p.history p.frozen v.books agrees.1 old i names)

pub ends_is : (v : RegionShown) (change : Change) (slot version : ℕ) → Agrees v → NamesLive v.seat.known.part.records change
    → slot_named change ≡ Some slot → version ≡ version_in (record_in v.seat.known.part.records slot)
    → nat_le LAST version ≡ ends_version v.seat.known.part.records change
ends_is v (Insert body) slot version agrees names e is = absurd (cc)
ends_is v (Replace old i body) slot version agrees names e is =
    ap (nat_le LAST) (is ∙ version_of_change v (Replace old i body) slot agrees names e)
ends_is v (Remove old i) slot version agrees names e is =
    ap (nat_le LAST) (is ∙ version_of_change v (Remove old i) slot agrees names e)

pub version_low : (v : RegionShown) (change : Change) (slot version : ℕ) → Agrees v → CanPut v.books v.seat.known.part.records change
    → slot_named change ≡ Some slot → version ≡ version_in (record_in v.seat.known.part.records slot) → version < LAST
version_low v change slot version agrees may e is =
    let test : nat_le LAST version ≡ false = ends_is v change slot version agrees may.names e is ∙ may.version in
    grind (arith, nat_tests)

pub first_version_of : (v : RegionShown) (change : Change) → Agrees v → slot_named change ≡ None
    → 1 ≡ greatest_version (identity_by v.books.identity change) v.seat.known.part.records + 1
first_version_of v (Insert body) agrees e = let p = v.seat.known.part in
    sym (first_version p.records p.retired p.lost p.written p.history p.frozen v.books agrees.1)
first_version_of v (Replace old i body) agrees e = absurd (cc)
first_version_of v (Remove old i) agrees e = absurd (cc)

module _ (v : RegionShown) (change : Change) (epoch slot : ℕ) (kind : Kind) (unit identity version : ℕ) (body : List ℕ)
    (unit_is : unit ≡ v.books.unit) (kind_is : kind ≡ kind_by change) (identity_is : identity ≡ identity_by v.books.identity change)
    (version_is : version ≡ greatest_version (identity_by v.books.identity change) v.seat.known.part.records + 1)
    (body_is : body ≡ body_by change) where
  pub record_is_put : (let w : Held = record {
    slot = slot;
    label = record { epoch = epoch; kind = kind; unit = unit; identity = identity; version = version };
    body = body;
  } in w ≡ put_by v change epoch slot)
  record_is_put = λ i. record {
    slot = slot;
    label = record {
      epoch = epoch;
      kind = kind_is i;
      unit = unit_is i;
      identity = identity_is i;
      version = version_is i;
    };
    body = body_is i;
  }

  pub record_is_valid : Agrees v → MayWrite v.seat.known.part epoch → CanPut v.books v.seat.known.part.records change → length body ≡ BODY
      → (let w : Held = record {
        slot = slot;
        label = record { epoch = epoch; kind = kind; unit = unit; identity = identity; version = version };
        body = body;
      } in IsRecordOf v.books.unit w)
  record_is_valid agrees writes may long = let p = v.seat.known.part in
      subst (IsRecordOf v.books.unit) (sym record_is_put)
      (record_valid p.records p.retired p.lost p.written p.history p.frozen v.books agrees.1 epoch slot writes.some writes.last change may
      (ap length (sym body_is) ∙ long))

-- ---- the loop of a reclaim
module _ (r v : RegionShown) (is : r ≡ v) (slot : ℕ) where
  pub due_seen : (clock : ℕ) → Some slot ≡ first_due clock r.books.retired → first_due clock v.books.retired ≡ Some slot
  due_seen clock e = sym (e ∙ ap (λ (x : RegionShown). first_due clock x.books.retired) is)

  pub first_seen_lost : Some slot ≡ at_front r.books.lost → at_front v.books.lost ≡ Some slot
  first_seen_lost e = sym (e ∙ ap (λ (x : RegionShown). at_front x.books.lost) is)

pub durable_seen : (r v : RegionShown) (clock : ℕ) → r ≡ v → IsDurable (max r.seat.known.part.durable r.seat.known.learnt.durable) clock
    → IsDurable (max v.seat.known.part.durable v.seat.known.learnt.durable) clock
durable_seen r v clock is found =
    subst (λ (x : RegionShown). IsDurable (max x.seat.known.part.durable x.seat.known.learnt.durable) clock) is found

-- ---- the end of a sweep
pub sweep_agrees : (r x v : RegionShown) (slot : ℕ) (seat : UnitShown) (books : BooksShown) → r ≡ sweeping_at x slot → x ≡ v → Agrees v
    → at_front v.books.lost ≡ Some slot → seat ≡ record r.seat { known = unit_persisted r.seat.known slot }
    → books ≡ record r.books { lost = drop 1 r.books.lost; free = r.books.free ++ slot ∷ []; sweeping = false }
    → (let now : RegionShown = record { seat = seat; books = books } in Agrees now)
sweep_agrees r x v slot seat books is same agrees first s b =
    let at : r ≡ sweeping_at v slot = is ∙ ap (λ (y : RegionShown). sweeping_at y slot) same in
    subst Agrees (sym (swept_seen r v slot at agrees first seat books s b)) (swept_agrees v slot agrees first)
