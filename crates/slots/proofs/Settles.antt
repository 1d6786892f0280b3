-- What becomes of the books once the unit has answered.
use Rattle.std.proofs.Common.{◌≡◌, ℕ, ◌+◌, ◌≤◌, List, [], ◌∷◌, ◌++◌, length, map, append_assoc, append-nil, length-append, sym, refl, ap, ◌∙◌, subst, arith, inl, inr}
use Rattle.std.specs.Prelude.{All, Option, Some, None, option_map}
use Rattle.std.specs.List.{Contains, flat_map}
use Rattle.std.proofs.lemmas.List.Elements.{All-cons, All-nil}
use Rattle.mont_base.specs.declared.operation.Entry.{Entry}
use Rattle.mont_base.specs.declared.operation.Receipt.{Receipt}
use Rattle.mont_base.specs.declared.record.Held.{Held}
use Rattle.mont_base.specs.Layout.{Shape, unit_of_slot}
use Rattle.mont_base.specs.State.{State, step}
use Rattle.mont_base.specs.Versions.{newest_of}
use Rattle.mont_laws.specs.declared.retiring.Retired.{Retired}
use Rattle.mont_laws.specs.Effects.{AreEffects}
use Rattle.mont_laws.specs.Records.{AreApart}
use Rattle.mont_laws.specs.Retiring.{Retires, HaveNewSlots, retired_by, retired_by_all}
use Rattle.mont_laws.specs.SlotReadings.{IsRecordOf}
use Rattle.mont_laws.specs.Structures.{HasStructure}
use Rattle.mont_laws.proofs.Members.{first_element, later_element}
use Rattle.mont_laws.proofs.Written.{step_retires}
use Rattle.core_steps.specs.declared.parts.UnitPart.{UnitPart}
use Rattle.core_steps.specs.Notes.{last_epoch}
use Rattle.slots.specs.Books.{BooksShown, AreBooks, AreBooksOf, RegionShown, books_showing, times, slots_in, rows_of, as_written, HasLowerIdentity}
use Rattle.slots.specs.Putting.{HasJustAnswered}
use Rattle.slots.specs.Rooms.{first_slot, placed, retired_at, retired_with, settled, IsOwnSlot}
use Rattle.slots.proofs.Times.{times_here, record_times, record_times_append, apart_slots}
use Rattle.slots.proofs.RowFacts.{find_none, rows_push}
use Rattle.slots.proofs.Agreements.{slot_own, slot_once, some_slots}
use Rattle.slots.proofs.Closes.{queue_short}
use Rattle.slots.proofs.NextSerials.{left_serials}

-- the books are those that show the part
pub books_shown : (p : UnitPart) (b : BooksShown) → AreBooksOf p b → b ≡ books_showing b p
books_shown p b k = λ i. record b {
  rows = k.rows_are i;
  retired = k.retired_are i;
  lost = k.lost_are i;
  written = k.written_are i;
  places = k.places_are i;
  newest = k.newest_is i;
  halted = k.halted_is i;
}

last_of_push : (h : List Entry) (e : Entry) → last_epoch (h ++ e ∷ []) ≡ e.epoch
last_of_push [] e = refl
last_of_push (d ∷ []) e = refl
last_of_push (d ∷ c ∷ h) e = last_of_push (c ∷ h) e

-- ---- each written record in the row of its slot
pub placed_rows : (s : Shape) (u : ℕ) (recs ws qs : List Held) → 1 ≤ s.slots → ((w : Held) → Contains ws w → unit_of_slot s w.slot ≡ u)
    → ((x : ℕ) → times x (slots_in qs) + times x (slots_in ws) ≤ 1)
    → placed (first_slot s u) (rows_of s u qs) (map (as_written recs) ws) ≡ rows_of s u (qs ++ ws)
placed_rows s u recs [] qs some own once = ap (rows_of s u) (sym (append-nil qs))
placed_rows s u recs (w ∷ ws) qs some own once =
    let here = times_here w.slot (slots_in ws) in
    let most = once w.slot in
    let none : times w.slot (slots_in qs) ≡ 0 = omega arith in
    ap (λ (rows : List (Option Held)). placed (first_slot s u) rows (map (as_written recs) ws))
    (rows_push s u w qs some (own w (first_element w ws)) (find_none w.slot qs none))
    ∙ placed_rows s u recs ws (qs ++ w ∷ []) some (λ z c. own z (later_element w ws z c)) (λ x.
    let all : times x (slots_in qs) + times x (slots_in (w ∷ ws)) ≤ 1 = once x in
    let a = record_times_append x qs (w ∷ []) in
    let b = record_times_append x (w ∷ []) ws in
    omega arith)
    ∙ ap (rows_of s u) (append_assoc qs (w ∷ []) ws)

-- ---- what written records retire
retired_one : (o : Option Held) (w : Held) → retired_at (option_map (λ (r : Held). r.slot) o) w ≡ retired_by o w
retired_one None w = refl
retired_one (Some r) w = refl

retired_each : (recs ws : List Held) → flat_map retired_with (map (as_written recs) ws) ≡ retired_by_all recs ws
retired_each recs [] = refl
retired_each recs (w ∷ ws) = λ i. retired_one (newest_of w.label.identity recs) w i ++ retired_each recs ws i

module _ (recs : List Held) (ret : List Retired) (lost : List ℕ) (wr : List Held) (h : List Entry) (frozen : Option ℕ) (b : BooksShown)
    (k : AreBooks recs ret lost wr h frozen b) where
  new_slots : HaveNewSlots recs wr
  new_slots = record {
    unused = λ r w a c e.
        let one : 1 ≤ times w.slot (slots_in recs) = subst (λ (n : ℕ). 1 ≤ times n (slots_in recs)) e (record_times recs r a) in
        let two = record_times wr w c in
        let most = slot_once recs ret lost wr h frozen b k w.slot in
        absurd (omega arith);
    apart = apart_slots wr (λ x. let most = slot_once recs ret lost wr h frozen b k x in omega arith);
  }

  pub written_own : (w : Held) → Contains wr w → unit_of_slot b.layout w.slot ≡ b.unit
  written_own w c = let one = record_times wr w c in slot_own recs ret lost wr h frozen b k w.slot (omega arith)

  rows_placed : placed (first_slot b.layout b.unit) b.rows b.written ≡ rows_of b.layout b.unit (recs ++ wr)
  rows_placed =
      (λ i. placed (first_slot b.layout b.unit) (k.rows_are i) (k.written_are i))
      ∙ placed_rows b.layout b.unit recs wr recs (some_slots recs ret lost wr h frozen b k) written_own
      (λ x. let most = slot_once recs ret lost wr h frozen b k x in omega arith)

  queue_placed : b.retired ++ flat_map retired_with b.written ≡ ret ++ retired_by_all recs wr
  queue_placed = (λ i. k.retired_are i ++ flat_map retired_with (k.written_are i))
      ∙ ap (λ (l : List Retired). ret ++ l) (retired_each recs wr)

  pub written_in_unit : All (IsOwnSlot b.layout b.unit) b.written
  written_in_unit = subst (All (IsOwnSlot b.layout b.unit)) (sym k.written_are) (each wr written_own)
    where
      each : (ws : List Held) → ((w : Held) → Contains ws w → unit_of_slot b.layout w.slot ≡ b.unit)
          → All (IsOwnSlot b.layout b.unit) (map (as_written recs) ws)
      each [] own = All-nil (IsOwnSlot b.layout b.unit)
      each (w ∷ ws) own = All-cons (IsOwnSlot b.layout b.unit) (as_written recs w) (map (as_written recs) ws) (own w (first_element w ws))
          (each ws (λ z c. own z (later_element w ws z c)))

  -- after a read nothing was written
  pub read_books : (e : Entry) → wr ≡ []
      → AreBooks recs ret lost wr (h ++ e ∷ []) frozen (record (settled b) { places = length h + 1; newest = e.epoch })
  read_books e none = record {
    own = k.own;
    slots = k.slots;
    apart = k.apart;
    valid = k.valid;
    begun = k.begun;
    numbered = k.numbered;
    serials = k.serials;
    retires = k.retires;
    rows_are = rows_placed ∙ ap (rows_of b.layout b.unit) (ap (λ (l : List Held). recs ++ l) none ∙ append-nil recs);
    retired_are = queue_placed ∙ ap (λ (l : List Held). ret ++ retired_by_all recs l) none ∙ append-nil ret;
    lost_are = k.lost_are;
    written_are = sym (ap (map (as_written recs)) none);
    places_are = sym (length-append h (e ∷ []));
    newest_is = sym (last_of_push h e);
    halted_is = k.halted_is;
  }

  module _ (state : State) (e : Entry) (shown : HasStructure b.layout b.unit recs state)
      (changes : AreEffects b.unit recs (step state e.op).effects wr) where
    keeps : AreApart (recs ++ wr) × Retires (recs ++ wr) (ret ++ retired_by_all recs wr)
    keeps = step_retires b.unit recs wr ret state e.op k.apart new_slots changes k.retires

    pub queue_room : length (b.retired ++ flat_map retired_with b.written) ≤ b.layout.slots
    queue_room =
        let short = queue_short (ret ++ retired_by_all recs wr) (recs ++ wr) keeps.1 in
        let same = ap length queue_placed in
        let long = length-append recs wr in
        let many = k.slots.many in
        omega arith

    pub left_books : AreBooks (recs ++ wr) (ret ++ retired_by_all recs wr) lost [] (h ++ e ∷ []) frozen
        (record (settled b) { places = length h + 1; newest = e.epoch })
    left_books = record {
      own = k.own;
      slots = record {
        each = λ x. let was = k.slots.each x in let a = record_times_append x recs wr in omega arith;
        many = let many = k.slots.many in let a = length-append recs wr in omega arith;
      };
      apart = keeps.0;
      valid = subst (All (IsRecordOf b.unit)) (sym (append-nil (recs ++ wr))) k.valid;
      begun = k.begun;
      numbered = subst (All (HasLowerIdentity b.identity)) (sym (append-nil (recs ++ wr))) k.numbered;
      serials = λ queue. left_serials b.unit recs b.layout state e.op wr b.serial queue shown changes (k.serials queue);
      retires = keeps.1;
      rows_are = rows_placed;
      retired_are = queue_placed;
      lost_are = k.lost_are;
      written_are = refl;
      places_are = sym (length-append h (e ∷ []));
      newest_is = sym (last_of_push h e);
      halted_is = k.halted_is;
    }

-- ---- of a region
pub room_of_answer : (r : RegionShown) (receipt : Receipt) → HasJustAnswered r receipt
    → length (r.books.retired ++ flat_map retired_with r.books.written) ≤ r.books.layout.slots
room_of_answer r receipt j =
    let p = j.before in
    let k : AreBooksOf p r.books = j.books_are in
    elim j.answered [
      | inl l ↦ queue_room p.records p.retired p.lost p.written p.history p.frozen r.books k l.state receipt.entry l.shown l.changes
      | inr l ↦
          let short = queue_short p.retired p.records k.retires in
          let many = k.slots.many in
          let same : length (r.books.retired ++ flat_map retired_with r.books.written) ≡ length p.retired =
          ap length (λ i. k.retired_are i ++ flat_map retired_with (k.written_are i))
          ∙ ap (λ (ws : List Held). length (p.retired ++ flat_map retired_with (map (as_written p.records) ws))) l.rests.written
          ∙ ap length (append-nil p.retired) in
          omega arith
    ]

pub own_of_answer : (r : RegionShown) (receipt : Receipt) → HasJustAnswered r receipt
    → All (IsOwnSlot r.books.layout r.books.unit) r.books.written
own_of_answer r receipt j =
    let p = j.before in written_in_unit p.records p.retired p.lost p.written p.history p.frozen r.books j.books_are

-- the books after the answer
abbrev after_books : BooksShown → Receipt → BooksShown
after_books b receipt = record (settled b) { places = receipt.place + 1; newest = receipt.entry.epoch }

pub answered_books : (r : RegionShown) (receipt : Receipt) → HasJustAnswered r receipt
    → AreBooksOf r.seat.known.part (after_books r.books receipt)
answered_books r receipt j =
    let p = j.before in
    let k : AreBooksOf p r.books = j.books_are in
    subst (λ (n : ℕ). AreBooksOf r.seat.known.part (record (settled r.books) { places = n + 1; newest = receipt.entry.epoch }))
    (sym j.place)
    (elim j.answered [
      | inl l ↦ subst (λ (q : UnitPart).
          AreBooksOf q (record (settled r.books) { places = length p.history + 1; newest = receipt.entry.epoch }))
          (sym l.leaves)
          (left_books p.records p.retired p.lost p.written p.history p.frozen r.books k l.state receipt.entry l.shown l.changes)
      | inr l ↦ subst (λ (q : UnitPart).
          AreBooksOf q (record (settled r.books) { places = length p.history + 1; newest = receipt.entry.epoch }))
          (sym l.reads)
          (read_books p.records p.retired p.lost p.written p.history p.frozen r.books k receipt.entry l.rests.written)
    ])
