-- How a region closes its first lost slot.
use Rattle.std.proofs.Common.{◌≡◌, ℕ, ◌<◌, List, [], ◌∷◌, ◌++◌, length, drop, sym, refl, ap, ◌∙◌, subst, Bool, true, false, inr}
use Rattle.std.specs.Prelude.{not, Some, None, if◌then◌else◌}
use Rattle.std.proofs.lemmas.Option.{same_Some}
use Rattle.mont_base.specs.declared.record.Held.{Held}
use Rattle.mont_base.specs.Layout.{total_of}
use Rattle.mont_laws.specs.declared.retiring.Retired.{Retired}
use Rattle.core_steps.specs.declared.parts.UnitStage.TheVariants.{Idle, Closing}
use Rattle.core_steps.specs.Closing.{IsFirstLost, CanClose, CanPersistClose, without_lost}
use Rattle.core_steps.specs.Stages.{is_empty}
use Rattle.heap.specs.HeapShown.{UnitShown}
use Rattle.heap_rule.specs.Views.{unit_closed, unit_persisted}
use Rattle.slots.specs.Books.{BooksShown, RegionShown, AreBooks, AreBooksOf, Agrees}
use Rattle.slots.specs.Rooms.{at_front}
use Rattle.slots.specs.Sweeping.{IsSweepStage, MaySweep, seat_sweeping, sweeping_at, swept_at, swept_from, swept, IsSweeping, WasCutSweeping}
use Rattle.slots.proofs.Agreements.{slot_inside}
use Rattle.slots.proofs.Puts.{front_is}
use Rattle.slots.proofs.Closes.{lost_own, first_lost_rest, records_same, queue_same, room_beside, swept_books}

first_lost : (slot : ℕ) (lost : List ℕ) → at_front lost ≡ Some slot → IsFirstLost lost slot
first_lost slot [] e = absurd (cc)
first_lost slot (x ∷ lost) e = same_Some x slot e

one_first : (a b : ℕ) (lost : List ℕ) → IsFirstLost lost a → IsFirstLost lost b → a ≡ b
one_first a b [] h g = absurd h
one_first a b (x ∷ lost) h g = sym h ∙ g

module _ (r : RegionShown) (slot : ℕ) (agrees : Agrees r) (first : at_front r.books.lost ≡ Some slot) where
  shape : r.seat.known.part.lost ≡ slot ∷ drop 1 r.books.lost
  shape = sym agrees.1.lost_are ∙ front_is slot r.books.lost first

  books_at : AreBooks r.seat.known.part.records r.seat.known.part.retired (slot ∷ drop 1 r.books.lost) r.seat.known.part.written
      r.seat.known.part.history r.seat.known.part.frozen r.books
  books_at = let p = r.seat.known.part in
      subst (λ (l : List ℕ). AreBooks p.records p.retired l p.written p.history p.frozen r.books) shape agrees.1

  first_in_part : IsFirstLost r.seat.known.part.lost slot
  first_in_part = subst (λ (l : List ℕ). IsFirstLost l slot) agrees.1.lost_are (first_lost slot r.books.lost first)

  pub lost_inside : slot < total_of r.books.layout
  lost_inside = let p = r.seat.known.part in
      slot_inside p.records p.retired p.lost p.written p.history p.frozen r.books agrees.1 slot
      (lost_own p.records p.retired slot (drop 1 r.books.lost) p.written p.history p.frozen r.books books_at)

  pub lost_room : length r.books.free < r.books.layout.slots
  lost_room = let p = r.seat.known.part in
      room_beside p.records p.retired slot (drop 1 r.books.lost) p.written p.history p.frozen r.books books_at

  pub may_close_lost : r.books.halted ≡ None → MaySweep r → r.books.sweeping ≡ false → CanClose r.seat.known.part slot
  may_close_lost running may opened = record {
    unfrozen = sym agrees.1.halted_is ∙ running;
    stage = subst (λ (b : Bool). IsSweepStage b r.seat.known.part) opened may;
    due = inr first_in_part;
  }

  pub may_persist_lost : r.books.halted ≡ None → MaySweep r → CanPersistClose (seat_sweeping r slot).part slot
  may_persist_lost running may = by r.books.sweeping may
    where
      by : (b : Bool) → IsSweepStage b r.seat.known.part
          → CanPersistClose (if b then r.seat.known else unit_closed r.seat.known slot).part slot
      by true m = record {
        unfrozen = sym agrees.1.halted_is ∙ running;
        stage = m.1 ∙ ap Closing (one_first m.0 slot r.seat.known.part.lost m.2 first_in_part);
      }
      by false m = record { unfrozen = sym agrees.1.halted_is ∙ running; stage = refl }

  -- its label closed
  pub sweeping_agrees : Agrees (sweeping_at r slot)
  sweeping_agrees = by r.books.sweeping
    where
      marked : AreBooksOf r.seat.known.part r.books → AreBooksOf r.seat.known.part (record r.books { sweeping = true })
      marked k = record {
        own = k.own;
        slots = k.slots;
        apart = k.apart;
        valid = k.valid;
        begun = k.begun;
        numbered = k.numbered;
        serials = k.serials;
        retires = k.retires;
        rows_are = k.rows_are;
        retired_are = k.retired_are;
        lost_are = k.lost_are;
        written_are = k.written_are;
        places_are = k.places_are;
        newest_is = k.newest_is;
        halted_is = k.halted_is;
      }

      by : (b : Bool) → (r.books.unit ≡ (if b then r.seat.known else unit_closed r.seat.known slot).unit)
          × AreBooksOf (if b then r.seat.known else unit_closed r.seat.known slot).part (record r.books { sweeping = true })
      by true = (agrees.0, marked agrees.1)
      by false = (agrees.0, marked agrees.1)

  pub sweeping_may : MaySweep r → MaySweep (sweeping_at r slot)
  sweeping_may may = by r.books.sweeping may
    where
      by : (b : Bool) → IsSweepStage b r.seat.known.part
          → IsSweepStage true (if b then r.seat.known else unit_closed r.seat.known slot).part
      by true m = m
      by false m = (slot, refl, first_in_part)

  -- where it was closed before
  pub sweeping_still : r.books.sweeping ≡ true → r ≡ sweeping_at r slot
  sweeping_still closed = λ i. record {
    seat = record r.seat { known = sym (ap (λ (b : Bool). if b then r.seat.known else unit_closed r.seat.known slot) closed) i };
    books = record r.books { sweeping = closed i };
  }

  pub sweeping_now : (seat : UnitShown) (books : BooksShown) → r.books.sweeping ≡ false
      → seat ≡ record r.seat { known = unit_closed r.seat.known slot } → books ≡ record r.books { sweeping = true }
      → (let now : RegionShown = record { seat = seat; books = books } in now ≡ sweeping_at r slot)
  sweeping_now seat books opened s b = λ i. record { seat = (s ∙ held) i; books = b i }
    where
      held : record r.seat { known = unit_closed r.seat.known slot } ≡ record r.seat { known = seat_sweeping r slot }
      held = λ i. record r.seat { known = sym (ap (λ (b : Bool). if b then r.seat.known else unit_closed r.seat.known slot) opened) i }

  -- ---- and then durably so
  pub swept_is : (seat : UnitShown) (books : BooksShown)
      → seat ≡ record r.seat { known = unit_persisted (seat_sweeping r slot) slot }
      → books ≡ record r.books { lost = drop 1 r.books.lost; free = r.books.free ++ slot ∷ []; sweeping = false }
      → (let now : RegionShown = record { seat = seat; books = books } in now ≡ swept r)
  swept_is seat books s b =
      (λ i. record { seat = s i; books = b i }) ∙ sym (ap (swept_from r) (front_is slot r.books.lost first))

  swept_shape : swept r ≡ swept_at r slot (drop 1 r.books.lost)
  swept_shape = ap (swept_from r) (front_is slot r.books.lost first)

  pub swept_agrees : Agrees (swept r)
  swept_agrees = subst Agrees (sym swept_shape) (by r.books.sweeping)
    where
      follow : AreBooksOf (unit_persisted r.seat.known slot).part
          (record r.books { free = r.books.free ++ slot ∷ []; lost = drop 1 r.books.lost; sweeping = false })
      follow =
          let p = r.seat.known.part in
          let rest = drop 1 r.books.lost in
          let left : without_lost slot p.lost ≡ rest =
          ap (without_lost slot) shape ∙ first_lost_rest p.records p.retired slot rest p.written p.history p.frozen r.books books_at in
          subst (λ (x : (List Held) × (List Retired) × (List ℕ)). AreBooks x.0 x.1 x.2 p.written p.history p.frozen
          (record r.books { free = r.books.free ++ slot ∷ []; lost = rest; sweeping = false }))
          (λ i. (
            sym (records_same p.records p.retired slot rest p.written p.history p.frozen r.books books_at) i,
            sym (queue_same p.records p.retired slot rest p.written p.history p.frozen r.books books_at) i,
            sym left i,
          ))
          (swept_books p.records p.retired slot rest p.written p.history p.frozen r.books books_at)

      by : (b : Bool) → (r.books.unit ≡ (unit_persisted (if b then r.seat.known else unit_closed r.seat.known slot) slot).unit)
          × AreBooksOf (unit_persisted (if b then r.seat.known else unit_closed r.seat.known slot) slot).part
          (record r.books { free = r.books.free ++ slot ∷ []; lost = drop 1 r.books.lost; sweeping = false })
      by true = (agrees.0, follow)
      by false = (agrees.0, follow)

  pub swept_may : MaySweep (swept r)
  swept_may = subst MaySweep (sym swept_shape) (by r.books.sweeping)
    where
      by : (b : Bool) → (unit_persisted (if b then r.seat.known else unit_closed r.seat.known slot) slot).part.stage ≡ Idle
      by true = refl
      by false = refl

  pub swept_cut : WasCutSweeping r (sweeping_at r slot)
  swept_cut = inr (subst (IsSweeping r (sweeping_at r slot)) (sym (front_is slot r.books.lost first)) refl)

  pub lost_found : true ≡ not (is_empty r.books.lost)
  lost_found = sym (ap (λ (l : List ℕ). not (is_empty l)) (front_is slot r.books.lost first))

-- where no slot is lost
none_lost : (l : List ℕ) → at_front l ≡ None → l ≡ []
none_lost [] e = refl
none_lost (x ∷ l) e = absurd (cc)

pub swept_none : (r : RegionShown) → at_front r.books.lost ≡ None → r ≡ swept r
swept_none r e = sym (ap (swept_from r) (none_lost r.books.lost e))

pub not_found : (r : RegionShown) → at_front r.books.lost ≡ None → false ≡ not (is_empty r.books.lost)
not_found r e = sym (ap (λ (l : List ℕ). not (is_empty l)) (none_lost r.books.lost e))
