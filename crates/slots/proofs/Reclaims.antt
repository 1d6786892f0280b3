-- How far a region has come with closing what is due.
use Rattle.std.proofs.Common.{◌≡◌, ℕ, zero, suc, ◌-◌, ◌<◌, ◌≤◌, List, [], ◌∷◌, ◌++◌, length, map, set, drop, append_assoc, append-nil, sym, refl, ap, ◌∙◌, subst, arith, Bool, true, false, cond, inl, inr, ◌⊎◌}
use Rattle.std.specs.Prelude.{◌==◌, ◌&&◌, ◌||◌, IsTrue, Option, Some, None, max, if◌then◌else◌}
use Rattle.std.proofs.lemmas.Bool.Decides.{nat_tests}
use Rattle.std.proofs.lemmas.List.{map-append}
use Rattle.std.proofs.lemmas.List.Sums.{take_while-cons}
use Rattle.std.proofs.lemmas.Option.{same_Some}
use Rattle.mont_base.specs.declared.operation.Entry.{Entry}
use Rattle.mont_base.specs.declared.record.Held.{Held}
use Rattle.mont_base.specs.Image.{clock_of}
use Rattle.mont_base.specs.Layout.{unit_of_slot, total_of, units_of}
use Rattle.mont_laws.specs.declared.retiring.Retired.{Retired}
use Rattle.mont_laws.specs.Records.{without_slot, live_of}
use Rattle.mont_laws.specs.Retiring.{Retires}
use Rattle.core_steps.specs.declared.parts.UnitPart.{UnitPart}
use Rattle.core_steps.specs.Closing.{IsFirstDue, CanClose, CanPersistClose, without_retired, without_lost}
use Rattle.core_steps.specs.Stages.{is_empty}
use Rattle.heap.specs.HeapShown.{HeapShown, UnitShown}
use Rattle.heap_rule.specs.declared.views.UnitKnown.{UnitKnown}
use Rattle.heap_rule.specs.Plays.{IsDurable}
use Rattle.heap_rule.specs.Views.{are_clean, is_among, with_clean, unit_closed, unit_persisted, unit_loaded_durable}
use Rattle.slots.specs.Books.{BooksShown, RegionShown, AreBooks, AreBooksOf, Agrees, IsRegionOf, IsAtRest, StaysClean, StaysOpen, books_showing}
use Rattle.slots.specs.Reclaiming.{is_due, due_at, first_due, unit_emptied, HasClosed, first_closed, WasCutClosingFirst, WasCutReclaiming, KeepsLive, IsSound}
use Rattle.slots.specs.Rooms.{first_slot}
use Rattle.slots.proofs.Agreements.{slot_inside}
use Rattle.slots.proofs.Closes.{due_own, lost_same, queue_rest, room_left, closed_books}
use Rattle.slots.proofs.Lives.{live_stays}
use Rattle.slots.proofs.Settles.{books_shown}

-- the books once the first retired slot is free
abbrev pub books_closed : BooksShown → ℕ → BooksShown
books_closed b slot = record b {
  rows = set b.rows (slot - first_slot b.layout b.unit) None;
  retired = drop 1 b.retired;
  free = b.free ++ slot ∷ [];
}

-- ---- one slot, of a unit that has nothing written
module _ (recs : List Held) (lost : List ℕ) (h : List Entry) (frozen : Option ℕ) (b : BooksShown) (known slot : ℕ) where
  pub due_in_unit : (ret : List Retired) (wr : List Held) → AreBooks recs ret lost wr h frozen b → wr ≡ [] → IsFirstDue ret known slot
      → unit_of_slot b.layout slot ≡ b.unit
  due_in_unit [] wr k none due = absurd due
  due_in_unit (t ∷ ts) wr k none due = subst (λ (n : ℕ). unit_of_slot b.layout n ≡ b.unit) due.0
      (due_own recs t ts lost h frozen b (subst (λ (ws : List Held). AreBooks recs (t ∷ ts) lost ws h frozen b) none k))

  pub room_for_due : (ret : List Retired) (wr : List Held) → AreBooks recs ret lost wr h frozen b → wr ≡ [] → IsFirstDue ret known slot
      → length b.free < b.layout.slots
  room_for_due [] wr k none due = absurd due
  room_for_due (t ∷ ts) wr k none due =
      room_left recs t ts lost h frozen b (subst (λ (ws : List Held). AreBooks recs (t ∷ ts) lost ws h frozen b) none k)

  pub lost_beside : (ret : List Retired) (wr : List Held) → AreBooks recs ret lost wr h frozen b → wr ≡ [] → IsFirstDue ret known slot
      → without_lost slot lost ≡ lost
  lost_beside [] wr k none due = absurd due
  lost_beside (t ∷ ts) wr k none due = subst (λ (n : ℕ). without_lost n lost ≡ lost) due.0
      (lost_same recs t ts lost h frozen b (subst (λ (ws : List Held). AreBooks recs (t ∷ ts) lost ws h frozen b) none k))

  pub queue_behind : (ret : List Retired) (wr : List Held) → AreBooks recs ret lost wr h frozen b → wr ≡ [] → IsFirstDue ret known slot
      → without_retired slot ret ≡ drop 1 ret
  queue_behind [] wr k none due = absurd due
  queue_behind (t ∷ ts) wr k none due = subst (λ (n : ℕ). without_retired n (t ∷ ts) ≡ ts) due.0
      (queue_rest recs t ts lost h frozen b (subst (λ (ws : List Held). AreBooks recs (t ∷ ts) lost ws h frozen b) none k))

  pub books_follow : (ret : List Retired) (wr : List Held) → AreBooks recs ret lost wr h frozen b → wr ≡ [] → IsFirstDue ret known slot
      → AreBooks (without_slot slot recs) (without_retired slot ret) (without_lost slot lost) wr h frozen (books_closed b slot)
  books_follow [] wr k none due = absurd due
  books_follow (t ∷ ts) wr k none due =
      let j = subst (λ (ws : List Held). AreBooks recs (t ∷ ts) lost ws h frozen b) none k in
      subst (λ (n : ℕ). AreBooks (without_slot n recs) (without_retired n (t ∷ ts)) (without_lost n lost) wr h frozen (books_closed b n))
      due.0
      (subst (λ (x : (List Held) × (List Retired) × (List ℕ)).
      AreBooks (without_slot t.slot recs) x.1 x.2 x.0 h frozen (books_closed b t.slot))
      (λ i. (sym none i, sym (queue_rest recs t ts lost h frozen b j) i, sym (lost_same recs t ts lost h frozen b j) i))
      (closed_books recs t ts lost h frozen b j))

-- ---- of a region
module _ (r : RegionShown) (slot : ℕ) (agrees : Agrees r) (rests : IsAtRest r.seat.known.part)
    (due : IsFirstDue r.books.retired r.seat.known.part.durable slot) where
  due_in_part : IsFirstDue r.seat.known.part.retired r.seat.known.part.durable slot
  due_in_part = subst (λ (l : List Retired). IsFirstDue l r.seat.known.part.durable slot) agrees.1.retired_are due

  pub may_close : r.books.halted ≡ None → CanClose r.seat.known.part slot
  may_close running = record { unfrozen = sym agrees.1.halted_is ∙ running; stage = rests.stage; due = inl due_in_part }

  pub may_persist : r.books.halted ≡ None → CanPersistClose (unit_closed r.seat.known slot).part slot
  may_persist running = record { unfrozen = sym agrees.1.halted_is ∙ running; stage = refl }

  pub due_own_slot : unit_of_slot r.books.layout slot ≡ r.books.unit
  due_own_slot = let p = r.seat.known.part in
      due_in_unit p.records p.lost p.history p.frozen r.books p.durable slot p.retired p.written agrees.1 rests.written due_in_part

  pub due_inside : slot < total_of r.books.layout
  due_inside = let p = r.seat.known.part in
      slot_inside p.records p.retired p.lost p.written p.history p.frozen r.books agrees.1 slot due_own_slot

  pub room_for : length r.books.free < r.books.layout.slots
  room_for = let p = r.seat.known.part in
      room_for_due p.records p.lost p.history p.frozen r.books p.durable slot p.retired p.written agrees.1 rests.written due_in_part

  pub closed_follow : AreBooksOf (unit_persisted (unit_closed r.seat.known slot) slot).part (books_closed r.books slot)
  closed_follow = let p = r.seat.known.part in
      books_follow p.records p.lost p.history p.frozen r.books p.durable slot p.retired p.written agrees.1 rests.written due_in_part

  -- the region is then the one with its first retired slot closed
  pub closed_is : (seat : UnitShown) (books : BooksShown)
      → seat ≡ record r.seat { known = unit_persisted (unit_closed r.seat.known slot) slot } → books ≡ books_closed r.books slot
      → (let now : RegionShown = record { seat = seat; books = books } in now ≡ first_closed r slot)
  closed_is seat books s b = λ i. record {
    seat = s i;
    books = (b ∙ books_shown (unit_persisted (unit_closed r.seat.known slot) slot).part (books_closed r.books slot) closed_follow) i;
  }

  pub closed_agrees : (now : RegionShown) → now ≡ first_closed r slot → Agrees now
  closed_agrees now e = subst Agrees (sym e) (
    agrees.0,
    subst (AreBooksOf (unit_persisted (unit_closed r.seat.known slot) slot).part)
        (books_shown (unit_persisted (unit_closed r.seat.known slot) slot).part (books_closed r.books slot) closed_follow) closed_follow,
  )

-- a cut of it leaves the books
pub cut_agrees : (r now : RegionShown) (slot : ℕ) → Agrees r → WasCutClosingFirst r now slot → Agrees now
cut_agrees r now slot agrees c = by c.held_is
  where
    by : (now.seat.known ≡ r.seat.known) ⊎ (now.seat.known ≡ unit_closed r.seat.known slot) → Agrees now
    by (inl g) = subst (λ (x : BooksShown × UnitKnown). (x.0.unit ≡ x.1.unit) × AreBooksOf x.1.part x.0)
        (λ i. (sym c.books_are i, sym g i)) agrees
    by (inr g) = subst (λ (x : BooksShown × UnitKnown). (x.0.unit ≡ x.1.unit) × AreBooksOf x.1.part x.0)
        (λ i. (sym c.books_are i, sym g i)) agrees

-- ---- all that is due
-- the loop has closed these, and the others that are due are left
pub record IsReclaiming (heap : HeapShown) (old now : RegionShown) (clock : ℕ) : Type 0 where
  pub closed : List Retired
  pub due : due_at clock old.books.retired ≡ closed ++ due_at clock now.books.retired
  pub has : HasClosed old now clock closed
  pub agrees : Agrees now
  pub rests : IsAtRest now.seat.known.part
  pub running : now.books.halted ≡ None
  pub region : IsRegionOf heap now
  pub known : now.seat.known.part.durable ≡ clock
  pub clean : (units : ℕ) → StaysClean units old now
  pub live : KeepsLive old now
  pub begun : clock_of heap.opening.words ≤ clock
  pub sound : IsSound heap now

pub begins : (heap : HeapShown) (old now : RegionShown) (clock : ℕ) → IsRegionOf heap old → Agrees old → old.books.halted ≡ None
    → IsAtRest old.seat.known.part
    → now ≡ record { seat = record old.seat { known = unit_loaded_durable old.seat.known clock }; books = old.books }
    → clock_of heap.opening.words ≤ clock → IsSound heap now → IsReclaiming heap old now clock
begins heap old now clock region agrees running rests is begun sound =
    subst (λ (x : RegionShown). IsReclaiming heap old x clock) (sym is) (record {
      closed = [];
      due = refl;
      has = record {
        seat_is = refl;
        books_are = λ i. record (books_shown old.seat.known.part old.books agrees.1 i) { free = sym (append-nil old.books.free) i };
        queue_is = refl;
        others_are = refl;
        part_is = refl;
      };
      agrees = agrees;
      rests = record { stage = rests.stage; written = rests.written; writing = rests.writing };
      running = running;
      region = record { table = region.table; layout = region.layout };
      known = refl;
      clean = λ units c. c;
      live = λ i. refl;
      begun = begun;
      sound = subst (IsSound heap) is sound;
    })

-- one more unit that is known to have none
clean_more : (u v : ℕ) (clean : List ℕ) → is_among clean v ≡ true → is_among (u ∷ clean) v ≡ true
clean_more u v clean e = by (u == v)
  where
    by : (b : Bool) → (b || is_among clean v) ≡ true
    by true = refl
    by false = e

both : (a b : Bool) → (a && b) ≡ true → (a ≡ true) × (b ≡ true)
both true b e = (refl, e)
both false b e = absurd (cc)

still_clean : (units u : ℕ) (clean : List ℕ) (p : UnitPart) → IsTrue (are_clean units clean)
    → IsTrue (are_clean units (with_clean clean u p))
still_clean units u clean p c = by (is_empty p.lost)
  where
    more : (n : ℕ) → IsTrue (are_clean n clean) → IsTrue (are_clean n (u ∷ clean))
    more zero h = h
    more (suc n) h =
        let t = both (is_among clean n) (are_clean n clean) h in
        λ i. clean_more u n clean t.0 i && more n t.1 i

    by : (b : Bool) → IsTrue (are_clean units (if b then u ∷ clean else clean))
    by true = more units c
    by false = c

emptied_push : (h : UnitKnown) (closed : List Retired) (t : Retired)
    → unit_emptied h (closed ++ t ∷ []) ≡ unit_persisted (unit_closed (unit_emptied h closed) t.slot) t.slot
emptied_push h [] t = refl
emptied_push h (c ∷ closed) t = emptied_push (unit_persisted (unit_closed h c.slot) c.slot) closed t

-- the first retired slot is due where one is found
pub due_found : (clock slot : ℕ) (ret : List Retired) → first_due clock ret ≡ Some slot
    → (t : Retired) × (ts : List Retired) × (ret ≡ t ∷ ts) × (t.slot ≡ slot) × (is_due clock t ≡ true)
due_found clock slot [] e = absurd (cc)
due_found clock slot (t ∷ ts) e = by (is_due clock t) refl e
  where
    by : (b : Bool) → is_due clock t ≡ b → (if b then Some t.slot else None) ≡ Some slot
        → (v : Retired) × (vs : List Retired) × (t ∷ ts ≡ v ∷ vs) × (v.slot ≡ slot) × (is_due clock v ≡ true)
    by true f g = (t, ts, refl, same_Some t.slot slot g, f)
    by false f g = absurd (cc)

pub due_first : (clock slot : ℕ) (ret : List Retired) → first_due clock ret ≡ Some slot → IsFirstDue ret clock slot
due_first clock slot [] e = absurd (cc)
due_first clock slot (t ∷ ts) e = by (is_due clock t) refl e
  where
    by : (b : Bool) → is_due clock t ≡ b → (if b then Some t.slot else None) ≡ Some slot → IsFirstDue (t ∷ ts) clock slot
    by true f g = (same_Some t.slot slot g, grind (arith, nat_tests))
    by false f g = absurd (cc)

pub none_due : (clock : ℕ) (ret : List Retired) → first_due clock ret ≡ None → due_at clock ret ≡ []
none_due clock [] e = refl
none_due clock (t ∷ ts) e = by (is_due clock t) refl e
  where
    by : (b : Bool) → is_due clock t ≡ b → (if b then Some t.slot else None) ≡ None → due_at clock (t ∷ ts) ≡ []
    by true f g = absurd (cc)
    by false f g = take_while-cons (is_due clock) t ts ∙ ap (λ (c : Bool). cond c (t ∷ due_at clock ts) []) f

due_cons : (clock : ℕ) (t : Retired) (ts : List Retired) → is_due clock t ≡ true → due_at clock (t ∷ ts) ≡ t ∷ due_at clock ts
due_cons clock t ts e = take_while-cons (is_due clock) t ts ∙ ap (λ (c : Bool). cond c (t ∷ due_at clock ts) []) e

module _ (heap : HeapShown) (old now : RegionShown) (clock : ℕ) (k : IsReclaiming heap old now clock) where
  pub due_now : (slot : ℕ) → first_due clock now.books.retired ≡ Some slot
      → IsFirstDue now.books.retired now.seat.known.part.durable slot
  due_now slot e = subst (λ (n : ℕ). IsFirstDue now.books.retired n slot) (sym k.known) (due_first clock slot now.books.retired e)

  held_now : now.seat.known ≡ unit_emptied (unit_loaded_durable old.seat.known clock) k.closed
  held_now = ap (λ (x : UnitShown). x.known) k.has.seat_is

  -- one more
  module _ (t : Retired) (ts : List Retired) (shape : now.books.retired ≡ t ∷ ts) (passes : is_due clock t ≡ true)
      (due : IsFirstDue now.books.retired now.seat.known.part.durable t.slot) (sound : IsSound heap (first_closed now t.slot)) where
    in_part : now.seat.known.part.retired ≡ t ∷ ts
    in_part = sym k.agrees.1.retired_are ∙ shape

    due_part : IsFirstDue now.seat.known.part.retired now.seat.known.part.durable t.slot
    due_part = subst (λ (l : List Retired). IsFirstDue l now.seat.known.part.durable t.slot) k.agrees.1.retired_are due

    behind : without_retired t.slot now.seat.known.part.retired ≡ ts
    behind = let p = now.seat.known.part in
        queue_behind p.records p.lost p.history p.frozen now.books p.durable t.slot p.retired p.written k.agrees.1 k.rests.written due_part
        ∙ ap (drop 1) in_part

    lost_stay : without_lost t.slot now.seat.known.part.lost ≡ now.seat.known.part.lost
    lost_stay = let p = now.seat.known.part in
        lost_beside p.records p.lost p.history p.frozen now.books p.durable t.slot p.retired p.written k.agrees.1 k.rests.written due_part

    free_now : now.books.free ≡ old.books.free ++ map (λ (v : Retired). v.slot) k.closed
    free_now = ap (λ (x : BooksShown). x.free) k.has.books_are

    live_left : (i : ℕ) → live_of i (without_slot t.slot now.seat.known.part.records) ≡ live_of i now.seat.known.part.records
    live_left i =
        let queue : Retires now.seat.known.part.records (t ∷ ts) =
        subst (Retires now.seat.known.part.records) in_part k.agrees.1.retires in
        subst (λ (n : ℕ). live_of i (without_slot n now.seat.known.part.records) ≡ live_of i now.seat.known.part.records) queue.0.in_slot
        (live_stays now.seat.known.part.records queue.0.due_record t.epoch k.agrees.1.apart queue.0.there queue.0.due i)

    step : IsReclaiming heap old (first_closed now t.slot) clock
    step = record {
      closed = k.closed ++ t ∷ [];
      due = k.due
          ∙ ap (λ (l : List Retired). k.closed ++ l)
          (ap (due_at clock) shape ∙ due_cons clock t ts passes ∙ ap (λ (l : List Retired). t ∷ due_at clock l) (sym behind))
          ∙ sym (append_assoc k.closed (t ∷ []) (due_at clock (without_retired t.slot now.seat.known.part.retired)));
      has = record {
        seat_is = (λ i. record (k.has.seat_is i) { known = unit_persisted (unit_closed (held_now i) t.slot) t.slot })
            ∙ ap (λ (x : UnitKnown). let s : UnitShown = record old.seat { known = x } in s)
            (sym (emptied_push (unit_loaded_durable old.seat.known clock) k.closed t));
        books_are = (λ i. record (books_showing (k.has.books_are i) (first_closed now t.slot).seat.known.part) {
          free = free_now i ++ t.slot ∷ [];
        })
            ∙ ap (λ (l : List ℕ). let b : BooksShown =
            record (books_showing old.books (first_closed now t.slot).seat.known.part) { free = l } in b)
            (append_assoc old.books.free (map (λ (v : Retired). v.slot) k.closed) (t.slot ∷ [])
            ∙ ap (λ (l : List ℕ). old.books.free ++ l) (sym (map-append (λ (v : Retired). v.slot) k.closed (t ∷ []))));
        queue_is = k.has.queue_is ∙ ap (λ (l : List Retired). k.closed ++ l) (shape ∙ ap (λ (l : List Retired). t ∷ l) (sym behind))
            ∙ sym (append_assoc k.closed (t ∷ []) (without_retired t.slot now.seat.known.part.retired));
        others_are = λ i. record (k.has.others_are i) {
          part = (first_closed now t.slot).seat.known.part;
          steps = (first_closed now t.slot).seat.known.steps;
          clean = (first_closed now t.slot).seat.known.clean;
        };
        part_is = λ i. record (k.has.part_is i) {
          stage = (sym k.rests.stage ∙ ap (λ (q : UnitPart). q.stage) k.has.part_is) i;
          records = without_slot t.slot now.seat.known.part.records;
          retired = without_retired t.slot now.seat.known.part.retired;
          lost = (lost_stay ∙ ap (λ (q : UnitPart). q.lost) k.has.part_is) i;
        };
      };
      agrees = closed_agrees now t.slot k.agrees k.rests due (first_closed now t.slot) refl;
      rests = record { stage = refl; written = k.rests.written; writing = k.rests.writing };
      running = sym k.agrees.1.halted_is ∙ k.running;
      region = record { table = k.region.table; layout = k.region.layout };
      known = k.known;
      clean = λ units c. still_clean units now.seat.known.unit now.seat.known.clean (first_closed now t.slot).seat.known.part
          (k.clean units c);
      live = λ i. live_left i ∙ k.live i;
      begun = k.begun;
      sound = sound;
    }

  pub goes_on : (slot : ℕ) (next : RegionShown) → first_due clock now.books.retired ≡ Some slot → next ≡ first_closed now slot
      → IsSound heap next → IsReclaiming heap old next clock
  goes_on slot next e is sound =
      let f = due_found clock slot now.books.retired e in
      subst (λ (x : RegionShown). IsReclaiming heap old x clock) (sym is)
      (subst (λ (n : ℕ). IsReclaiming heap old (first_closed now n) clock) f.3
      (step f.0 f.1 f.2 f.4 (subst (λ (n : ℕ). IsFirstDue now.books.retired now.seat.known.part.durable n) (sym f.3) (due_now slot e))
      (subst (λ (n : ℕ). IsSound heap (first_closed now n)) (sym f.3) (subst (IsSound heap) is sound))))

  -- the queue gets shorter
  pub shorter : (slot : ℕ) (next : RegionShown) → first_due clock now.books.retired ≡ Some slot → next ≡ first_closed now slot
      → IsSound heap next → length next.books.retired < length now.books.retired
  shorter slot next e is sound =
      let f = due_found clock slot now.books.retired e in
      let due = subst (λ (n : ℕ). IsFirstDue now.books.retired now.seat.known.part.durable n) (sym f.3) (due_now slot e) in
      let rest : without_retired slot now.seat.known.part.retired ≡ f.1 =
      subst (λ (n : ℕ). without_retired n now.seat.known.part.retired ≡ f.1) f.3 (behind f.0 f.1 f.2 f.4 due
      (subst (λ (n : ℕ). IsSound heap (first_closed now n)) (sym f.3) (subst (IsSound heap) is sound))) in
      let after : length next.books.retired ≡ length f.1 = ap length (ap (λ (x : RegionShown). x.books.retired) is ∙ rest) in
      let before : length now.books.retired ≡ length (f.0 ∷ f.1) = ap length f.2 in
      omega arith

  pub stays_open : StaysOpen heap old now
  stays_open = record {
    of_heap = k.region;
    running = k.running;
    history = ap (λ (q : UnitPart). q.history) k.has.part_is;
    clean = k.clean (units_of heap.opening.layout);
  }

  -- no more
  pub ends : first_due clock now.books.retired ≡ None → HasClosed old now clock (due_at clock old.books.retired)
  ends e =
      let all : due_at clock old.books.retired ≡ k.closed =
      k.due ∙ ap (λ (l : List Retired). k.closed ++ l) (none_due clock now.books.retired e) ∙ append-nil k.closed in
      subst (HasClosed old now clock) (sym all) k.has

  pub cut_stays : (slot : ℕ) (next : RegionShown) → WasCutClosingFirst now next slot → StaysOpen heap old next
  cut_stays slot next c = by c.held_is
    where
      open_at : (h : UnitKnown) → h.part.history ≡ now.seat.known.part.history → h.clean ≡ now.seat.known.clean → next.seat.known ≡ h
          → StaysOpen heap old next
      open_at h history clean is = record {
        of_heap = record {
          table = c.table_is ∙ k.region.table;
          layout = ap (λ (x : BooksShown). x.layout) c.books_are ∙ k.region.layout;
        };
        running = ap (λ (x : BooksShown). x.halted) c.books_are ∙ k.running;
        history = ap (λ (x : UnitKnown). x.part.history) is ∙ history ∙ ap (λ (q : UnitPart). q.history) k.has.part_is;
        clean = λ was. subst (λ (l : List ℕ). IsTrue (are_clean (units_of heap.opening.layout) l))
            (sym (ap (λ (x : UnitKnown). x.clean) is ∙ clean)) (k.clean (units_of heap.opening.layout) was);
      }

      by : (next.seat.known ≡ now.seat.known) ⊎ (next.seat.known ≡ unit_closed now.seat.known slot) → StaysOpen heap old next
      by (inl g) = open_at now.seat.known refl refl g
      by (inr g) = open_at (unit_closed now.seat.known slot) refl refl g

  -- a cut of the next one
  pub cut_short : (slot : ℕ) (next : RegionShown) → first_due clock now.books.retired ≡ Some slot → WasCutClosingFirst now next slot
      → IsDurable (max old.seat.known.part.durable old.seat.known.learnt.durable) clock → WasCutReclaiming old next
  cut_short slot next e c found =
      let f = due_found clock slot now.books.retired e in
      let shape : due_at clock now.books.retired ≡ f.0 ∷ due_at clock f.1 = ap (due_at clock) f.2 ∙ due_cons clock f.0 f.1 f.4 in
      inr (record {
        clock = clock;
        found = found;
        closed = k.closed;
        left = f.0 ∷ due_at clock f.1;
        due = k.due ∙ ap (λ (l : List Retired). k.closed ++ l) shape;
        table_is = c.table_is ∙ ap (λ (x : UnitShown). x.table) k.has.seat_is;
        books_are = c.books_are ∙ k.has.books_are ∙ (λ i. record (sym (shows c.held_is) i) {
          free = old.books.free ++ map (λ (v : Retired). v.slot) k.closed;
        });
        held_is = elim c.held_is [
          | inl g ↦ inl (g ∙ held_now)
          | inr g ↦ inr (g ∙ (λ i. unit_closed (held_now i) (sym f.3 i)))
        ];
      })
    where
      shows : (next.seat.known ≡ now.seat.known) ⊎ (next.seat.known ≡ unit_closed now.seat.known slot)
          → books_showing old.books next.seat.known.part ≡ books_showing old.books now.seat.known.part
      shows (inl g) = ap (λ (x : UnitKnown). books_showing old.books x.part) g
      shows (inr g) = ap (λ (x : UnitKnown). books_showing old.books x.part) g
