-- A unit whose due slots are all closed has the room that its history tells.
use Rattle.std.proofs.Common.{◌≡◌, ℕ, zero, suc, inl, inr, ◌<◌, ◌≤◌, List, [], ◌∷◌, ◌++◌, length, drop, max, refl, ap, sym, ◌∙◌, subst, arith, Bool, true, false, cond}
use Rattle.std.proofs.lemmas.Bool.{cases_lt}
use Rattle.std.proofs.lemmas.List.Sums.{take_while-cons}
use Rattle.std.proofs.lemmas.Bool.Decides.{nat_tests}
use Rattle.std.specs.Prelude.{slice_get, slice_index}
use Rattle.mont_base.specs.Image.{clock_of}
use Rattle.mont_base.specs.Layout.{Shape, units_of}
use Rattle.mont_base.specs.Room.{used_slots}
use Rattle.mont_base.specs.State.{State}
use Rattle.mont_laws.specs.declared.retiring.Retired.{Retired}
use Rattle.core_steps.specs.declared.parts.UnitPart.{UnitPart}
use Rattle.core_steps.specs.Closing.{IsFirstDue}
use Rattle.core_steps.specs.Opened.{opened_at}
use Rattle.core_steps.specs.Sound.{base_state}
use Rattle.core_steps.proofs.Decisions.{both}
use Rattle.core_steps.proofs.UnitRoom.{unit_used_undue}
use Rattle.heap.specs.HeapShown.{HeapShown, UnitShown, CallerShown}
use Rattle.heap_rule.specs.declared.views.UnitKnown.{UnitKnown}
use Rattle.heap_rule.specs.Plays.{IsDurable, IsNotBeyond, HasSeenAll}
use Rattle.heap_rule.specs.Views.{is_among, are_clean, unit_closed, unit_persisted, unit_loaded_durable}
use Rattle.slots.specs.Books.{BooksShown, RegionShown, Agrees, IsAtRest, StaysOpen}
use Rattle.slots.specs.Reclaiming.{HasClosed, KeepsLive, IsSound, is_due, due_at, unit_emptied}
use Rattle.op_guard.specs.Regions.{IsRunning, IsReady, KeepsUnit, region_shown}
use Rattle.op_guard.specs.Guarding.{HasRoomAt, HasNoted, HasMadeRoom, IsReclaimedBy, IsFull}
use Rattle.op_guard.proofs.Halts.{stays_running}

-- ---- the queue
-- where no slot from the front is due, the first one isn't
due_cons : (clock : ℕ) (t : Retired) (ts : List Retired) (b : Bool) → is_due clock t ≡ b
    → due_at clock (t ∷ ts) ≡ cond b (t ∷ due_at clock ts) []
due_cons clock t ts b e = take_while-cons (is_due clock) t ts ∙ ap (λ (c : Bool). cond c (t ∷ due_at clock ts) []) e

pub none_first : (clock : ℕ) (queue : List Retired) → due_at clock queue ≡ [] → (slot : ℕ) → IsFirstDue queue clock slot → ⊥
none_first clock [] none slot h = h
none_first clock (t ∷ ts) none slot h =
    let late = h.1 in
    let is : is_due clock t ≡ true = grind (arith, nat_tests) in
    let some : t ∷ due_at clock ts ≡ [] = sym (due_cons clock t ts true is) ∙ none in
    absurd (cc some)

-- what is left after those that are due has none in front
pub none_left : (clock : ℕ) (queue left : List Retired) → queue ≡ due_at clock queue ++ left → due_at clock left ≡ []
none_left clock [] left e = ap (due_at clock) (sym e)
none_left clock (t ∷ ts) left e = by (is_due clock t) refl (none_left clock ts left) where
  by : (b : Bool) → is_due clock t ≡ b → (ts ≡ due_at clock ts ++ left → due_at clock left ≡ []) → due_at clock left ≡ []
  by true f rest = rest (ap (drop 1) (e ∙ ap (λ (l : List Retired). l ++ left) (due_cons clock t ts true f)))
  by false f rest =
      ap (due_at clock) (sym (e ∙ ap (λ (l : List Retired). l ++ left) (due_cons clock t ts false f))) ∙ due_cons clock t ts false f

-- each close takes steps
pub steps_emptied : (h : UnitKnown) (closed : List Retired) → h.steps ≤ (unit_emptied h closed).steps
steps_emptied h [] = omega arith
steps_emptied h (t ∷ ts) =
    let behind = steps_emptied (unit_persisted (unit_closed h t.slot) t.slot) ts in
    omega (arith, behind)

-- ---- the room
-- one of the units that are known to be clean
among_clean : (n u : ℕ) (clean : List ℕ) → u < n → are_clean n clean ≡ true → is_among clean u ≡ true
among_clean zero u clean low all = absurd (omega arith)
among_clean (suc n) u clean low all =
    let parts = both (is_among clean n) (are_clean n clean) all in
    elim (cases_lt u n) [
      | inl below ↦ among_clean n u clean below parts.1
      | inr above ↦ let last : u ≡ n = omega arith in ap (is_among clean) last ∙ parts.0
    ]

-- it has no lost slot
pub none_lost : (heap : HeapShown) (r : RegionShown) → IsRunning heap r → IsSound heap r → r.seat.known.part.lost ≡ []
none_lost heap r runs sound =
    let k = sound.1.1 in
    let of_seat : r.books.unit ≡ r.seat.known.unit = runs.agrees.0 in
    let inside : r.books.unit < units_of heap.opening.layout =
    subst (λ (s : Shape). r.books.unit < units_of s) runs.of_heap.layout runs.agrees.1.own.inside in
    let of_unit : r.seat.known.unit < units_of heap.opening.layout = subst (λ (u : ℕ). u < units_of heap.opening.layout) of_seat inside in
    k.clean (among_clean (units_of heap.opening.layout) r.seat.known.unit r.seat.known.clean of_unit runs.clean)

pub room_at : (heap : HeapShown) (r : RegionShown) (clock : ℕ) → IsRunning heap r → IsAtRest r.seat.known.part
    → r.seat.known.part.durable ≡ clock → clock_of heap.opening.words ≤ clock → due_at clock r.books.retired ≡ [] → IsSound heap r
    → HasRoomAt heap r clock
room_at heap r clock runs rests durable begun none sound = λ states recovered.
    let k = sound.1.1 in
    let p = r.seat.known.part in
    let base : ℕ → State = base_state (opened_at (clock_of heap.opening.words) states) in
    let undue : (slot : ℕ) → IsFirstDue p.retired p.durable slot → ⊥ =
    subst (λ (x : ℕ). (slot : ℕ) → IsFirstDue p.retired x slot → ⊥) (sym durable)
    (none_first clock p.retired (ap (due_at clock) (sym runs.agrees.1.retired_are) ∙ none)) in
    let begun_at : clock_of heap.opening.words ≤ p.durable = omega arith in
    let used : length p.records ≡ used_slots (base r.seat.known.unit) p.history p.durable =
    unit_used_undue heap.opening.layout (clock_of heap.opening.words) sound.0 sound.1.0 r.seat.known.unit
    (base r.seat.known.unit) p (k.fits states recovered) begun_at undue in
    let here : length p.records ≡ used_slots (base r.books.unit) p.history clock =
    used ∙ (λ j. used_slots (base (sym runs.agrees.0 j)) p.history (durable j)) in
    let many = runs.agrees.1.slots.many in
    let written : length p.written ≡ 0 = ap length rests.written in
    let lost : length p.lost ≡ 0 = ap length (none_lost heap r runs sound) in
    let slots : r.books.layout.slots ≡ heap.opening.layout.slots = ap (λ (s : Shape). s.slots) runs.of_heap.layout in
    omega arith

-- ---- a unit after all that is due was closed
-- what a reclaim tells of it
pub record HasEmptied (heap : HeapShown) (old new : RegionShown) (clock : ℕ) : Type 0 where
  pub ready : IsReady heap old
  pub closed : HasClosed old new clock (due_at clock old.books.retired)
  pub agrees : Agrees new
  pub stays : StaysOpen heap old new
  pub rests : IsAtRest new.seat.known.part
  pub live : KeepsLive old new
  pub found : IsDurable (max old.seat.known.part.durable old.seat.known.learnt.durable) clock
  pub begun : clock_of heap.opening.words ≤ clock
  pub sound : IsSound heap new

module _ (heap : HeapShown) (old new : RegionShown) (clock : ℕ) (k : HasEmptied heap old new clock) where
  pub ready_emptied : IsReady heap new
  ready_emptied = record {
    runs = stays_running heap old new k.ready.runs k.stays k.agrees;
    rests = k.rests;
    home = ap (λ (h : UnitKnown). h.turn) k.closed.others_are ∙ k.ready.home;
  }

  pub keeps_emptied : KeepsUnit old new
  keeps_emptied = let known = k.found.not_behind in let now = ap (λ (p : UnitPart). p.durable) k.closed.part_is in record {
    of_unit = ap (λ (b : BooksShown). b.unit) k.closed.books_are;
    history = k.stays.history;
    live = k.live;
    identity = ap (λ (b : BooksShown). b.identity) k.closed.books_are;
    serial = ap (λ (b : BooksShown). b.serial) k.closed.books_are;
    durable = omega arith;
  }

  pub reclaimed_emptied : IsReclaimedBy old new clock
  reclaimed_emptied =
      let loaded = unit_loaded_durable old.seat.known clock in
      let more = steps_emptied loaded (due_at clock old.books.retired) in
      let steps : new.seat.known.steps ≡ (unit_emptied loaded (due_at clock old.books.retired)).steps =
      ap (λ (s : UnitShown). s.known.steps) k.closed.seat_is in
      record {
        closed = k.closed;
        clock_is = ap (λ (p : UnitPart). p.durable) k.closed.part_is;
        found = k.found;
        loads = omega arith;
        none_due = none_left clock old.books.retired new.books.retired k.closed.queue_is;
      }

  -- it has learnt no more
  pub learnt_emptied : new.seat.known.learnt ≡ old.seat.known.learnt
  learnt_emptied = ap (λ (h : UnitKnown). h.learnt) k.closed.others_are

  -- the unit's number
  pub same_unit : new.seat.known.unit ≡ old.books.unit
  same_unit = sym k.agrees.0 ∙ ap (λ (b : BooksShown). b.unit) k.closed.books_are

-- ---- where its seat had taken a note of the caller
-- what it keeps since
pub keeps_shown : (old new : RegionShown) (q : CallerShown) → KeepsUnit (region_shown old q) new → KeepsUnit old new
keeps_shown old new q k = record {
  of_unit = k.of_unit;
  history = k.history;
  live = k.live;
  identity = k.identity;
  serial = k.serial;
  durable = k.durable;
}

-- ---- room that was made
-- by a note alone
pub made_enough : (old new : RegionShown) (q : CallerShown) (need : ℕ) → new ≡ region_shown old q → need ≤ length new.books.free
    → HasMadeRoom old new q need
made_enough old new q need is room =
    let same : length new.books.free ≡ length old.books.free = ap (λ (r : RegionShown). length r.books.free) is in
    record { enough = λ _. is; reclaimed = λ few. absurd (omega arith) }

-- by closing too
pub made_emptied : (heap : HeapShown) (old new : RegionShown) (q : CallerShown) (need clock : ℕ)
    → HasEmptied heap (region_shown old q) new clock → length old.books.free < need → HasMadeRoom old new q need
made_emptied heap old new q need clock k few = record {
  enough = λ room. absurd (omega arith);
  reclaimed = λ _. (clock, reclaimed_emptied heap (region_shown old q) new clock k);
}

-- too few are free, and the caller took a note
pub is_full : (heap : HeapShown) (old new : RegionShown) (q r : CallerShown) (need free clock : ℕ)
    → HasEmptied heap (region_shown old q) new clock → free ≡ length new.books.free → free < need → HasNoted new q r
    → IsNotBeyond q.known new.seat.known → HasSeenAll r.known new.seat.known → IsFull heap old new q r need free clock
is_full heap old new q r need free clock k is fewer noted had_seen seen =
    let shown = region_shown old q in
    let ready_now = ready_emptied heap shown new clock k in
    let unit = same_unit heap shown new clock k in
    let reclaimed = reclaimed_emptied heap shown new clock k in
    let found = k.found.not_behind in
    record {
      ready = ready_now;
      keeps = keeps_shown old new q (keeps_emptied heap shown new clock k);
      reclaimed = reclaimed;
      known = omega arith;
      begun = k.begun;
      free_is = is;
      fewer = fewer;
      room = room_at heap new clock ready_now.runs k.rests reclaimed.clock_is k.begun reclaimed.none_due k.sound;
      seen = had_seen;
      noted = noted;
      front = ap (slice_index r.known.part.fronts) (sym unit) ∙ seen.front;
      entries = ap (slice_get r.known.entries) (sym unit) ∙ seen.entries;
      sound = k.sound;
    }
