-- What a caller has of a tick.
use Rattle.std.proofs.Common.{◌≡◌, ℕ, ◌<◌, List, length, true, sym, ap, ◌∙◌, subst, arith, Bool}
use Rattle.std.specs.Prelude.{map, Ok, Err, None, IsTrue, IfOk, IfErr, OnErr}
use Rattle.std.specs.declared.result.Result.{Result}
use Rattle.mont_base.specs.declared.gate.Gate.{Ghosts}
use Rattle.mont_base.specs.Image.{clock_of}
use Rattle.mont_base.specs.Layout.{units_of}
use Rattle.core_steps.specs.declared.parts.Mark.{Mark}
use Rattle.heap_rule.specs.declared.views.AdvKnown.{AdvKnown}
use Rattle.heap_rule.specs.declared.views.CallerKnown.{CallerKnown}
use Rattle.heap_rule.specs.declared.views.NoteKnown.{NoteKnown}
use Rattle.heap_rule.specs.Views.{advancer_shown, are_clean, is_among, caller_heard, note_of_advancer}
use Rattle.heap.specs.HeapShown.{HeapShown, AdvShown, CallerShown}
use Rattle.heap_pass.specs.declared.pass.Pass.{Pass}
use Rattle.heap_pass.specs.OfHeap.{IsAdvancerOf}
use Rattle.heap_pass.proofs.Cleanness.{shown_advancer_of}
use Rattle.advance.specs.declared.advance_refusal.AdvanceRefusal.{AdvanceRefusal}
use Rattle.advance.specs.declared.advance_refusal.AdvanceRefusal.TheVariants.{NotYet, Cut, ClockEnd}
use Rattle.advance.specs.Advance.{IsAdvanced, IsSameSeat, IsUnderWay, HasReason, IsAtEnd}
use Rattle.advance.specs.Attempts.{Advances}
use Rattle.advance.proofs.Attempted.{advances_by}
use Rattle.advance.proofs.Ways.{same_layout}
use Rattle.caller.specs.Telling.{has_mark}
use Rattle.caller.proofs.TakenNotes.{joined_has, odd_has, or_right}
use Rattle.caller.specs.Syncing.{KeepsSeen}
use Rattle.store.specs.StoreCalls.{IsSamePass}
use Rattle.store.specs.Ticking.{HasLearntClock, HasTicked, seat_shown}

module _ (heap : HeapShown) (found behind : AdvShown) (q r : CallerShown)
    (noted : r ≡ record {
      table = q.table;
      known = caller_heard q.known (note_of_advancer (length q.known.part.fronts) behind.known);
    }) where
  is_marked : (unit : ℕ) (cut : Bool) → (cut ≡ true → is_among behind.known.odd unit ≡ true) → cut ≡ true
      → has_mark r.known.part.marks (record { unit = unit; by = None }) ≡ true
  is_marked unit cut odd is =
      let m : Mark = record { unit = unit; by = None } in
      let marks : List Mark = map (λ (u : ℕ). let n : Mark = record { unit = u; by = None } in n) behind.known.odd in
      ap (λ (x : CallerShown). has_mark x.known.part.marks m) noted
      ∙ joined_has q.known.part.marks marks m
      (or_right (has_mark q.known.part.marks m) (has_mark marks m) (odd_has behind.known.odd unit (odd is)))

  learnt_clock : (answer : Result ℕ AdvanceRefusal) → IfOk answer (λ clock. clock_of heap.opening.words < clock)
      → Advances (advancer_shown found.known q.known) behind.known answer → HasLearntClock heap q r answer
  learnt_clock (Ok clock) begun k =
      let above = k.above in
      let reached = k.reached in
      let durable = k.durable in
      let now = ap (λ (x : CallerShown). x.known.part.durable) noted in
      (begun, omega (arith, above), omega (arith, reached), omega (arith, now, durable, above))
  learnt_clock (Err (NotYet unit epoch cut)) begun k =
      let below = k.1.below_durable in
      let now = ap (λ (x : CallerShown). x.known.part.durable) noted in
      (omega (arith, below, now), is_marked unit cut k.1.marked)
  learnt_clock (Err Cut) begun k = tt
  learnt_clock (Err ClockEnd) begun k =
      let last = k.1.durable in
      let now = ap (λ (x : CallerShown). x.known.part.durable) noted in
      omega (arith, last, now)

  pub has_ticked : (answer : Result ℕ AdvanceRefusal) → IsAdvancerOf heap found → IsSameSeat (seat_shown found q) behind
      → IfOk answer (λ clock. clock_of heap.opening.words < clock)
      → Advances (advancer_shown found.known q.known) behind.known answer
      → (IsAtEnd (advancer_shown found.known q.known) → answer ≡ Err ClockEnd) → HasTicked heap q r answer
  has_ticked answer of_heap same begun advances at_end = record {
    found = found;
    behind = behind;
    of_heap = of_heap;
    same = same;
    advances = advances;
    at_end = λ k. at_end (record { rests = k.rests; last = k.last });
    noted = noted;
    learnt = learnt_clock answer begun advances;
  }

-- ---- the advancer behind its lock
-- it is of the heap still when it was shown what a caller has seen
pub shown_fits : (named heap : HeapShown) (found shown : AdvShown) (q : CallerKnown) → heap ≡ named → IsAdvancerOf named found
    → shown ≡ record { table = found.table; known = advancer_shown found.known q } → IsAdvancerOf heap shown
shown_fits named heap found shown q same fits shows =
    subst (λ (h : HeapShown). IsAdvancerOf h shown) (sym same)
    (subst (IsAdvancerOf named) (sym shows) (shown_advancer_of named found q fits))

-- and after an advance
pub same_fits : (heap : HeapShown) (shown behind : AdvShown) → IsAdvancerOf heap shown → IsSameSeat shown behind
    → IsAdvancerOf heap behind
same_fits heap shown behind fits same = record {
  of_heap = record {
    of_table = same.table ∙ fits.of_heap.of_table;
    all_clean = subst (λ (clean : List ℕ). IsTrue (are_clean (units_of heap.opening.layout) clean)) (sym same.clean)
        fits.of_heap.all_clean;
  };
  of_layout = same_layout heap.opening.layout shown behind same fits.of_layout;
}

-- ---- the caller's pass
module _ {G : Type 0} {gate : Ghosts G} (old new : Pass G gate) (receipts : new.receipts ≡ old.receipts) where
  -- it is the same one after a note
  pub heard_same : (note : NoteKnown) → new.ticket ≡ record { table = old.ticket.table; known = caller_heard old.ticket.known note }
      → IsSamePass old new
  heard_same note noted = record {
    table = ap (λ (x : CallerShown). x.table) noted;
    caller = ap (λ (x : CallerShown). x.known.caller) noted;
    whole = λ whole. ap (λ v. v.items) receipts ∙ whole ∙ sym (ap (λ (x : CallerShown). x.known.part.receipts) noted);
  }

  -- and after a sync
  pub seen_same : KeepsSeen old.ticket new.ticket → IsSamePass old new
  seen_same k = record {
    table = k.table;
    caller = k.caller;
    whole = λ whole. ap (λ v. v.items) receipts ∙ whole ∙ sym k.receipts;
  }

-- ---- what was shown, done and heard is a tick
pub ticked_by : (heap : HeapShown) (found shown behind : AdvShown) (q told r : CallerShown) (answer : Result ℕ AdvanceRefusal)
    → IsAdvancerOf heap found → shown ≡ seat_shown found q → IsSameSeat shown behind → told ≡ q
    → r ≡ record {
      table = told.table;
      known = caller_heard told.known (note_of_advancer (length told.known.part.fronts) behind.known);
    }
    → IfOk answer (λ clock. IsAdvanced shown.known clock behind.known) → OnErr answer (IsUnderWay shown.known behind.known)
    → IfErr answer (λ why. HasReason why shown.known behind.known) → (IsAtEnd shown.known → answer ≡ Err ClockEnd)
    → IfOk answer (λ clock. clock_of heap.opening.words < clock) → HasTicked heap q r answer
ticked_by heap found shown behind q told r answer of_heap shows seat same noted done left why at_end begun =
    let held = ap (λ (a : AdvShown). a.known) shows in
    has_ticked heap found behind q r
    (noted
    ∙ ap (λ (t : CallerShown). let x : CallerShown = record {
      table = t.table;
      known = caller_heard t.known (note_of_advancer (length t.known.part.fronts) behind.known);
    } in x) same)
    answer of_heap (subst (λ (a : AdvShown). IsSameSeat a behind) shows seat) begun
    (subst (λ (a : AdvKnown). Advances a behind.known answer) held (advances_by shown.known behind.known answer done left why))
    (subst (λ (a : AdvKnown). IsAtEnd a → answer ≡ Err ClockEnd) held at_end)
