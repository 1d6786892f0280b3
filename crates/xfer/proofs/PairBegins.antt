-- Room in two units, and what tries to register both after it leave.
use Rattle.std.proofs.Common.{◌≡◌, ℕ, ◌≤◌, Bool, false, length, refl, ap, sym, ◌∙◌, subst, arith, inl, inr, ⊎_elim}
use Rattle.std.specs.Prelude.{Option, Some, None}
use Rattle.mont_base.specs.Faults.{Rose}
use Rattle.core_steps.specs.Notes.{last_epoch}
use Rattle.heap.specs.GateAsked.{IsAskedOften}
use Rattle.heap.specs.HeapShown.{HeapShown, CallerShown}
use Rattle.heap_rule.specs.declared.views.Learnt.{Learnt}
use Rattle.slots.specs.Books.{RegionShown, BooksShown}
use Rattle.op_guard.specs.declared.guard.Guard.{Guard}
use Rattle.op_guard.specs.Guarding.{HasBegun, HasLearntOf, HasMadeRoom}
use Rattle.op_guard.specs.Regions.{IsReady, KeepsUnit, WasHalted}
use Rattle.op_guard.proofs.Halts.{halted_since}
use Rattle.xfer.specs.declared.pair_guard.PairGuard.{PairGuard}
use Rattle.xfer.specs.declared.pair_guard.PairRefusal.{PairRefusal}
use Rattle.xfer.specs.declared.pair_guard.PairRefusal.TheVariants.{Full, Cut}
use Rattle.xfer.specs.Pairs.{WereHalted, low_half, high_half}
use Rattle.xfer.specs.PairBeginning.{HasFreeSlot, HasRoomIn, HasBegunHalf, HasBegunPair, HasGoneBack, HaveGoneBack, HaveRegistered, HasTriedPair, WasPairCut, LeavesPairRefused}

-- ---- what is kept is kept by two calls
pub keeps_on : (old mid new : RegionShown) → KeepsUnit old mid → KeepsUnit mid new → KeepsUnit old new
keeps_on old mid new k l =
    let before = k.durable in
    let behind = l.durable in
    record {
      of_unit = l.of_unit ∙ k.of_unit;
      history = l.history ∙ k.history;
      live = λ identity. l.live identity ∙ k.live identity;
      identity = l.identity ∙ k.identity;
      serial = l.serial ∙ k.serial;
      durable = omega arith;
    }

-- so a unit that was halted after the first one was halted since before it
pub halted_behind : (heap : HeapShown) (old mid new : RegionShown) (q r : CallerShown) → KeepsUnit old mid → WasHalted heap mid new q r
    → WasHalted heap old new q r
halted_behind heap old mid new q r k h = halted_since heap old mid new q r k.of_unit k.history h

-- ---- room
pub room_made : (heap : HeapShown) (old new : RegionShown) (q : CallerShown) → IsReady heap new → KeepsUnit old new
    → HasFreeSlot new → HasMadeRoom old new q 1 → HasRoomIn heap old new q
room_made heap old new q ready keeps room made = record {
  emptied = new;
  made = made;
  books = refl;
  ready = ready;
  keeps = keeps;
  room = room;
}

pub room_still : (heap : HeapShown) (old mid new : RegionShown) (q : CallerShown) → HasRoomIn heap old mid q → HasGoneBack heap mid new
    → HasRoomIn heap old new q
room_still heap old mid new q k back = record {
  emptied = k.emptied;
  made = k.made;
  books = back.books ∙ k.books;
  ready = back.ready;
  keeps = keeps_on old mid new k.keeps back.keeps;
  room = subst (λ (b : BooksShown). 1 ≤ length b.free) (sym back.books) k.room;
}

-- what the unit's seat knows of the caller
pub has_learnt : (old new : RegionShown) (q : CallerShown) → new.seat.known.learnt ≡ old.seat.known.learnt → HasLearntOf old q
    → HasLearntOf new q
has_learnt old new q same k = record {
  newest = subst (λ (l : Learnt). q.known.part.newest ≤ l.newest) (sym same) k.newest;
  durable = subst (λ (l : Learnt). q.known.part.durable ≤ l.durable) (sym same) k.durable;
}

-- ---- after room that was made
pub begun_half : (heap : HeapShown) (old before new : RegionShown) (q : CallerShown) (g : Guard) → HasRoomIn heap old before q
    → HasBegun heap before new q 1 g → HasBegunHalf heap old new q g
begun_half heap old before new q g room begun =
    let known = room.keeps.durable in
    let reached = begun.reached.after_durable in
    record {
      before = before;
      room = room;
      begun = begun;
      reached = record {
        first = begun.reached.first;
        not_before = begun.reached.not_before;
        not_behind = begun.reached.not_behind;
        after_entries = subst (λ h. last_epoch h ≤ g.epoch) room.keeps.history begun.reached.after_entries;
        after_durable = omega arith;
      };
    }

pub begun_pair : (heap : HeapShown) (low low_room low_now high high_room high_now : RegionShown) (q : CallerShown) (g : PairGuard)
    → HasRoomIn heap low low_room q → HasRoomIn heap high high_room q → HaveRegistered heap low_room low_now high_room high_now q g
    → HasBegunPair heap low low_now high high_now q g
begun_pair heap low low_room low_now high high_room high_now q g first second k = record {
  guard_is = λ i. record {
    low = (ap (λ (x : Guard). x.unit) k.lower.guard_is ∙ first.keeps.of_unit) i;
    high = (ap (λ (x : Guard). x.unit) k.higher.guard_is ∙ second.keeps.of_unit) i;
    by = ap (λ (x : Guard). x.by) k.lower.guard_is i;
    epoch = g.epoch;
    written = k.nothing i;
  };
  lower = begun_half heap low low_room low_now q (low_half g) first k.lower;
  higher = begun_half heap high high_room high_now q (high_half g) second k.higher;
}

-- a try in which the caller was cut is a pair of which none was begun
pub halted_pair : (heap : HeapShown) (one one_mid one_now other other_mid other_now : RegionShown) (q r : CallerShown)
    → KeepsUnit one one_mid
    → KeepsUnit other other_mid → WereHalted heap one_mid one_now other_mid other_now q r → WereHalted heap one one_now other other_now q r
halted_pair heap one one_mid one_now other other_mid other_now q r first second k = record {
  between = k.between;
  first = halted_behind heap one one_mid one_now q k.between first k.first;
  second = halted_behind heap other other_mid other_now k.between r second k.second;
}

pub cut_since : (heap : HeapShown) (low low_mid low_now high high_mid high_now : RegionShown) (p q r : CallerShown) (why : PairRefusal)
    → p ≡ q → HasRoomIn heap low low_mid q → HasRoomIn heap high high_mid q
    → WasPairCut heap low_mid low_now high_mid high_now p r why → LeavesPairRefused heap low low_now high high_now q r why
cut_since heap low low_mid low_now high high_mid high_now p q r (Full unit need free clock) same first second k = absurd k
cut_since heap low low_mid low_now high high_mid high_now p q r (Cut unit) same first second k =
    ⊎_elim
    (λ (h : (unit ≡ low_mid.books.unit) × WereHalted heap low_mid low_now high_mid high_now p r). inl (
      h.0 ∙ first.keeps.of_unit,
      subst (λ (x : CallerShown). WereHalted heap low low_now high high_now x r) same
          (halted_pair heap low low_mid low_now high high_mid high_now p r first.keeps second.keeps h.1),
    ))
    (λ (h : (unit ≡ high_mid.books.unit) × WereHalted heap high_mid high_now low_mid low_now p r). inr (
      h.0 ∙ second.keeps.of_unit,
      subst (λ (x : CallerShown). WereHalted heap high high_now low low_now x r) same
          (halted_pair heap high high_mid high_now low low_mid low_now p r second.keeps first.keeps h.1),
    ))
    k

-- one that registered both has begun, and after another one there is room as before
pub begun_since : (heap : HeapShown) (low low_mid low_now high high_mid high_now : RegionShown) (p q : CallerShown)
    (found : Option PairGuard) (g : PairGuard) → p ≡ q → found ≡ Some g → HasRoomIn heap low low_mid q → HasRoomIn heap high high_mid q
    → HasTriedPair heap low_mid low_now high_mid high_now p found → HasBegunPair heap low low_now high high_now q g
begun_since heap low low_mid low_now high high_mid high_now p q found g same is first second k =
    begun_pair heap low low_mid low_now high high_mid high_now q g first second
    (subst (λ (x : CallerShown). HaveRegistered heap low_mid low_now high_mid high_now x g) same
    (subst (HasTriedPair heap low_mid low_now high_mid high_now p) is k))

pub back_since : (heap : HeapShown) (low_mid low_now high_mid high_now : RegionShown) (p : CallerShown) (found : Option PairGuard)
    → found ≡ None → HasTriedPair heap low_mid low_now high_mid high_now p found → HaveGoneBack heap low_mid low_now high_mid high_now
back_since heap low_mid low_now high_mid high_now p found is k = subst (HasTriedPair heap low_mid low_now high_mid high_now p) is k

-- ---- a gate that is asked again and again
pub asked_more : {G : Type 0} (cuts : G → ℕ) (endless : G → Bool) (x y z : G) (cut : Bool)
    → IsAskedOften cuts endless x y false → IsAskedOften cuts endless y z cut → IsAskedOften cuts endless x z cut
asked_more cuts endless x y z cut a b = record {
  later = let i = a.later in let j = b.later in omega (arith, i, j);
  kept = λ e. b.kept e ∙ a.kept refl;
  counted = λ e. subst (λ (n : ℕ). Rose n (cuts z)) (a.kept refl) (b.counted e);
  same = b.same ∙ a.same;
  passes = λ e. b.passes (a.same ∙ e);
}
