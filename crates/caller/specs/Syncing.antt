-- What a sync leaves of a caller, and what its refusals tell.
use Rattle.std.specs.Prelude.{◌≡◌, ℕ, ◌+◌, ◌<◌, ◌≤◌, ◌⊎◌, Bool, true, false, length, Err, None}
use Rattle.std.specs.declared.result.Result.{Result}
use Rattle.mont_base.specs.declared.constants.TheConstants.{LAST}
use Rattle.core_steps.specs.declared.parts.Mark.{Mark}
use Rattle.heap_rule.specs.declared.views.CallerKnown.{CallerKnown}
use Rattle.heap_rule.specs.Plays.{IsDurable}
use Rattle.heap_rule.specs.Views.{caller_heard, note_of_advancer}
use Rattle.heap.specs.HeapShown.{HeapShown, AdvShown, CallerShown}
use Rattle.heap_pass.specs.OfHeap.{IsAdvancerOf}
use Rattle.advance.specs.declared.advance_refusal.AdvanceRefusal.{AdvanceRefusal}
use Rattle.advance.specs.declared.advance_refusal.AdvanceRefusal.TheVariants as advances
use Rattle.advance.specs.Advance.{IsSameSeat, IsUnderWay, HasReason}
use Rattle.caller.specs.declared.sync_refusal.SyncRefusal.{SyncRefusal}
use Rattle.caller.specs.declared.sync_refusal.SyncRefusal.TheVariants.{Stuck, Cut, ClockEnd}
use Rattle.caller.specs.Telling.{has_mark}

-- ---- in every case
-- The caller is the same one, with the answers that it was given and the entries that it has seen.
-- It knows no earlier durable clock, and has forgotten no mark.
pub record KeepsSeen (old new : CallerShown) : Type 0 where
  pub table : new.table ≡ old.table
  pub caller : new.known.caller ≡ old.known.caller
  pub calls : new.known.part.calls ≡ old.known.part.calls
  pub receipts : new.known.part.receipts ≡ old.known.part.receipts
  pub fronts : new.known.part.fronts ≡ old.known.part.fronts
  pub newest : new.known.part.newest ≡ old.known.part.newest
  pub cuts : new.known.part.cuts ≡ old.known.part.cuts
  pub entries : new.known.entries ≡ old.known.entries
  pub durable : old.known.part.durable ≤ new.known.part.durable
  pub marks : (m : Mark) → has_mark old.known.part.marks m ≡ true
      → has_mark new.known.part.marks m ≡ true

-- ---- at its end
-- The clock was loaded in this call, and is two epochs or more past all that the caller has seen.
-- All of it is known to be durable, and nothing else of the caller changed.
pub record HasSynced (old new : CallerShown) (clock : ℕ) : Type 0 where
  pub loads : old.known.steps < new.known.steps
  pub range : IsDurable old.known.part.durable clock
  pub past : old.known.part.newest + 2 ≤ clock
  pub only : new ≡ record {
    table = old.table;
    known = record old.known {
      part = record old.known.part { synced = old.known.part.fronts; durable = clock };
      steps = new.known.steps;
      loaded = clock;
    };
  }

-- ---- not yet
-- the durable clock that was loaded last isn't two epochs past the newest that the caller has seen
pub record IsShort (q : CallerKnown) : Type 0 where
  pub found : q.loaded ≡ q.part.durable
  pub below : q.part.durable < q.part.newest + 2

-- Durable clocks were loaded, each of which was short. Nothing else of the caller changed.
pub record HasWaited (old new : CallerShown) : Type 0 where
  pub steps : old.known.steps ≤ new.known.steps
  pub durable : old.known.part.durable ≤ new.known.part.durable
  pub short : old.known.steps < new.known.steps → IsShort new.known
  pub only : new ≡ record {
    table = old.table;
    known = record old.known {
      part = record old.known.part { durable = new.known.part.durable };
      steps = new.known.steps;
      loaded = new.known.loaded;
    };
  }

-- ---- refused by the advancer
-- for which refusal of an advance a sync gives up
abbrev pub refusal_of_advance : SyncRefusal → AdvanceRefusal
refusal_of_advance (Stuck unit epoch) = advances.NotYet unit epoch true
refusal_of_advance Cut = advances.Cut
refusal_of_advance ClockEnd = advances.ClockEnd

-- An advance of the heap's advancer was refused, with its reason in what the seat showed before and
-- after it, and the caller has then taken a note of the seat.
pub record HasHeard (heap : HeapShown) (old new : CallerShown) (why : AdvanceRefusal)
    : Type 0 where
  pub before : AdvShown
  pub behind : AdvShown
  pub of_heap : IsAdvancerOf heap before
  pub same : IsSameSeat before behind
  pub under_way : IsUnderWay before.known behind.known
  pub reason : HasReason why before.known behind.known
  pub noted : new ≡ record {
    table = old.table;
    known = caller_heard old.known
        (note_of_advancer (length old.known.part.fronts) behind.known);
  }

-- the durable clock was loaded and was short, and then an advance was refused
pub record WasHeldUp (heap : HeapShown) (old new : CallerShown) (why : AdvanceRefusal)
    : Type 0 where
  pub waiting : CallerShown
  pub waited : HasWaited old waiting
  pub loads : old.known.steps < waiting.known.steps
  pub heard : HasHeard heap waiting new why

-- A caller was cut in the unit, and the epoch that it announces is below a durable clock, as the
-- caller knows now.
pub record IsStuckBehind (heap : HeapShown) (old new : CallerShown) (unit epoch : ℕ) : Type 0 where
  pub held_up : WasHeldUp heap old new (advances.NotYet unit epoch true)
  pub marked : has_mark new.known.part.marks (record { unit = unit; by = None }) ≡ true
  pub below : epoch < new.known.part.durable

-- The last clock is durable, as the caller knows now.
pub record HasLastClock (heap : HeapShown) (old new : CallerShown) : Type 0 where
  pub held_up : WasHeldUp heap old new advances.ClockEnd
  pub last : new.known.part.durable ≡ LAST

abbrev pub LeavesUnsynced : HeapShown → CallerShown → CallerShown → SyncRefusal → Type 0
LeavesUnsynced heap old new (Stuck unit epoch) = IsStuckBehind heap old new unit epoch
LeavesUnsynced heap old new Cut = HasWaited old new ⊎ WasHeldUp heap old new advances.Cut
LeavesUnsynced heap old new ClockEnd = HasLastClock heap old new

-- the gate cut
abbrev pub was_cut : {T : Type 0} → Result T SyncRefusal → Bool
was_cut (Err Cut) = true
was_cut _ = false
