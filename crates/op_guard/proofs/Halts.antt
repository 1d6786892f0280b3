-- What stays of a region until it is halted.
use Rattle.std.proofs.Common.{◌≡◌, ℕ, List, [], ◌∷◌, refl, ap, ◌∙◌, inl, inr, ⊎_elim}
use Rattle.mont_base.specs.declared.record.Change.{Change}
use Rattle.mont_base.specs.declared.record.Held.{Held}
use Rattle.mont_laws.specs.declared.retiring.Retired.{Retired}
use Rattle.heap.specs.HeapShown.{HeapShown, UnitShown, CallerShown}
use Rattle.heap_rule.specs.declared.views.UnitKnown.{UnitKnown}
use Rattle.heap_rule.specs.Views.{unit_closed, unit_persisted, unit_loaded_durable}
use Rattle.slots.specs.Books.{RegionShown, StaysOpen, Agrees}
use Rattle.slots.specs.Putting.{IsUnfinishedAt, FirstIsUnfinished, WasCutPutting}
use Rattle.slots.specs.Reclaiming.{IsClosing, WasCutReclaiming, unit_emptied}
use Rattle.op_guard.specs.Regions.{IsRunning, WasHalted}

-- a region that stays open may still make steps
pub stays_running : (heap : HeapShown) (old new : RegionShown) → IsRunning heap old → StaysOpen heap old new → Agrees new
    → IsRunning heap new
stays_running heap old new runs stays agrees = record {
  of_heap = stays.of_heap;
  agrees = agrees;
  running = stays.running;
  clean = stays.clean runs.clean;
}

-- ---- its list stays where it was
turn_emptied : (h : UnitKnown) (closed : List Retired) → (unit_emptied h closed).turn ≡ h.turn
turn_emptied h [] = refl
turn_emptied h (t ∷ ts) = turn_emptied (unit_persisted (unit_closed h t.slot) t.slot) ts

turn_closing : (h now : UnitKnown) (left : List Retired) → IsClosing h now left → now.turn ≡ h.turn
turn_closing h now [] k = absurd k
turn_closing h now (t ∷ ts) k = ap (λ (x : UnitKnown). x.turn) k

-- by a reclaim that was cut
pub turn_reclaiming : (old new : RegionShown) → WasCutReclaiming old new → new.seat.known.turn ≡ old.seat.known.turn
turn_reclaiming old new (inl same) = ap (λ (r : RegionShown). r.seat.known.turn) same
turn_reclaiming old new (inr k) =
    let h : UnitKnown = unit_emptied (unit_loaded_durable old.seat.known k.clock) k.closed in
    ⊎_elim (λ (e : new.seat.known ≡ h). ap (λ (x : UnitKnown). x.turn) e) (turn_closing h new.seat.known k.left) k.held_is
    ∙ turn_emptied (unit_loaded_durable old.seat.known k.clock) k.closed

turn_unfinished : (old new : UnitShown) (w : Held) → IsUnfinishedAt old new w → new.known.turn ≡ old.known.turn
turn_unfinished old new w (inl same) = ap (λ (s : UnitShown). s.known.turn) same
turn_unfinished old new w (inr k) = ap (λ (x : UnitKnown). x.turn) k.1.shows

-- and by a put that was
pub turn_putting : (old new : RegionShown) (change : Change) (epoch : ℕ) → WasCutPutting old new change epoch
    → new.seat.known.turn ≡ old.seat.known.turn
turn_putting old new change epoch k = by old.books.free k.unfinished
  where
    by : (free : List ℕ) → FirstIsUnfinished old new.seat change epoch free → new.seat.known.turn ≡ old.seat.known.turn
    by [] f = absurd f
    by (slot ∷ rest) f = turn_unfinished old.seat new.seat _ f

-- ---- what is told of a unit that was halted is told from what it was before
pub halted_since : (heap : HeapShown) (old mid new : RegionShown) (q r : CallerShown) → mid.books.unit ≡ old.books.unit
    → mid.seat.known.part.history ≡ old.seat.known.part.history → WasHalted heap mid new q r → WasHalted heap old new q r
halted_since heap old mid new q r unit history k = record {
  of_heap = k.of_heap;
  agrees = k.agrees;
  of_unit = k.of_unit ∙ unit;
  by = k.by;
  clean = k.clean;
  home = k.home;
  history = k.history ∙ history;
  caller = k.caller;
}

-- a put that was cut leaves the stage as it was
stage_unfinished : (old new : UnitShown) (w : Held) → IsUnfinishedAt old new w → new.known.part.stage ≡ old.known.part.stage
stage_unfinished old new w (inl same) = ap (λ (s : UnitShown). s.known.part.stage) same
stage_unfinished old new w (inr k) = ap (λ (x : UnitKnown). x.part.stage) k.1.shows

pub stage_putting : (old new : RegionShown) (change : Change) (epoch : ℕ) → WasCutPutting old new change epoch
    → new.seat.known.part.stage ≡ old.seat.known.part.stage
stage_putting old new change epoch k = by old.books.free k.unfinished
  where
    by : (free : List ℕ) → FirstIsUnfinished old new.seat change epoch free → new.seat.known.part.stage ≡ old.seat.known.part.stage
    by [] f = absurd f
    by (slot ∷ rest) f = stage_unfinished old.seat new.seat _ f
