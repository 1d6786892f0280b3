-- When a region may begin an operation, and what stands while one is under way.
use Rattle.std.specs.Prelude.{◌≡◌, ◌+◌, ◌≤◌, false, length, Some, None, IsTrue}
use Rattle.mont_base.specs.Layout.{units_of}
use Rattle.heap.specs.HeapShown.{HeapShown, CallerShown}
use Rattle.heap_rule.specs.Views.{are_clean, home_turn, unit_shown, caller_cut}
use Rattle.slots.specs.Books.{RegionShown, IsRegionOf, Agrees, IsAtRest}
use Rattle.slots.specs.Putting.{MayWrite}
use Rattle.slots.specs.Reclaiming.{KeepsLive}
use Rattle.op_guard.specs.declared.guard.Guard.{Guard}

-- ---- a region of the heap whose unit may make steps
pub record IsRunning (heap : HeapShown) (r : RegionShown) : Type 0 where
  pub of_heap : IsRegionOf heap r
  pub agrees : Agrees r
  pub running : r.books.halted ≡ None
  pub clean : IsTrue (are_clean (units_of heap.opening.layout) r.seat.known.clean)

-- no operation is under way
pub record IsReady (heap : HeapShown) (r : RegionShown) : Type 0 where
  pub runs : IsRunning heap r
  pub rests : IsAtRest r.seat.known.part
  pub home : r.seat.known.turn ≡ home_turn

-- the region once the unit's seat has taken a note of the caller
abbrev pub region_shown : RegionShown → CallerShown → RegionShown
region_shown r q = record {
  seat = record { table = r.seat.table; known = unit_shown r.seat.known q.known };
  books = r.books;
}

-- The operation of a guard is under way: the unit is within the guard's epoch, what the guard's
-- calls wrote is written and nothing else, and the slots that are still needed are free.
pub record IsUnderWay (heap : HeapShown) (g : Guard) (r : RegionShown) : Type 0 where
  pub runs : IsRunning heap r
  pub of_unit : g.unit ≡ r.books.unit
  pub registered : MayWrite r.seat.known.part g.epoch
  pub home : r.seat.known.turn ≡ home_turn
  pub wrote : length r.seat.known.part.written ≡ g.written
  pub few : g.written ≤ g.need
  pub room : g.need ≤ length r.books.free + g.written

-- ---- what a region keeps
-- It is the unit's still, with the same history and the same live records, the same numbers are
-- next, and the durable clock that the unit knows isn't lower.
pub record KeepsUnit (old new : RegionShown) : Type 0 where
  pub of_unit : new.books.unit ≡ old.books.unit
  pub history : new.seat.known.part.history ≡ old.seat.known.part.history
  pub live : KeepsLive old new
  pub identity : new.books.identity ≡ old.books.identity
  pub serial : new.books.serial ≡ old.books.serial
  pub durable : old.seat.known.part.durable ≤ new.seat.known.part.durable

-- the unit is where it was in its epoch
abbrev pub KeepsStage : RegionShown → RegionShown → Type 0
KeepsStage old new = new.seat.known.part.stage ≡ old.seat.known.part.stage

-- ---- A caller was cut in the unit, which is halted. It got no entry, and nothing was learnt. The
-- unit's list is at home. Where the unit is left within an epoch, the caller keeps which.
pub record WasHalted
    (heap : HeapShown) (old new : RegionShown) (q r : CallerShown) : Type 0 where
  pub of_heap : IsRegionOf heap new
  pub agrees : Agrees new
  pub of_unit : new.books.unit ≡ old.books.unit
  pub by : new.books.halted ≡ Some q.known.caller
  pub clean : IsTrue (are_clean (units_of heap.opening.layout) new.seat.known.clean)
  pub home : new.seat.known.turn.out ≡ false
  pub history : new.seat.known.part.history ≡ old.seat.known.part.history
  pub caller : r ≡ record { table = q.table; known = caller_cut q.known new.seat.known }
