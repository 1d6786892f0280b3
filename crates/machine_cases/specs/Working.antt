-- When calls may be made on an engine, and when it may be stopped.
use Rattle.std.specs.Prelude.{◌≡◌, ◌+◌, ◌≤◌, ℕ, suc, false, List, length, IsTrue}
use Rattle.mont_base.specs.Layout.{units_of}
use Rattle.core_steps.specs.Places.{EachAt}
use Rattle.heap.specs.HeapShown.{HeapShown, UnitShown, AdvShown}
use Rattle.heap.specs.Stops.{AreAtHome, IsSeatOfUnit}
use Rattle.heap_pass.specs.OfLayout.{IsOfLayout}
use Rattle.heap_pass.specs.Spare.{spare_of}
use Rattle.heap_rule.specs.Views.{are_clean}
use Rattle.op_guard.specs.declared.guard.Guard.{Guard}
use Rattle.op_guard.specs.Regions.{IsReady, IsUnderWay}
use Rattle.machine_cases.specs.declared.engine.Engine.{Engine}

abbrev pub IsOther : HeapShown → ℕ → UnitShown → Type 0
IsOther heap i s = IsSeatOfUnit heap (suc i) s

-- the seats of all units but the first, by their numbers, with their lists at home
pub record AreOthers (heap : HeapShown) (seats : List UnitShown) : Type 0 where
  pub count : length seats + 1 ≡ units_of heap.opening.layout
  pub each : EachAt (IsOther heap) seats
  pub home : AreAtHome seats

-- All seats of the heap are there, and no unit's list is out.
pub record CanBeStopped (e : Engine) : Type 0 where
  pub of_region : e.region.seat.table ≡ e.heap.table
  pub first : e.region.seat.known.unit ≡ 0
  pub home : e.region.seat.known.turn.out ≡ false
  pub others : AreOthers e.heap e.others.items
  pub of_advancer : e.advancer.table ≡ e.heap.table
  pub of_caller : e.pass.ticket.table ≡ e.heap.table
  pub caller : e.pass.ticket.known.caller ≡ 0
  pub one : e.heap.opening.callers ≡ 1

-- an advancer of the heap, which knows every unit to be clean
pub record IsAdvancerOf (heap : HeapShown) (a : AdvShown) : Type 0 where
  pub table : a.table ≡ heap.table
  pub layout : IsOfLayout heap.opening.layout a.known
  pub clean : IsTrue (are_clean (units_of heap.opening.layout) a.known.clean)

-- no operation is under way
pub record IsIdle (e : Engine) : Type 0 where
  pub stops : CanBeStopped e
  pub ready : IsReady e.heap e.region
  pub advancer : IsAdvancerOf e.heap e.advancer

-- The caller's operation of this guard is, and there is room for its receipt.
pub record IsOperating (g : Guard) (e : Engine) : Type 0 where
  pub stops : CanBeStopped e
  pub under_way : IsUnderWay e.heap g e.region
  pub by : g.by ≡ e.pass.ticket.known.caller
  pub spare : 1 ≤ spare_of e.pass.receipts
  pub advancer : IsAdvancerOf e.heap e.advancer
