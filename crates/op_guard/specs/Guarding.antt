-- What the beginning of an operation, a change and a return leave.
use Rattle.std.specs.Prelude.{◌≡◌, ℕ, ◌+◌, ◌<◌, ◌≤◌, Bool, true, false, List, [], length, max, slice_get, slice_index, Some, Err}
use Rattle.std.specs.declared.result.Result.{Result}
use Rattle.mont_base.specs.declared.constants.TheConstants.{FIRST_CLOCK}
use Rattle.mont_base.specs.Image.{clock_of, IsRecovered}
use Rattle.mont_base.specs.Room.{room_of}
use Rattle.mont_base.specs.State.{State}
use Rattle.mont_base.specs.declared.record.Change.{Change}
use Rattle.core_steps.specs.Notes.{last_epoch}
use Rattle.core_steps.specs.Opened.{opened_at}
use Rattle.core_steps.specs.Sound.{base_state}
use Rattle.heap.specs.HeapShown.{HeapShown, CallerShown}
use Rattle.heap_rule.specs.Plays.{IsDurable, IsNotBeyond}
use Rattle.heap_rule.specs.Views.{caller_heard, note_of_unit, unit_withdrew}
use Rattle.announce.specs.Registering.{HasMoved, IsRegistered}
use Rattle.slots.specs.Books.{RegionShown}
use Rattle.slots.specs.Putting.{HasPut}
use Rattle.slots.specs.Reclaiming.{HasClosed, IsSound, due_at}
use Rattle.op_guard.specs.declared.guard.Guard.{Guard}
use Rattle.op_guard.specs.declared.guard.GuardRefusal.{GuardRefusal}
use Rattle.op_guard.specs.declared.guard.GuardRefusal.TheVariants.{Full, Cut}
use Rattle.op_guard.specs.declared.guard.AtRefusal.{AtRefusal}
use Rattle.op_guard.specs.declared.guard.AtRefusal.TheVariants.{Moved}
use Rattle.op_guard.specs.declared.guard.AtRefusal.TheVariants as at_refusals
use Rattle.op_guard.specs.Regions.{IsReady, IsUnderWay, KeepsUnit, WasHalted, region_shown}

-- ---- begun
-- an epoch that is not below anything that the caller has seen, nor below the unit's last, nor
-- below the durable clock that the unit knows
pub record IsReachedBy (q : CallerShown) (r : RegionShown) (epoch : ℕ) : Type 0 where
  pub first : FIRST_CLOCK ≤ epoch
  pub not_before : q.known.part.newest ≤ epoch
  pub not_behind : q.known.part.durable ≤ epoch
  pub after_entries : last_epoch r.seat.known.part.history ≤ epoch
  pub after_durable : r.seat.known.part.durable ≤ epoch

-- The durable clock was loaded in this call, and all that it lets be closed is closed. Of the unit
-- nothing else changed.
pub record IsReclaimedBy (old new : RegionShown) (clock : ℕ) : Type 0 where
  pub closed : HasClosed old new clock (due_at clock old.books.retired)
  pub clock_is : new.seat.known.part.durable ≡ clock
  pub found : IsDurable (max old.seat.known.part.durable old.seat.known.learnt.durable) clock
  pub loads : old.seat.known.steps < new.seat.known.steps
  pub none_due : due_at clock new.books.retired ≡ []

-- Room was made for so many slots: the unit's seat took a note of the caller, and where too few
-- were free, all was closed then that the durable clock lets be closed.
pub record HasMadeRoom (old new : RegionShown) (q : CallerShown) (need : ℕ) : Type 0 where
  pub enough : need ≤ length old.books.free → new ≡ region_shown old q
  pub reclaimed : length old.books.free < need
      → (clock : ℕ) × IsReclaimedBy (region_shown old q) new clock

-- the unit registered once that was closed
pub record HasClosedFirst (old new : RegionShown) (q : CallerShown) (epoch : ℕ) : Type 0 where
  pub emptied : RegionShown
  pub clock : ℕ
  pub reclaimed : IsReclaimedBy (region_shown old q) emptied clock
  pub registered : IsRegistered emptied.seat new.seat epoch
  pub books : new.books ≡ emptied.books

pub record HasBegun
    (heap : HeapShown) (old new : RegionShown) (q : CallerShown) (need : ℕ) (g : Guard)
    : Type 0 where
  pub guard_is : g ≡ record {
    unit = old.books.unit;
    by = q.known.caller;
    epoch = g.epoch;
    need = need;
    written = 0;
  }
  pub under_way : IsUnderWay heap g new
  pub reached : IsReachedBy q old g.epoch
  pub keeps : KeepsUnit old new
  -- slots are closed only where too few are free
  pub enough : need ≤ length old.books.free → new.books ≡ old.books
  pub reclaimed : length old.books.free < need → HasClosedFirst old new q g.epoch

-- ---- begun at an epoch that was asked for
-- the unit's seat knows the newest epoch and the durable clock that the caller knows
pub record HasLearntOf (r : RegionShown) (q : CallerShown) : Type 0 where
  pub newest : q.known.part.newest ≤ r.seat.known.learnt.newest
  pub durable : q.known.part.durable ≤ r.seat.known.learnt.durable

-- The clock showed another epoch, and no operation is under way. Nothing else of the unit changed
-- than how many steps it made, and which word it loaded last.
pub record HasStayedOut (heap : HeapShown) (old new : RegionShown) (epoch clock : ℕ) : Type 0 where
  pub ready : IsReady heap new
  pub books : new.books ≡ old.books
  pub moved : HasMoved old.seat new.seat epoch clock

abbrev pub LeavesUnbegun :
    HeapShown → RegionShown → RegionShown → CallerShown → CallerShown → ℕ → AtRefusal → Type 0
LeavesUnbegun heap old new q r epoch (Moved clock) =
    HasStayedOut heap old new epoch clock × (r ≡ q)
LeavesUnbegun heap old new q r epoch at_refusals.Cut = WasHalted heap old new q r

abbrev pub was_cut_at : {T : Type 0} → Result T AtRefusal → Bool
was_cut_at (Err at_refusals.Cut) = true
was_cut_at _ = false

-- ---- full
-- As many slots are free as the history leaves room for at the durable clock.
abbrev pub HasRoomAt : HeapShown → RegionShown → ℕ → Type 0
HasRoomAt heap r clock =
    (states : List State) → IsRecovered heap.opening.layout heap.opening.words states
    → length r.books.free
    ≡ room_of heap.opening.layout.slots
    (base_state (opened_at (clock_of heap.opening.words) states) r.books.unit)
    r.seat.known.part.history clock

-- the caller took a note of the unit, and nothing else of it changed
abbrev pub HasNoted : RegionShown → CallerShown → CallerShown → Type 0
HasNoted new q r = r ≡ record {
  table = q.table;
  known = caller_heard q.known (note_of_unit (length q.known.part.fronts) new.seat.known);
}

-- Too few slots are free, though the unit's seat took a note of the caller, and then all was closed
-- that the durable clock lets be closed. So that clock isn't below one that the caller knew. The
-- caller took a note of the unit after that.
pub record IsFull
    (heap : HeapShown) (old new : RegionShown) (q r : CallerShown) (need free clock : ℕ)
    : Type 0 where
  pub ready : IsReady heap new
  pub keeps : KeepsUnit old new
  pub reclaimed : IsReclaimedBy (region_shown old q) new clock
  pub known : q.known.part.durable ≤ clock
  pub begun : clock_of heap.opening.words ≤ clock
  pub free_is : free ≡ length new.books.free
  pub fewer : free < need
  pub room : HasRoomAt heap new clock
  -- what the caller had seen of the unit stood first there
  pub seen : IsNotBeyond q.known new.seat.known
  pub noted : HasNoted new q r
  -- so it has seen all entries of the unit
  pub front : slice_index r.known.part.fronts old.books.unit ≡ length new.seat.known.part.history
  pub entries : slice_get r.known.entries old.books.unit ≡ Some new.seat.known.part.history
  pub sound : IsSound heap new

abbrev pub LeavesRefused :
    HeapShown → RegionShown → RegionShown → CallerShown → CallerShown → ℕ → GuardRefusal → Type 0
LeavesRefused heap old new q r need (Full asked free clock) =
    (asked ≡ need) × IsFull heap old new q r need free clock
LeavesRefused heap old new q r need Cut = WasHalted heap old new q r

abbrev pub was_cut : {T : Type 0} → Result T GuardRefusal → Bool
was_cut (Err Cut) = true
was_cut _ = false

-- ---- one change more is written
pub record HasChanged
    (heap : HeapShown) (old new : RegionShown) (before after : Guard) (change : Change) (slot : ℕ)
    : Type 0 where
  pub put : HasPut old new change before.epoch slot
  pub counted : after ≡ record before { written = before.written + 1 }
  pub under_way : IsUnderWay heap after new

-- ---- the unit went back, and is as it was before it registered
pub record WentBack (heap : HeapShown) (old new : RegionShown) : Type 0 where
  pub ready : IsReady heap new
  pub books : new.books ≡ old.books
  pub seat : new.seat
      ≡ record { table = old.seat.table; known = unit_withdrew old.seat.known }
