-- How far the numbers of a unit have come since its store was opened.
use Rattle.std.specs.Prelude.{◌≡◌, ℕ, ◌+◌, ◌<◌, ◌≤◌, Bool, true, false, List, [], count_by, Option, Some, None}
use Rattle.std.proofs.Props.{props}
use Rattle.std.specs.Coded.{Coded-set, coded_ℕ}
use Rattle.mont_base.specs.declared.constants.TheConstants.{LAST}
use Rattle.mont_base.specs.declared.effect.Thing.{Thing}
use Rattle.mont_base.specs.declared.effect.Thing.TheVariants.{Pair, Item, Vertex, Edge}
use Rattle.mont_base.specs.declared.kinds.UnitKind.{UnitKind}
use Rattle.mont_base.specs.declared.kinds.UnitKind.TheVariants as kinds
use Rattle.mont_base.specs.declared.operation.Op.{Op}
use Rattle.mont_base.specs.declared.operation.Receipt.{Receipt}
use Rattle.mont_base.specs.declared.record.Held.{Held}
use Rattle.mont_base.specs.declared.record.Object.{Object}
use Rattle.mont_base.specs.declared.refusal.CallRefusal.{CallRefusal}
use Rattle.mont_base.specs.declared.refusal.CallRefusal.TheVariants.{CountEnd}
use Rattle.mont_base.specs.declared.refusal.Which.{Which}
use Rattle.mont_base.specs.declared.refusal.Which.TheVariants as ends
use Rattle.mont_base.specs.Counting.{LacksIdentity, LacksVersions, changes_made, effects_then, enqueued, greatest_by, identity_of, insertions, is_enqueuing, is_version_of, version_among}
use Rattle.mont_base.specs.Image.{clock_of, records_of, IsRecovered}
use Rattle.mont_base.specs.Layout.{Shape, kind_of, same_kind, keeps_pairs}
use Rattle.mont_base.specs.State.{State}
use Rattle.mont_base.specs.Versions.{live_objects, object_of}
use Rattle.mont_laws.specs.Records.{live_of}
use Rattle.core_steps.specs.declared.parts.CallerPart.{CallerPart}
use Rattle.core_steps.specs.Opened.{opened_at}
use Rattle.core_steps.specs.Sound.{base_state}
use Rattle.heap.specs.HeapShown.{HeapShown, CallerShown}
use Rattle.slots.specs.RegionBeginning.{BeginsWith, greatest, live_serials, serial_at_first, fresh_books, first_books}
use Rattle.slots.specs.Books.{RegionShown}
use Rattle.structure_call.specs.Calling.{HasAnsweredCall, HasEnd, LeavesCall}

-- ---- what the unit was opened with
abbrev pub records_opened : HeapShown → ℕ → List Held
records_opened heap unit = records_of heap.opening.layout heap.opening.words unit

abbrev pub objects_opened : HeapShown → ℕ → List Object
objects_opened heap unit = live_objects (records_opened heap unit)

-- the greatest identity of the records, and 0 without one
abbrev pub greatest_opened : HeapShown → ℕ → ℕ
greatest_opened heap unit = greatest_by identity_of (records_opened heap unit)

abbrev pub opened_with : HeapShown → List State → ℕ → State
opened_with heap states unit = base_state (opened_at (clock_of heap.opening.words) states) unit

-- ---- versions of a thing
-- whether a unit of a kind may hold a thing
abbrev pub is_thing_of : UnitKind → Thing → Bool
is_thing_of kind (Pair key value) = keeps_pairs kind
is_thing_of kind (Item item) = same_kind kind kinds.Queue
is_thing_of kind (Vertex vertex attribute) = same_kind kind kinds.Graph
is_thing_of kind (Edge from to attribute) = same_kind kind kinds.Graph

-- the same of a unit's kind, if there is the unit
abbrev pub may_hold : Option UnitKind → Thing → Bool
may_hold None thing = false
may_hold (Some kind) thing = is_thing_of kind thing

-- A live record's version is above that which its thing had at first by so many at most.
abbrev pub AreVersionsWithin : Shape → ℕ → List Object → ℕ → List Held → Type 0
AreVersionsWithin s unit objects changes records =
    (thing : Thing) → may_hold (kind_of s unit) thing ≡ true
    → (identity : ℕ) (r : Held) → live_of identity records ≡ Some r
    → is_version_of thing (object_of r) ≡ true
    → r.label.version ≤ version_among objects thing + changes

-- ---- the numbers of a unit
-- Each object that an entry inserted was given an identity, and each item a serial, and none
-- besides; and each change made a version later by one.
pub record IsCountedFrom (heap : HeapShown) (r : RegionShown) (base : State) : Type 0 where
  pub identity : r.books.identity
      ≡ greatest_opened heap r.books.unit + insertions base r.seat.known.part.history + 1
  pub versions : AreVersionsWithin heap.opening.layout r.books.unit
      (objects_opened heap r.books.unit) (changes_made base r.seat.known.part.history)
      r.seat.known.part.records
  pub serial : r.books.serial
      ≡ serial_at_first heap.opening.layout r.books.unit (records_opened heap r.books.unit)
      + enqueued base r.seat.known.part.history

-- Unless a caller was cut in the unit, its numbers are counted from the state that it was opened
-- with, by whatever states recovery gives.
abbrev pub HasCounted : HeapShown → RegionShown → Type 0
HasCounted heap r =
    r.books.halted ≡ None → (states : List State)
    → IsRecovered heap.opening.layout heap.opening.words states
    → IsCountedFrom heap r (opened_with heap states r.books.unit)

-- they are in one way at most
pub counted_once : (heap : HeapShown) (r : RegionShown) → IsProp (HasCounted heap r)
counted_once heap r = hlevel (props, Coded-set coded_ℕ)

-- ---- laws
-- a unit that begins with nothing, or with what recovery found, has counted
abbrev pub FreshAreCounted : Type 0
FreshAreCounted =
    (heap : HeapShown) (r : RegionShown)
    → records_opened heap r.books.unit ≡ []
    → r.books ≡ fresh_books heap.opening.layout r.books.unit → BeginsWith r.seat.known.part [] []
    → HasCounted heap r

abbrev pub RecoveredAreCounted : Type 0
RecoveredAreCounted =
    (heap : HeapShown) (r : RegionShown) (lost : List ℕ)
    → r.books
    ≡ first_books heap.opening.layout r.books.unit (records_opened heap r.books.unit) lost
    → BeginsWith r.seat.known.part (records_opened heap r.books.unit) lost → HasCounted heap r

-- and so it has after each call
abbrev pub AnswersAreCounted : Type 0
AnswersAreCounted =
    (heap : HeapShown) (old new : RegionShown) (q r : CallerShown) (op : Op) (receipt : Receipt)
    → old.books.halted ≡ None → HasAnsweredCall heap old new q r op receipt → HasCounted heap old
    → HasCounted heap new

abbrev pub RefusalsAreCounted : Type 0
RefusalsAreCounted =
    (heap : HeapShown) (old new : RegionShown) (q r : CallerShown) (op : Op) (why : CallRefusal)
    → old.books.halted ≡ None → LeavesCall heap old new q r op why → HasCounted heap old
    → HasCounted heap new

-- ---- numbers at their end
-- The operation would add an item, and there is no serial for it.
pub record LacksSerial (heap : HeapShown) (r : RegionShown) (op : Op) (base : State)
    : Type 0 where
  pub of_queue : kind_of heap.opening.layout r.books.unit ≡ Some kinds.Queue
  pub adds : 1 ≤ count_by is_enqueuing (effects_then base r.seat.known.part.history op)
  pub none_left : LAST
      ≤ greatest (live_serials (records_opened heap r.books.unit))
      + enqueued base r.seat.known.part.history

-- what a caller or its unit lacks
abbrev pub LacksNumber : HeapShown → RegionShown → CallerPart → Op → State → Which → Type 0
LacksNumber heap r q op base ends.Call = LAST < q.calls
LacksNumber heap r q op base ends.Place = LAST < r.books.places
LacksNumber heap r q op base ends.Identity =
    LacksIdentity (records_opened heap r.books.unit) base r.seat.known.part.history op
LacksNumber heap r q op base ends.Version =
    LacksVersions (records_opened heap r.books.unit) base r.seat.known.part.history op
LacksNumber heap r q op base ends.Serial = LacksSerial heap r op base

abbrev pub NumbersEnd : Type 0
NumbersEnd =
    (heap : HeapShown) (old new : RegionShown) (q r : CallerShown) (op : Op) (which : Which)
    → old.books.layout ≡ heap.opening.layout
    → HasEnd heap old new q r op (CountEnd which) → HasCounted heap old
    → (states : List State) → IsRecovered heap.opening.layout heap.opening.words states
    → LacksNumber heap old q.known.part op (opened_with heap states old.books.unit) which
