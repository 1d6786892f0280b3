-- What the beginning of an operation of two units leaves.
use Rattle.std.specs.Prelude.{◌≡◌, ℕ, ◌≤◌, ◌⊎◌, Bool, true, false, length, Option, Some, None, Err}
use Rattle.std.specs.declared.result.Result.{Result}
use Rattle.heap.specs.HeapShown.{HeapShown, CallerShown}
use Rattle.slots.specs.Books.{RegionShown}
use Rattle.op_guard.specs.declared.guard.Guard.{Guard}
use Rattle.op_guard.specs.declared.guard.GuardRefusal.{GuardRefusal}
use Rattle.op_guard.specs.declared.guard.GuardRefusal.TheVariants as refusals
use Rattle.op_guard.specs.Guarding.{HasBegun, HasMadeRoom, IsFull, IsReachedBy}
use Rattle.op_guard.specs.Regions.{IsReady, KeepsUnit, WasHalted}
use Rattle.xfer.specs.declared.pair_guard.PairGuard.{PairGuard}
use Rattle.xfer.specs.declared.pair_guard.PairRefusal.{PairRefusal}
use Rattle.xfer.specs.declared.pair_guard.PairRefusal.TheVariants.{Full, Cut}
use Rattle.xfer.specs.Pairs.{WereHalted, low_half, high_half}

-- ---- room for one record
abbrev pub HasFreeSlot : RegionShown → Type 0
HasFreeSlot r = 1 ≤ length r.books.free

-- Room for one record was made, and no operation is under way. The books are those that making room
-- left.
pub record HasRoomIn (heap : HeapShown) (old new : RegionShown) (q : CallerShown) : Type 0 where
  pub emptied : RegionShown
  pub made : HasMadeRoom old emptied q 1
  pub books : new.books ≡ emptied.books
  pub ready : IsReady heap new
  pub keeps : KeepsUnit old new
  pub room : HasFreeSlot new

-- ---- begun
-- Room was made, and then the guard's operation was begun.
pub record HasBegunHalf
    (heap : HeapShown) (old new : RegionShown) (q : CallerShown) (g : Guard) : Type 0 where
  pub before : RegionShown
  pub room : HasRoomIn heap old before q
  pub begun : HasBegun heap before new q 1 g
  pub reached : IsReachedBy q old g.epoch

-- Both are registered at one epoch, which isn't below anything that the caller or one of the units
-- has seen.
pub record HasBegunPair
    (heap : HeapShown) (low low_now high high_now : RegionShown) (q : CallerShown) (g : PairGuard)
    : Type 0 where
  pub guard_is : g ≡ record {
    low = low.books.unit;
    high = high.books.unit;
    by = q.known.caller;
    epoch = g.epoch;
    written = 0;
  }
  pub lower : HasBegunHalf heap low low_now q (low_half g)
  pub higher : HasBegunHalf heap high high_now q (high_half g)

-- ---- refused
-- The lower unit is tried first: where the higher one is full, there is room in the lower one.
abbrev pub IsPairFull :
    HeapShown → RegionShown → RegionShown → RegionShown → RegionShown → CallerShown → CallerShown
    → ℕ → ℕ → ℕ → Type 0
IsPairFull heap low low_now high high_now q r unit free clock =
    ((unit ≡ low.books.unit) × IsFull heap low low_now q r 1 free clock × (high_now ≡ high))
    ⊎ ((unit ≡ high.books.unit) × IsFull heap high high_now q r 1 free clock
    × HasRoomIn heap low low_now q)

-- the caller was cut in the unit that is named, and both are halted
abbrev pub WereCutIn :
    HeapShown → ℕ → RegionShown → RegionShown → RegionShown → RegionShown → CallerShown
    → CallerShown → Type 0
WereCutIn heap unit low low_now high high_now q r =
    ((unit ≡ low.books.unit) × WereHalted heap low low_now high high_now q r)
    ⊎ ((unit ≡ high.books.unit) × WereHalted heap high high_now low low_now q r)

abbrev pub LeavesPairRefused :
    HeapShown → RegionShown → RegionShown → RegionShown → RegionShown → CallerShown → CallerShown
    → PairRefusal → Type 0
LeavesPairRefused heap low low_now high high_now q r (Full unit need free clock) =
    (need ≡ 1) × IsPairFull heap low low_now high high_now q r unit free clock
LeavesPairRefused heap low low_now high high_now q r (Cut unit) =
    WereCutIn heap unit low low_now high high_now q r

abbrev pub was_cut : {T : Type 0} → Result T PairRefusal → Bool
was_cut (Err (Cut unit)) = true
was_cut _ = false

-- ---- one try to register both
-- the clock had moved in between, and the unit is as it was but for steps
pub record HasGoneBack (heap : HeapShown) (old new : RegionShown) : Type 0 where
  pub ready : IsReady heap new
  pub books : new.books ≡ old.books
  pub keeps : KeepsUnit old new

pub record HaveGoneBack
    (heap : HeapShown) (low low_now high high_now : RegionShown) : Type 0 where
  pub lower : HasGoneBack heap low low_now
  pub higher : HasGoneBack heap high high_now
  pub learnt : high_now.seat.known.learnt ≡ high.seat.known.learnt

-- both are registered at the guard's epoch
pub record HaveRegistered
    (heap : HeapShown) (low low_now high high_now : RegionShown) (q : CallerShown) (g : PairGuard)
    : Type 0 where
  pub lower : HasBegun heap low low_now q 1 (low_half g)
  pub higher : HasBegun heap high high_now q 1 (high_half g)
  pub nothing : g.written ≡ 0

abbrev pub HasTriedPair :
    HeapShown → RegionShown → RegionShown → RegionShown → RegionShown → CallerShown
    → Option PairGuard → Type 0
HasTriedPair heap low low_now high high_now q (Some g) =
    HaveRegistered heap low low_now high high_now q g
HasTriedPair heap low low_now high high_now q None = HaveGoneBack heap low low_now high high_now

-- only the gate refuses a try
abbrev pub WasPairCut :
    HeapShown → RegionShown → RegionShown → RegionShown → RegionShown → CallerShown → CallerShown
    → PairRefusal → Type 0
WasPairCut heap low low_now high high_now q r (Full unit need free clock) = ⊥
WasPairCut heap low low_now high high_now q r (Cut unit) =
    WereCutIn heap unit low low_now high high_now q r

-- what a refusal of one unit makes of the other
abbrev pub HalvesRefusal :
    HeapShown → RegionShown → RegionShown → CallerShown → CallerShown → GuardRefusal → ℕ
    → PairRefusal → Type 0
HalvesRefusal heap other other_now q r (refusals.Full need free clock) unit why =
    (why ≡ Full unit need free clock) × (other_now ≡ other) × (r ≡ q)
HalvesRefusal heap other other_now q r refusals.Cut unit why =
    (why ≡ Cut unit) × WasHalted heap other other_now q r
