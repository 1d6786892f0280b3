-- What is done with a store from its opening to its stop, by the work of each of its callers.
use Rattle.std.specs.Prelude.{◌≡◌, ℕ, List, length, slice_get, Some}
use Rattle.mont_base.specs.declared.gate.Gate.{Ghosts}
use Rattle.mont_base.specs.declared.constants.TheConstants.{FIRST_CLOCK}
use Rattle.mont_base.specs.Image.{empty_states}
use Rattle.mont_base.specs.Layout.{Shape}
use Rattle.plain.specs.States.{states_of}
use Rattle.heap.specs.FreshOpening.{fresh_opening}
use Rattle.heap.specs.HeapShown.{HeapShown, CallerShown}
use Rattle.heap_pass.specs.declared.pass.Pass.{Pass}
use Rattle.store_stop.specs.declared.headline.Stopped.{Stopped}
use Rattle.store_stop.specs.Headline.{IsBaseOf, IsStopped}
use Rattle.store_door.specs.declared.door.AtWork.{AtWork}
use Rattle.store.specs.Store.{AreAllCallers}
use Rattle.store.specs.StoreCalls.{IsSamePass}

-- What the work of a caller did: it was so before and is so now, with the heap of the store, and
-- with what the caller's ticket shows in the end.
abbrev pub Deed : Type 0 → Type 1
Deed W = W → W → HeapShown → CallerShown → Type 0

-- Each pass is of the same caller as the one in its place was, and has all of its receipts still if
-- that had.
pub record AreSamePasses {G : Type 0} {asks : Ghosts G} (olds news : List (Pass G asks))
    : Type 0 where
  pub many : length news ≡ length olds
  pub each :
      (place : ℕ) (old new : Pass G asks) → slice_get olds place ≡ Some old
      → slice_get news place ≡ Some new → IsSamePass old new

-- ---- while the callers are at work
-- a caller's work did this with its pass
pub record HasWorked {W G : Type 0} {asks : Ghosts G} (did : Deed W) (heap : HeapShown)
    (old new : AtWork G W asks) : Type 0 where
  pub same : IsSamePass old.pass new.pass
  pub done : did old.work new.work heap new.pass.ticket

-- the work of each did
pub record HaveWorked {W G : Type 0} {asks : Ghosts G} (did : Deed W) (heap : HeapShown)
    (olds news : List (AtWork G W asks)) : Type 0 where
  pub many : length news ≡ length olds
  pub each :
      (place : ℕ) (old new : AtWork G W asks) → slice_get olds place ≡ Some old
      → slice_get news place ≡ Some new → HasWorked did heap old new

-- ---- once it is stopped
-- the works of all callers, each with its ticket
pub record AreDeeds {W : Type 0} (did : Deed W) (heap : HeapShown) (olds news : List W)
    (callers : List CallerShown) : Type 0 where
  pub many : length news ≡ length olds
  pub each :
      (caller : ℕ) (old new : W) (ticket : CallerShown) → slice_get olds caller ≡ Some old
      → slice_get news caller ≡ Some new → slice_get callers caller ≡ Some ticket
      → did old new heap ticket

-- A store of this heap was stopped after the works of all its callers.
pub record IsDone {W : Type 0} (did : Deed W) (heap : HeapShown) (olds news : List W) (t : Stopped)
    : Type 0 where
  pub callers : List CallerShown
  pub all : AreAllCallers heap callers
  pub deeds : AreDeeds did heap olds news callers
  pub base : IsBaseOf heap.opening t.base_clock (states_of t.base)
  pub stopped : IsStopped heap.opening.layout t.base_clock t.base callers t

-- It was one that was never used before, with as many callers as there are works.
pub record IsDoneFresh {W : Type 0} (did : Deed W) (layout : Shape) (olds news : List W)
    (t : Stopped) : Type 0 where
  pub heap : HeapShown
  pub opened : heap.opening ≡ fresh_opening layout (length olds)
  pub done : IsDone did heap olds news t
  pub first : t.base_clock ≡ FIRST_CLOCK
  pub empty : states_of t.base ≡ empty_states layout
