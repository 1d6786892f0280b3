-- The store of the bank once it is stopped, with what its callers have of it.
use Rattle.std.specs.Prelude.{ℕ, List}
use Rattle.mont_base.specs.Image.{IsPermitted, IsWellFormed}
use Rattle.plain.specs.States.{states_of}
use Rattle.heap.specs.HeapShown.{HeapShown, CallerShown}
use Rattle.store.specs.Store.{AreAllCallers}
use Rattle.store_stop.specs.declared.headline.Stopped.{Stopped}
use Rattle.store_stop.specs.Headline.{IsBaseOf, IsStopped}
use Rattle.bank_store.specs.BankCallers.{HaveShifted}

-- All callers have made their shifts, and the store was stopped with what their tickets then
-- showed.
pub record HasEnded (heap : HeapShown) (number : ℕ) (t : Stopped) : Type 0 where
  pub base : IsBaseOf heap.opening t.base_clock (states_of t.base)
  pub callers : List CallerShown
  pub callers_are : AreAllCallers heap callers
  pub shifted : HaveShifted heap number callers
  pub stopped : IsStopped heap.opening.layout t.base_clock t.base callers t

-- recovery accepts each image that a crash permits
abbrev pub AcceptsImages : Stopped → Type 0
AcceptsImages t =
    (image : List ℕ) → IsPermitted t.words.cur t.words.dur image
    → IsWellFormed t.words.layout image
