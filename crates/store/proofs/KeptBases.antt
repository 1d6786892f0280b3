-- What a stopped store says of what it opened with.
use Rattle.std.proofs.Common.{◌≡◌, ℕ, ◌∙◌, List, ap, sym, subst}
use Rattle.std.specs.Prelude.{Ok, Err, IfOk}
use Rattle.std.specs.declared.result.Result.{Result}
use Rattle.mont_base.specs.State.{State}
use Rattle.plain.specs.declared.contents.Contents.{Contents}
use Rattle.plain.specs.States.{states_of}
use Rattle.heap.specs.HeapShown.{HeapShown, CallerShown}
use Rattle.store_stop.specs.declared.headline.Stopped.{Stopped}
use Rattle.store_stop.specs.Headline.{IsBaseOf, IsStopped}

module _ {E : Type 0} (named heap : HeapShown) (same : heap ≡ named) (clock : ℕ) (base : Contents) (callers : List CallerShown) where
  pub with_its_base : (result : Result Stopped E)
      → IfOk result (λ (t : Stopped). IsStopped heap.opening.layout clock base callers t)
      → IsBaseOf named.opening clock (states_of base)
      → IfOk result (λ (t : Stopped). IsBaseOf named.opening t.base_clock (states_of t.base))
  with_its_base (Ok t) k opened =
      subst (λ (x : ℕ × Contents). IsBaseOf named.opening x.0 (states_of x.1)) (λ i. (sym k.base_clock i, sym k.base_is i)) opened
  with_its_base (Err e) k opened = tt

  pub as_it_says : (result : Result Stopped E)
      → IfOk result (λ (t : Stopped). IsStopped heap.opening.layout clock base callers t)
      → IfOk result (λ (t : Stopped). IsStopped named.opening.layout t.base_clock t.base callers t)
  as_it_says (Ok t) k =
      subst (λ (x : HeapShown × (ℕ × Contents)). IsStopped x.0.opening.layout x.1.0 x.1.1 callers t)
      (λ i. (same i, (sym k.base_clock i, sym k.base_is i))) k
  as_it_says (Err e) k = tt

pub base_kept : {E : Type 0} (heap : HeapShown) (clock : ℕ) (base : Contents) (callers : List CallerShown) (opened : List State)
    → states_of base ≡ opened → (result : Result Stopped E)
    → IfOk result (λ (t : Stopped). IsStopped heap.opening.layout clock base callers t)
    → IfOk result (λ (t : Stopped). states_of t.base ≡ opened)
base_kept heap clock base callers opened same (Ok t) k = ap states_of k.base_is ∙ same
base_kept heap clock base callers opened same (Err e) k = tt
