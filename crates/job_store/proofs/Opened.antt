-- What a store opens with: one base from an image, and nothing where it was never used.
use Rattle.std.proofs.Common.{◌≡◌, ℕ, zero, suc, ◌+◌, List, [], ◌∷◌, map, replicate, refl, sym, ap, ◌∙◌, subst}
use Rattle.std.specs.Prelude.{Ok, Err, IfOk}
use Rattle.std.specs.declared.result.Result.{Result}
use Rattle.std.specs.List.{range_with_len}
use Rattle.mont_base.specs.Image.{records_of}
use Rattle.mont_base.specs.Layout.{Shape, IsLayout, units_of}
use Rattle.plain.proofs.Single.{recovered_once}
use Rattle.core_steps.specs.declared.parts.UnitPart.{UnitPart}
use Rattle.core_steps.specs.Fresh.{fresh_words}
use Rattle.heap_rule.specs.declared.rule.Opening.{Opening}
use Rattle.heap.specs.FreshOpening.{fresh_opening}
use Rattle.heap.proofs.EmptyStores.{nothing_recovered, opens_empty}
use Rattle.job_text.specs.declared.job.Job.{Job}
use Rattle.job_text.specs.Grammar.{IsJob}
use Rattle.job_store.specs.declared.whole_run.WholeRun.{WholeRun}
use Rattle.job_store.specs.WholeRun.{IsRunFrom, IsRunOn}
use Rattle.job_store.specs.Base.{Base, IsBaseIn, BasesAreOne, FreshStoresHoldNothing, nothing}

-- ---- one base
pub bases_are_one : BasesAreOne
bases_are_one s image a b x y = λ i. record {
  clock = (x.clock ∙ sym y.clock) i;
  states = recovered_once s image a.states b.states x.recovered y.recovered i;
  records = (x.records ∙ sym y.records) i;
}

-- ---- nothing
copies : {A : Type 0} (f : ℕ → A) (a : A) → ((x : ℕ) → f x ≡ a) → (n from : ℕ) → map f (range_with_len from n) ≡ replicate n a
copies f a same zero from = refl
copies f a same (suc n) from = λ i. same from i ∷ copies f a same n (from + 1) i

module _ (s : Shape) (layout : IsLayout s) where
  opens_so : IsBaseIn s (fresh_words s) (nothing s)
  opens_so = record {
    clock = refl;
    recovered = (opens_empty s layout 1).base;
    records = sym (copies (records_of s (fresh_words s)) []
        (λ unit. ap (λ (p : UnitPart). p.records) (nothing_recovered s layout unit)) (units_of s) 0);
  }

pub fresh_stores_hold_nothing : FreshStoresHoldNothing
fresh_stores_hold_nothing s b layout = (
  λ is. bases_are_one s (fresh_words s) b (nothing s) is (opens_so s layout),
  λ same. subst (IsBaseIn s (fresh_words s)) (sym same) (opens_so s layout),
)

-- so a run on a store that was never used is one with nothing
pub on_nothing : (j : Job) (o : Opening) (w : WholeRun) → IsJob j → o ≡ fresh_opening j.layout j.callers → IsRunFrom j o.words w
    → IsRunOn j (nothing j.layout) w
on_nothing j o w is opened run =
    let words : o.words ≡ fresh_words j.layout = ap (λ (x : Opening). x.words) opened in
    let base = subst (λ (x : List ℕ). IsBaseIn j.layout x run.base) words run.opened in
    subst (λ (b : Base). IsRunOn j b w) ((fresh_stores_hold_nothing j.layout run.base is.head.layout).0 base) run.run

pub runs_on_nothing : {X E : Type 0} (run : X → WholeRun) (j : Job) (o : Opening) → IsJob j → o ≡ fresh_opening j.layout j.callers
    → (result : Result X E) → IfOk result (λ (x : X). IsRunFrom j o.words (run x))
    → IfOk result (λ (x : X). IsRunOn j (nothing j.layout) (run x))
runs_on_nothing run j o is opened (Ok x) ran = on_nothing j o (run x) is opened ran
runs_on_nothing run j o is opened (Err e) ran = tt
