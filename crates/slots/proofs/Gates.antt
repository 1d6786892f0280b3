-- What several questions to a gate tell together.
use Rattle.std.proofs.Common.{◌≡◌, ℕ, Bool, false, refl, ◌∙◌, subst, arith}
use Rattle.std.specs.Prelude.{is_err, Result, Ok, Err}
use Rattle.mont_base.specs.declared.gate.Cut.{Cut}
use Rattle.mont_base.specs.Faults.{Rose}
use Rattle.heap.specs.GateAsked.{IsAskedOnce, IsAskedOften}

module _ {G : Type 0} (cuts : G → ℕ) (endless : G → Bool) (asked : G → G → Bool → Type 0) where
  -- none so far
  pub asks_none : (g : G) → IsAskedOften cuts endless g g false
  asks_none g = record {
    later = omega arith;
    kept = λ e. refl;
    counted = λ e. absurd (cc);
    same = refl;
    passes = λ e. refl;
  }

  -- one more, where none cut before
  pub asks_more : {T : Type 0} (g m n : G) (result : Result T Cut) → IsAskedOften cuts endless g m false
      → IsAskedOnce cuts endless asked m n result → IsAskedOften cuts endless g n (is_err result)
  asks_more g m n (Ok x) before once =
      let same : cuts n ≡ cuts m = once.cause.kept in
      let was = before.kept refl in
      record {
        later = omega arith;
        kept = λ e. same ∙ was;
        counted = λ e. absurd (cc);
        same = once.same ∙ before.same;
        passes = λ e. refl;
      }
  asks_more g m n (Err x) before once =
      let was : cuts m ≡ cuts g = before.kept refl in
      let rose : Rose (cuts m) (cuts n) = once.cause.failed in
      let low = once.cause.later in
      record {
        later = omega arith;
        kept = λ e. absurd (cc);
        counted = λ e. subst (λ (k : ℕ). Rose k (cuts n)) was rose;
        same = once.same ∙ before.same;
        passes = λ e. once.passes (before.same ∙ e);
      }

  -- and a call's questions after them
  pub asks_on : (g m n : G) (cut : Bool) → IsAskedOften cuts endless g m false → IsAskedOften cuts endless m n cut
      → IsAskedOften cuts endless g n cut
  asks_on g m n cut before now =
      let was : cuts m ≡ cuts g = before.kept refl in
      let low = now.later in
      record {
        later = omega arith;
        kept = λ e. now.kept e ∙ was;
        counted = λ e. subst (λ (k : ℕ). Rose k (cuts n)) was (now.counted e);
        same = now.same ∙ before.same;
        passes = λ e. now.passes (before.same ∙ e);
      }
