-- A gate that is asked again and again.
use Rattle.std.proofs.Common.{◌≡◌, ℕ, Bool, false, refl, ◌∙◌, subst, arith}
use Rattle.std.proofs.lemmas.Bool.{false≢true}
use Rattle.mont_base.specs.Faults.{Rose}
use Rattle.heap.specs.GateAsked.{IsAskedOften}

pub asked_none : {G : Type 0} (cuts : G → ℕ) (endless : G → Bool) (x : G) → IsAskedOften cuts endless x x false
asked_none cuts endless x = record {
  later = omega arith;
  kept = λ e. refl;
  counted = λ e. absurd (false≢true e);
  same = refl;
  passes = λ e. refl;
}

pub asked_more : {G : Type 0} (cuts : G → ℕ) (endless : G → Bool) (x y z : G) (cut : Bool)
    → IsAskedOften cuts endless x y false → IsAskedOften cuts endless y z cut → IsAskedOften cuts endless x z cut
asked_more cuts endless x y z cut a b = record {
  later = let i = a.later in let j = b.later in omega (arith, i, j);
  kept = λ e. b.kept e ∙ a.kept refl;
  counted = λ e. subst (λ (n : ℕ). Rose n (cuts z)) (a.kept refl) (b.counted e);
  same = b.same ∙ a.same;
  passes = λ e. b.passes (a.same ∙ e);
}

pub asked_on : {G : Type 0} (cuts : G → ℕ) (endless : G → Bool) (x y z : G) (cut : Bool) → cut ≡ false
    → IsAskedOften cuts endless x y false → IsAskedOften cuts endless y z cut → IsAskedOften cuts endless x z false
asked_on cuts endless x y z cut e a b =
    subst (λ (c : Bool). IsAskedOften cuts endless x z c) e (asked_more cuts endless x y z cut a b)
