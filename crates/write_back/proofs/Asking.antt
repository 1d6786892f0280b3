-- Questions to a gate after others that passed.
use Rattle.std.proofs.Common.{ℕ, Bool, false, refl, ◌∙◌, arith}
use Rattle.heap.specs.GateAsked.{IsAskedOften}

pub asked_more : {G : Type 0} (cuts : G → ℕ) (endless : G → Bool) (x y z : G) (cut : Bool) → IsAskedOften cuts endless x y false
    → IsAskedOften cuts endless y z cut → IsAskedOften cuts endless x z cut
asked_more cuts endless x y z cut h j =
    let first = h.later in
    let later = j.later in record {
      later = omega arith;
      kept = λ e. j.kept e ∙ h.kept refl;
      counted = λ e. let rose = j.counted e in let before = h.kept refl in omega arith;
      same = j.same ∙ h.same;
      passes = λ e. j.passes (h.same ∙ e);
    }
