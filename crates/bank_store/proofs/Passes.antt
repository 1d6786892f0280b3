-- Passes of one caller, one after the other, and the next item of a list.
use Rattle.std.proofs.Common.{refl, ◌∙◌}
use Rattle.mont_base.specs.declared.gate.Gate.{Ghosts}
use Rattle.heap_pass.specs.declared.pass.Pass.{Pass}
use Rattle.store.specs.StoreCalls.{IsSamePass}

pub pass_same : {G : Type 0} {asks : Ghosts G} (p : Pass G asks) → IsSamePass p p
pass_same p = record { table = refl; caller = refl; whole = λ w. w }

pub pass_further : {G : Type 0} {asks : Ghosts G} (p q r : Pass G asks) → IsSamePass p q → IsSamePass q r → IsSamePass p r
pass_further p q r a b = record {
  table = b.table ∙ a.table;
  caller = b.caller ∙ a.caller;
  whole = λ w. b.whole (a.whole w);
}
