-- So many attempts were made, and none was cut.
use Rattle.std.proofs.Common.{◌≡◌, true}
use Rattle.advance.specs.Attempts.{AreTries, HasAdvanced}
use Rattle.bank_store.proofs.attempts.make_attempts.Given as goal

abbrev pub invariant-loop-made : goal.invariant-loop-made
invariant-loop-made g l = record {
  endless : g.A.Gate.endless l.gate ≡ true;
  tries : AreTries (HasAdvanced g.A.Gate.asked g.N.HeapName.heap) l._made l.fn.gate l.gate;
}
