use Rattle.std.proofs.Common.{◌≡◌, vec_len}
use Rattle.bank_store.proofs.bank_run.steady_gates.Given as goal

abbrev pub invariant-loop-caller : goal.invariant-loop-caller
invariant-loop-caller l = vec_len l.gates ≡ l._caller
