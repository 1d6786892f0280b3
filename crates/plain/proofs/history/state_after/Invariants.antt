use Rattle.std.proofs.Common.{◌≡◌, drop}
use Rattle.mont_base.specs.History.{state_after}
use Rattle.plain.specs.States.{state_of}
use Rattle.plain.proofs.history.state_after.Given as goal

abbrev pub invariant-loop-entry : goal.invariant-loop-entry
invariant-loop-entry l = state_after (state_of l.state) (drop l.entry-index l.entries) ≡ state_after (state_of l.fn.base) l.entries
