use Rattle.std.proofs.Common.{◌≡◌, drop}
use Rattle.mont_base.specs.History.{cut_at, state_after}
use Rattle.plain.specs.States.{state_of}
use Rattle.report_check.proofs.other_contents.cut_state.Given as goal

abbrev pub invariant-loop-entry : goal.invariant-loop-entry
invariant-loop-entry l =
    state_after (state_of l.state) (cut_at l.epoch (drop l.entry-index l.history))
    ≡ state_after (state_of l.fn.base) (cut_at l.epoch l.history)
