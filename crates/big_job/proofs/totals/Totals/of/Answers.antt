use Rattle.std.proofs.Common.{◌+◌, ◌^◌, ◌≤◌, map, subst}
use Rattle.std.specs.List.{sum_by}
use Rattle.std.proofs.lemmas.Result.{err_from_is_err_and}
use Rattle.mont_base.specs.State.{size_of}
use Rattle.plain.specs.States.{state_of}
use Rattle.big_job.specs.Totals.{things_in}
use Rattle.big_job.proofs.AllThings.{no_room}
use Rattle.big_job.proofs.totals.Totals.of.Goals as goal

pub returns-in_err-totals : goal.returns-in_err-totals
returns-in_err-totals c =
    let failed = err_from_is_err_and c.from_residual.result c.from_residual.ensures.1 in
    let items = c.as_slice-state-items.result.now in
    let many = subst (λ s. 2 ^ 64 ≤ things_in c.loop-state.totals + size_of (state_of s)) c.state-item.is c.in_err-totals.ensures in
    let so_far = c.loop-state.totals in
    let whole = no_room _ state_of items c.loop-state.state-index _ so_far c.loop-state.invariant c.loop-state-test.true many in
    rw failed.1 (subst (λ units. 2 ^ 64 ≤ sum_by size_of (map state_of units)) c.as_slice-state-items.ensures whole)
