use Rattle.std.proofs.Common.{arith}
use Rattle.store_cases.proofs.Tickets.{next_of_heap, rest_of_heap, as_long}
use Rattle.store_cases.proofs.round_ends.callers_of.Goals as goal

pub loop-pass-preserved : goal.loop-pass-preserved
loop-pass-preserved g c =
    let pushed = c.push_reserved.ensures in
    let inv = c.loop-pass.invariant in (
      rest_of_heap g.N.HeapName.heap (λ p. p.ticket) _ _ c.in-Some.pass c.in-Some.ensures.steps.0 inv.0,
      as_long c.loop-pass.callers.items c.push_reserved.new.self.items c.new.result c.loop-pass.yielded c.in-Some.pass pushed.items inv.1,
      omega (arith, pushed.capacity, inv.2),
    )

pub new-requires : goal.new-requires
new-requires g c =
    next_of_heap g.N.HeapName.heap (λ p. p.ticket) _ _ c.in-Some.pass c.in-Some.ensures.steps.0 c.loop-pass.invariant.0
