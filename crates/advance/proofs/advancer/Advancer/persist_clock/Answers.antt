use Rattle.std.proofs.Common.{ap, subst, ◌∙◌}
use Rattle.core_steps.specs.Advancing.{is_clocked}
use Rattle.heap.specs.HeapShown.{AdvShown}
use Rattle.advance.specs.Advance.{IsAdvanced}
use Rattle.advance.proofs.Staging.{clocked_rests}
use Rattle.advance.proofs.Ways.{rested_advanced}
use Rattle.advance.proofs.advancer.Advancer.persist_clock.Goals as goal

pub returns-clause-ok : goal.returns-clause-ok
returns-clause-ok g c =
    let moved = ap (λ (s : AdvShown). is_clocked s.known.part) c.self.view_is ∙ c.requires.moved in
    subst (λ (s : AdvShown). IsAdvanced s.known c.self.inside.clock c.persist_clock.new.seat.known) c.self.view_is
    (rested_advanced _ c.self.inside.seat.known c.persist_clock.new.seat.known c.self.inside.clock
    (ap (λ (s : AdvShown). s.known) c.in_ok-persist_clock.ensures.ok) c.self.invariant.clock_is moved
    (clocked_rests _ _ _ _ _ c.self.invariant moved) c.in_ok-persist_clock.ensures.ahead)
