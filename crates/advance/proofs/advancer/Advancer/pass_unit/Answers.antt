use Rattle.std.proofs.Common.{ℕ, ◌/◌, ap, sym, subst, ◌∙◌}
use Rattle.core_steps.specs.Advancing.{unit_at_hand, lets_pass, is_odd}
use Rattle.heap.specs.HeapShown.{AdvShown}
use Rattle.advance.specs.Advance.{HasShown}
use Rattle.advance.proofs.Passing.{shows}
use Rattle.advance.proofs.advancer.Advancer.pass_unit.Goals as goal

pub returns-then-not-may_pass-clause-reason : goal.returns-then-not-may_pass-clause-reason
returns-then-not-may_pass-clause-reason g c =
    let ok = c.in_ok-word.ensures.ok in
    subst (λ (s : AdvShown). HasShown c.args.unit (c.in_ok-word.word / 2) (is_odd c.in_ok-word.word) s.known c.load_told.new.seat.known)
    c.self.view_is
    (shows c.self.inside.seat.known c.load_told.new.seat.known c.in_ok-word.word c.args.unit ok.0
    (ap (λ (s : AdvShown). s.known) ok.1)
    (c.requires.unit ∙ ap (λ (s : AdvShown). unit_at_hand s.known.part) (sym c.self.view_is))
    (ap (λ (n : ℕ). lets_pass n c.in_ok-word.word) (sym c.self.invariant.clock_is)
    ∙ (sym c.may_pass.ensures ∙ c.if-not-may_pass.true)) c.in_ok-word.ensures.word c.in_ok-word.ensures.durable)
