use Rattle.std.proofs.Common.{◌+◌, ap, sym, subst, ◌∙◌}
use Rattle.heap.specs.HeapShown.{AdvShown}
use Rattle.heap_rule.specs.Views.{list_at}
use Rattle.write_back.specs.Flush.{StandsAt}
use Rattle.write_back.proofs.Standing.{is_home, skipped}
use Rattle.write_back.proofs.flush.Flush.take.Goals as goal

pub returns-in-None-clause-stands : goal.returns-in-None-clause-stands
returns-in-None-clause-stands c =
    let f = c.args.self.now in
    let a = c.args.seat.now.known in
    let s = c.requires.stands in
    subst (λ (z : AdvShown). StandsAt (record f { unit = f.unit + 1 }) z.known) (sym c.in-None.ensures.back)
    (skipped f a s (is_home f a s (sym c.is_some.ensures ∙ c.if-is_some.false)) c.requires.unit
    (ap (list_at a.lists) (sym s.unit) ∙ c.in-None.ensures.none))
