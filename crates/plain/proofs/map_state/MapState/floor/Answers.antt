use Rattle.std.proofs.Common.{sym, ap, ◌∙◌}
use Rattle.mont_base.specs.State.{last_of}
use Rattle.plain.specs.Ranges.{key_of}
use Rattle.plain.proofs.Ranges.{kept_at_most, last_pushed}
use Rattle.plain.proofs.map_state.MapState.floor.Goals as goal

pub returns-in_err-floor : goal.returns-in_err-floor
returns-in_err-floor c =
    let held = c.range.ensures.between tt
    ∙ kept_at_most c.self.inside.pairs.entries c.args.self.now c.self.view_is c.range.ensures.ordered c.args.key.now in
    c.from_residual.ensures ∙ ap (λ es. key_of (last_of es)) (sym c.in_err-floor.ensures.steps.0 ∙ held)

pub returns : goal.returns
returns c =
    let held = c.range.ensures.between tt
    ∙ kept_at_most c.self.inside.pairs.entries c.args.self.now c.self.view_is c.range.ensures.ordered c.args.key.now in
    sym (ap key_of (last_pushed c.next_back.new.self (c.in_ok-floor.floor.now, c.in_ok-floor.field-0-1.now)))
    ∙ ap (λ es. key_of (last_of es)) (sym c.in_ok-floor.ensures.steps ∙ held)
