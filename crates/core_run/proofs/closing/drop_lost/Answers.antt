use Rattle.std.proofs.Common.{ℕ, ap, ◌∙◌, rules, tests}
use Rattle.std.specs.Prelude.{not, ◌==◌}
use Rattle.std.proofs.lemmas.Fn.{filter_same}
use Rattle.core_steps.specs.Closing.{without_lost}
use Rattle.core_run.proofs.closing.drop_lost.Goals as goal

pub returns : goal.returns
returns c =
    c.from_vec.ensures
    ∙ filter_same _ (λ (n : ℕ). not (n == c.args.slot)) _ (λ x b f k. search (rules, tests)) _ _ c.retain.ensures.filtered
    ∙ ap (without_lost c.args.slot) c.taken-left.ensures.items
