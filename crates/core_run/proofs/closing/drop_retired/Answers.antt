use Rattle.std.proofs.Common.{ap, ◌∙◌, rules, tests}
use Rattle.std.specs.Prelude.{not, ◌==◌}
use Rattle.std.proofs.lemmas.Fn.{filter_same}
use Rattle.mont_laws.specs.declared.retiring.Retired.{Retired}
use Rattle.core_steps.specs.Closing.{without_retired}
use Rattle.core_run.proofs.closing.drop_retired.Goals as goal

pub returns : goal.returns
returns c =
    c.from_vec.ensures
    ∙ filter_same _ (λ (t : Retired). not (t.slot == c.args.slot)) _ (λ x b f k. search (rules, tests)) _ _ c.retain.ensures.filtered
    ∙ ap (without_retired c.args.slot) c.taken-left.ensures.items
