use Rattle.std.proofs.Common.{ap, ◌∙◌, rules, tests}
use Rattle.std.specs.Prelude.{not, ◌==◌}
use Rattle.std.proofs.lemmas.Fn.{filter_same}
use Rattle.mont_base.specs.declared.record.Held.{Held}
use Rattle.mont_laws.specs.Records.{without_slot}
use Rattle.core_run.proofs.closing.drop_record.Goals as goal

pub returns : goal.returns
returns c =
    c.from_vec.ensures
    ∙ filter_same _ (λ (r : Held). not (r.slot == c.args.slot)) _ (λ x b f k. search (rules, tests)) _ _ c.retain.ensures.filtered
    ∙ ap (without_slot c.args.slot) c.taken-left.ensures.items
