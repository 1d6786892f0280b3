use Rattle.std.proofs.Common.{◌∙◌}
use Rattle.plain.proofs.Maps.{keys_total, kept_get}
use Rattle.plain.proofs.map_state.MapState.get.Goals as goal

pub returns : goal.returns
returns c =
    kept_get keys_total c.self.inside.pairs.entries c.args.self.now c.self.view_is c.args.key.now c.copied.result
    (c.copied.ensures ∙ c.get.ensures.value)
