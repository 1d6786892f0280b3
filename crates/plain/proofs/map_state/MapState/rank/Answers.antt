use Rattle.std.proofs.Common.{◌∙◌}
use Rattle.std.proofs.lemmas.Iterator.Consumers.{YieldsList-from_rest, count_from_yields_List}
use Rattle.plain.proofs.Ranges.{kept_below}
use Rattle.plain.proofs.map_state.MapState.rank.Goals as goal

pub returns : goal.returns
returns c =
    count_from_yields_List c.range.result _ c.count.ensures.ran
    (YieldsList-from_rest _ (c.range.ensures.between tt
    ∙ kept_below c.self.inside.pairs.entries c.args.self.now c.self.view_is c.range.ensures.ordered c.args.key.now))
