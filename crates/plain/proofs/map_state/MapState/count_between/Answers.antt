use Rattle.std.proofs.Common.{◌∙◌}
use Rattle.std.proofs.lemmas.Iterator.{YieldsList-from_take}
use Rattle.std.proofs.lemmas.Iterator.Consumers.{YieldsList-from_rest, count_from_yields_List}
use Rattle.plain.proofs.map_state.MapState.count_between.Goals as goal

pub returns : goal.returns
returns c =
    count_from_yields_List c.take.result _ c.count.ensures.ran
    (YieldsList-from_take _ (YieldsList-from_rest _ (c.take.ensures.source ∙ c.pairs_between.ensures)) c.take.ensures.count)
