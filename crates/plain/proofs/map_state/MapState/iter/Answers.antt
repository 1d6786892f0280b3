use Rattle.plain.proofs.Maps.{keys_total, kept_entries}
use Rattle.plain.proofs.map_state.MapState.iter.Goals as goal

pub returns : goal.returns
returns c =
    kept_entries keys_total c.self.inside.pairs.entries c.args.self.now c.self.view_is c.iter.result c.iter.ensures.ordered
    c.iter.ensures.rest
