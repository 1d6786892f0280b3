use Rattle.plain.proofs.Maps.{keys_total, kept_len}
use Rattle.plain.proofs.map_state.MapState.len.Goals as goal

pub returns : goal.returns
returns c =
    kept_len keys_total c.self.inside.pairs.entries c.args.self.now c.self.view_is c.len.result c.len.ensures.ordered c.len.ensures.len
