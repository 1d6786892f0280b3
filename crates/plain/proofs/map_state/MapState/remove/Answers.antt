use Rattle.plain.proofs.Maps.{keys_total, keys_differ, kept_get, kept_remove}
use Rattle.plain.proofs.map_state.MapState.remove.Goals as goal

pub returns-clause-before : goal.returns-clause-before
returns-clause-before c =
    kept_get keys_total c.self.inside.pairs.entries c.args.self.now c.self.view_is c.args.key.now _ c.remove.ensures.value

pub returns-clause-after : goal.returns-clause-after
returns-clause-after c =
    kept_remove keys_total c.self.inside.pairs.entries c.args.self.now c.self.view_is keys_differ
    c.remove.new.self.entries c.args.key.now c.remove.ensures.updates.0
