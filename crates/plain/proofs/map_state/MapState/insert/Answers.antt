use Rattle.plain.proofs.Maps.{keys_total, keys_differ, kept_get, kept_insert}
use Rattle.plain.proofs.map_state.MapState.insert.Goals as goal

pub returns-clause-before : goal.returns-clause-before
returns-clause-before c =
    kept_get keys_total c.self.inside.pairs.entries c.args.self.now c.self.view_is c.args.key _ c.in_ok-insert.ensures.old

pub returns-clause-ok : goal.returns-clause-ok
returns-clause-ok c =
    kept_insert keys_total c.self.inside.pairs.entries c.args.self.now c.self.view_is keys_differ
    c.insert.new.self.entries c.args.key c.args.value c.in_ok-insert.ensures.updates.0
