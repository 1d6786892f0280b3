use Rattle.std.specs.Cmp.Lexicographic.{bytes_decides}
use Rattle.std.proofs.lemmas.Map.Lookups.{btree_map_eq-Decides}
use Rattle.plain.proofs.Maps.{keys_total, kept_same, kept_apart}
use Rattle.plain.proofs.map_state.MapState.has_same_pairs.Goals as goal

pub returns-then-len : goal.returns-then-len
returns-then-len c =
    kept_same keys_total c.self.inside.pairs.entries c.args.self.now c.self.view_is c.other.inside.pairs.entries c.args.other.now
    c.other.view_is
    c.len.ensures.ordered c.len-2.ensures.ordered _
    (btree_map_eq-Decides bytes_decides bytes_decides c.self.inside.pairs c.other.inside.pairs c.eq.result c.eq.ensures)

pub returns-else-len : goal.returns-else-len
returns-else-len c =
    kept_apart keys_total c.self.inside.pairs.entries c.args.self.now c.self.view_is c.other.inside.pairs.entries c.args.other.now
    c.other.view_is
    c.len.ensures.ordered c.len-2.ensures.ordered c.len.result c.len-2.result c.len.ensures.len c.len-2.ensures.len c.if-len.false
