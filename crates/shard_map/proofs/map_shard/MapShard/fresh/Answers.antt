use Rattle.std.specs.FinMap as finite
use Rattle.shard_map.proofs.MapBegins.{unit_with, keys_of_empty}
use Rattle.shard_map.proofs.map_shard.MapShard.fresh.Goals as goal

pub invariant_of-result : goal.invariant_of-result
invariant_of-result g c = unit_with c.args.region (g.I.Index.places c.args.index) c.args.layout c.requires.layout c.requires.kind
    c.requires.agrees
    (keys_of_empty c.args.layout c.args.region.books.unit c.args.region.seat.known.part.records (g.I.Index.places c.args.index)
    c.requires.none c.requires.empty)

pub returns-clause-index : goal.returns-clause-index
returns-clause-index g c = finite.empty_of_len (g.I.Index.places c.args.index) c.requires.empty
