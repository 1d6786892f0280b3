use Rattle.shard_map.proofs.MapBegins.{unit_with, keys_of_objects}
use Rattle.shard_map.proofs.map_shard.MapShard.rebuild.Goals as goal

pub invariant_of-result : goal.invariant_of-result
invariant_of-result g c = unit_with c.args.region (g.I.Index.places c.in_ok-index.index) c.args.layout c.requires.layout c.requires.kind
    c.requires.agrees
    (keys_of_objects c.args.layout c.args.region.books.unit c.args.region.seat.known.part.records c.args.objects.now c.requires.structure.0
    (g.I.Index.places c.in_ok-index.index) c.requires.agrees.1.apart c.requires.kind c.requires.live c.requires.structure.1
    c.in_ok-index.ensures)

pub returns-clause-index : goal.returns-clause-index
returns-clause-index g c =
    keys_of_objects c.args.layout c.args.region.books.unit c.args.region.seat.known.part.records c.args.objects.now c.requires.structure.0
    (g.I.Index.places c.in_ok-index.index) c.requires.agrees.1.apart c.requires.kind c.requires.live c.requires.structure.1
    c.in_ok-index.ensures
