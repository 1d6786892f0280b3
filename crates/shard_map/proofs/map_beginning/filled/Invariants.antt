use Rattle.std.proofs.Common.{take}
use Rattle.shard_map.specs.MapBeginning.{HasKeysOf}
use Rattle.shard_map.proofs.map_beginning.filled.Given as goal

abbrev pub invariant-loop-object : goal.invariant-loop-object
invariant-loop-object g l = HasKeysOf (take l.object-index l.objects)
    (g.I.Index.places l.index)
