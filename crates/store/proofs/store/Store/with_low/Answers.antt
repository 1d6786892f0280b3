use Rattle.mont_base.specs.declared.operation.Op.TheVariants as ops
use Rattle.shard_map.specs.MovedNumbers.{of_low}
use Rattle.store.proofs.UnitOps.{op_inside}
use Rattle.store.proofs.store.Store.with_low.Goals as goal

pub number_of_lock-requires : goal.number_of_lock-requires
number_of_lock-requires g c =
    let by = c.args.by.now in
    op_inside g.N.HeapName.heap.opening.layout c.args.low (ops.Get (of_low by.up (by.from, by.to))) c.requires.units.lower
