use Rattle.std.proofs.Common.{arith, subst}
use Rattle.mont_base.specs.declared.operation.Op.TheVariants as ops
use Rattle.shard_map.specs.MovedNumbers.{of_high}
use Rattle.store.specs.UnitAt.{FitsNumber}
use Rattle.store.proofs.UnitOps.{op_inside}
use Rattle.store.proofs.unit_at.UnitAt.shift_as_high.Goals as goal

pub unreachable-requires : goal.unreachable-requires
unreachable-requires g c =
    let by = c.args.by.now in
    let past = subst (FitsNumber g.N.HeapName.heap g.row.UNIT) c.in_default.is c.args.self.now.fits in
    let inside = op_inside g.N.HeapName.heap.opening.layout g.row.UNIT (ops.Get (of_high by.up (by.from, by.to)))
    c.requires.units.higher in
    absurd (omega (arith, past, inside))
