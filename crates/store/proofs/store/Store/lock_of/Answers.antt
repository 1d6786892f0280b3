use Rattle.std.proofs.Common.{◌∙◌, ap, arith}
use Rattle.mont_base.specs.Layout.{units_of}
use Rattle.heap.specs.HeapShown.{HeapShown}
use Rattle.store.proofs.UnitOps.{op_inside}
use Rattle.store.proofs.store.Store.lock_of.Goals as goal

pub returns-clause-few : goal.returns-clause-few
returns-clause-few g c =
    let inside = op_inside g.N.HeapName.heap.opening.layout c.args.unit c.args.op.now c.requires.of_unit in
    let few = c.units-units.ensures.layout.kinds.few in
    let same = ap units_of (c.layout.ensures ∙ ap (λ (h : HeapShown). h.opening.layout) c.self.invariant.of_heap) in
    omega (arith, inside, few, same)
