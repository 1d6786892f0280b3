use Rattle.std.proofs.Common.{ap, arith, subst}
use Rattle.mont_base.specs.Layout.{units_of}
use Rattle.heap.specs.HeapShown.{HeapShown}
use Rattle.store.specs.UnitAt.{region_of, StandsAt, FitsNumber}
use Rattle.store.proofs.CallsShown.{kept_called, refusal_called}
use Rattle.store.proofs.UnitOps.{op_inside}
use Rattle.store.proofs.UnitStands.{stood, stands_behind}
use Rattle.store.proofs.unit_at.UnitAt.perform.Goals as goal
use Rattle.store.proofs.unit_at.UnitAt.perform.Given.{Over}
use Rattle.store.proofs.unit_at.UnitAt.perform.Goals.{After-perform}

found : (g : Over) (c : After-perform g) → StandsAt c.args.heap.now g.row.UNIT c.deref_mut.result.now
found g c =
    stood g.N.HeapName.heap c.args.heap.now g.row.UNIT c.args.self.now.structure c.in-Some.structure c.deref_mut.result.now
    c.requires.heap c.in-Some.is c.deref_mut.ensures.value c.args.self.now.fits

pub unreachable-requires : goal.unreachable-requires
unreachable-requires g c =
    let past = subst (FitsNumber g.N.HeapName.heap g.row.UNIT) c.in_default.is c.args.self.now.fits in
    let inside = op_inside c.args.heap.now.opening.layout g.row.UNIT c.args.op.now c.requires.op.of_unit in
    let same = ap (λ (h : HeapShown). units_of h.opening.layout) c.requires.heap in
    absurd (omega (arith, past, inside, same))

pub invariant_of-self : goal.invariant_of-self
invariant_of-self g c = record {
  fits = subst (λ (h : HeapShown). StandsAt h g.row.UNIT c.perform.new.self) c.requires.heap
      (stands_behind c.args.heap.now g.row.UNIT c.deref_mut.result.now c.perform.new.self c.args.pass.now.ticket c.perform.new.pass.ticket
      c.args.op.now c.args.pass.now.receipts.items c.perform.new.pass.receipts.items
      c.perform.result (found g (goal.at.invariant_of-self g c).After-perform) c.perform.ensures.stands
      c.perform.ensures.checked c.perform.ensures.answered c.perform.ensures.refused c.perform.ensures.kind);
}

pub returns-clause-answered : goal.returns-clause-answered
returns-clause-answered g c =
    let e = c.perform.ensures in
    kept_called c.args.heap.now g.row.UNIT c.deref_mut.result.now (region_of c.perform.new.self) c.args.pass.now c.perform.new.pass
    c.args.op.now (found g (goal.at.returns-clause-answered g c).After-perform) c.requires.op g.G.Gate.cuts g.G.Gate.endless
    c.perform.result e.answered e.gate

pub returns-clause-refused : goal.returns-clause-refused
returns-clause-refused g c =
    let e = c.perform.ensures in
    refusal_called c.args.heap.now g.row.UNIT c.deref_mut.result.now (region_of c.perform.new.self) c.args.pass.now c.perform.new.pass
    c.args.op.now (found g (goal.at.returns-clause-refused g c).After-perform) c.requires.op g.G.Gate.cuts g.G.Gate.endless
    c.perform.result e.refused e.kept e.gate e.unasked
