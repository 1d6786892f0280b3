use Rattle.std.proofs.Common.{◌∙◌, subst}
use Rattle.std.specs.Prelude.{Err, IfErr}
use Rattle.std.specs.declared.result.Result.{Result}
use Rattle.mont_base.specs.declared.refusal.CallRefusal.{CallRefusal}
use Rattle.heap.specs.HeapShown.{HeapShown}
use Rattle.store.specs.StoreShown.{StoreShown, OfAnyBase}
use Rattle.store.specs.StoreCalls.{HasCalled}
use Rattle.store.specs.UnitAt.{region_of, structure_kind, StandsAt}
use Rattle.store.proofs.AskedKeys.{range_kind}
use Rattle.store.proofs.CallsShown.{handed_on, receipt_called, refusal_called}
use Rattle.store.proofs.RangesHanded.{hands_run}
use Rattle.store.proofs.UnitStands.{stood, stands_behind}
use Rattle.store.proofs.unit_at.UnitAt.range.Goals as goal
use Rattle.store.proofs.unit_at.UnitAt.range.Given.{Over}
use Rattle.store.proofs.unit_at.UnitAt.range.Goals.{After-perform}

found : (g : Over) (c : After-perform g) → StandsAt c.args.heap.now g.row.UNIT c.deref_mut-structure.result.now
found g c =
    stood g.N.HeapName.heap c.args.heap.now g.row.UNIT c.args.self.now.structure c.in-Some.boxed c.deref_mut-structure.result.now
    c.requires.heap c.in-Some.is c.deref_mut-structure.ensures.value c.args.self.now.fits

pub returns-in_err-perform-clause-refused : goal.returns-in_err-perform-clause-refused
returns-in_err-perform-clause-refused g c =
    let why : CallRefusal = c.in_err-perform.field-0.0 in
    let e = c.in_err-perform.ensures in
    handed_on (λ (x : Result (Unit {0}) CallRefusal). IfErr x (λ (why : CallRefusal). OfAnyBase c.args.heap.now (λ (s : StoreShown).
    HasCalled s g.G.Gate.cuts g.G.Gate.endless c.args.pass.now c.perform.new.pass c.args.op.now (Err why)))) c.from_residual.result why
    c.from_residual.ensures.1
    (refusal_called c.args.heap.now g.row.UNIT c.deref_mut-structure.result.now (region_of c.perform.new.self) c.args.pass.now
    c.perform.new.pass c.args.op.now (found g (goal.at.returns-in_err-perform-clause-refused g c).After-perform) c.requires.op
    g.G.Gate.cuts g.G.Gate.endless {T = Unit {0}} (Err why) e.refused e.kept e.gate e.unasked)

pub pairs-requires-clause-kind : goal.pairs-requires-clause-kind
pairs-requires-clause-kind g c =
    let k = found g (goal.at.pairs-requires-clause-kind g c).After-perform in
    c.perform.ensures.kind
    ∙ range_kind c.args.heap.now.opening.layout g.row.UNIT (structure_kind c.deref_mut-structure.result.now) k.kind c.args.op.now
    c.requires.op.of_unit c.requires.range

pub invariant_of-self-2 : goal.invariant_of-self-2
invariant_of-self-2 g c = record {
  fits = subst (λ (h : HeapShown). StandsAt h g.row.UNIT c.perform.new.self) c.requires.heap
      (stands_behind c.args.heap.now g.row.UNIT c.deref_mut-structure.result.now c.perform.new.self c.args.pass.now.ticket
      c.perform.new.pass.ticket c.args.op.now c.args.pass.now.receipts.items c.perform.new.pass.receipts.items
      c.perform.result (found g (goal.at.invariant_of-self-2 g c).After-perform)
      c.perform.ensures.stands c.perform.ensures.checked c.perform.ensures.answered c.perform.ensures.refused c.perform.ensures.kind);
}

pub returns-clause-answered : goal.returns-clause-answered
returns-clause-answered g c =
    let k = found g (goal.at.returns-clause-answered g c).After-perform in
    let e = c.in_ok-perform.ensures in record {
      receipt = e.answered.receipt;
      kept = e.answered.kept;
      holds = λ base recovered. (
        receipt_called c.args.heap.now g.row.UNIT c.deref_mut-structure.result.now (region_of c.perform.new.self) c.args.pass.now
            c.perform.new.pass c.args.op.now k c.requires.op g.G.Gate.cuts g.G.Gate.endless e.answered.receipt e.answered.holds
            e.answered.kept e.gate base recovered,
        hands_run c.args.heap.now (region_of c.deref_mut-structure.result.now) (region_of c.perform.new.self) c.args.pass.now.ticket
            c.perform.new.pass.ticket c.args.op.now e.answered.receipt c.pairs.new.pairs k.seated e.answered.holds c.pairs.ensures base
            recovered,
      );
    }
