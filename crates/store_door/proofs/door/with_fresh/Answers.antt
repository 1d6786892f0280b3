use Rattle.std.proofs.Common.{◌≡◌, ◌∙◌, ap, arith, length, map, subst}
use Rattle.std.proofs.lemmas.Result.{IfOk-weaker, on_ok_weaker}
use Rattle.std.specs.FinMap as finite
use Rattle.heap_rule.specs.declared.rule.Opening.{Opening}
use Rattle.heap.specs.FreshOpening.{fresh_opening}
use Rattle.store.specs.MapBoxes.{HaveEmptyBoxes}
use Rattle.store_door.specs.Door.{IsDone, IsDoneFresh}
use Rattle.store_door.proofs.DoneStores.{done_fresh}
use Rattle.store_door.proofs.door.with_fresh.Goals as goal

pub returns-clause-done : goal.returns-clause-done
returns-clause-done g c =
    let many : c.len.result ≡ length c.args.works.items = omega (arith, c.len.ensures, c.args.works.ok.0) in
    let opens = c.in_ok-heap.ensures.opens in
    IfOk-weaker c.work_on_fresh.result (λ r. IsDone g.W.Work.did c.in_ok-heap.heap c.args.works.items r.1.items r.0)
    (λ r. IsDoneFresh g.W.Work.did c.args.layout c.args.works.items r.1.items r.0)
    (λ r done.
    done_fresh g.W.Work.did c.args.layout c.in_ok-heap.heap c.args.works.items r.1.items r.0
    (opens.opening ∙ ap (fresh_opening c.args.layout) many) c.in_ok-heap.ensures.empty.base done) c.work_on_fresh.ensures.done

pub returns-clause-boxes : goal.returns-clause-boxes
returns-clause-boxes g c =
    on_ok_weaker c.work_on_fresh.result
    (subst (λ (o : Opening). HaveEmptyBoxes o.layout (map (λ b. finite.len (g.I.Index.places b)) c.args.indexes.items))
    c.in_ok-heap.ensures.opens.opening)
    c.work_on_fresh.ensures.boxes
