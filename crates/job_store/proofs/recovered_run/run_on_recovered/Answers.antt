use Rattle.std.proofs.Common.{◌≡◌, map, subst}
use Rattle.std.specs.FinMap as finite
use Rattle.mont_base.specs.Layout.{Shape}
use Rattle.heap.specs.HeapShown.{HeapShown}
use Rattle.store.specs.MapBoxes.{HaveEmptyBoxes}
use Rattle.job_store.proofs.recovered_run.run_on_recovered.Goals as goal

pub returns-clause-boxes : goal.returns-clause-boxes
returns-clause-boxes g c =
    subst (λ (s : Shape). HaveEmptyBoxes s (map (λ b. finite.len (g.I.Index.places b)) c.args.indexes.items))
    (subst (λ (h : HeapShown). h.opening.layout ≡ c.args.job.now.layout) c.requires.named c.requires.layout)
    c.in_ok-store.ensures.boxes
