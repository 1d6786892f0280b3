use Rattle.std.proofs.Common.{map, subst}
use Rattle.std.specs.FinMap as finite
use Rattle.heap_rule.specs.declared.rule.Opening.{Opening}
use Rattle.store.specs.MapBoxes.{HaveEmptyBoxes}
use Rattle.job_store.proofs.synced_run.synced_on_fresh.Goals as goal

pub returns-clause-boxes : goal.returns-clause-boxes
returns-clause-boxes g c =
    subst (λ (o : Opening). HaveEmptyBoxes o.layout (map (λ b. finite.len (g.I.Index.places b)) c.args.indexes.items))
    c.requires.opens.opening c.in_ok-store.ensures.boxes
