use Rattle.std.proofs.Common.{subst}
use Rattle.mont_base.specs.Layout.{Shape}
use Rattle.image_units.specs.FirstRefusal.{IsFirstRefusal}
use Rattle.job_store.proofs.Ended.{only_memory}
use Rattle.job_store.proofs.whole_run.rebuilt.Goals as goal

pub out_of_memory-requires : goal.out_of_memory-requires
out_of_memory-requires g c =
    let image = c.args.image.now in
    only_memory c.args.job.now g.N.HeapName.heap c.args.outcomes.now c.args.stopped.now c.requires.ended image.words c.requires.picked
    c.in-Err.why
    (subst (λ (s : Shape). IsFirstRefusal s image.words c.in-Err.why) c.requires.layout c.in-Err.ensures.refused)
