use Rattle.job_store.proofs.Lossless.{ends_synced}
use Rattle.job_store.proofs.synced_run.run_whole_synced.Goals as goal

pub returns-clause-synced : goal.returns-clause-synced
returns-clause-synced g c =
    ends_synced c.args.job.now g.N.HeapName.heap _ _ _ c.in_ok-ended.ensures g.N.HeapName.heap.opening.words _
    c.in_ok-run.ensures.run c.in_ok-run.ensures.told
