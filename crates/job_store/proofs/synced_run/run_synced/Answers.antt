use Rattle.job_store.proofs.Opened.{runs_on_nothing}
use Rattle.job_store.proofs.synced_run.run_synced.Goals as goal

pub returns-clause-run : goal.returns-clause-run
returns-clause-run g c =
    runs_on_nothing (λ r. r.run) c.args.job.now c.in_ok-heap.heap.opening c.requires.job c.in_ok-heap.ensures.opens.opening
    c.synced_on_fresh.result c.synced_on_fresh.ensures.run
