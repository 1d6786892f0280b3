use Rattle.job_store.proofs.Opened.{runs_on_nothing}
use Rattle.job_store.proofs.fresh_run.run_fresh.Goals as goal

pub returns-clause-run : goal.returns-clause-run
returns-clause-run g c =
    runs_on_nothing (λ w. w) c.args.job.now c.in_ok-heap.heap.opening c.requires.job c.in_ok-heap.ensures.opens.opening
    c.run_on_fresh.result c.run_on_fresh.ensures.run
