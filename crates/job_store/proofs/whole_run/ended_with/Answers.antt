use Rattle.job_store.proofs.whole_run.ended_with.Goals as goal

pub returns : goal.returns
returns c = ((c.in_ok-ran.field-0.advancer_cut, c.in_ok-ran.was), c.in_ok-stopped.was)
