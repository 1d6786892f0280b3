use Rattle.job_store.proofs.Following.{runs_make_rounds}
use Rattle.job_store.proofs.run_rounds.runs_make_rounds.Goals as goal

pub returns : goal.returns
returns c = runs_make_rounds
