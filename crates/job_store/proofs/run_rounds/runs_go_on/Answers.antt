use Rattle.job_store.proofs.Following.{runs_go_on}
use Rattle.job_store.proofs.run_rounds.runs_go_on.Goals as goal

pub returns : goal.returns
returns c = runs_go_on
