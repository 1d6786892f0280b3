use Rattle.job_store.proofs.Opened.{bases_are_one}
use Rattle.job_store.proofs.base.bases_are_one.Goals as goal

pub returns : goal.returns
returns c = bases_are_one
