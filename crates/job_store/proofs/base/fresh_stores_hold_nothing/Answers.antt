use Rattle.job_store.proofs.Opened.{fresh_stores_hold_nothing}
use Rattle.job_store.proofs.base.fresh_stores_hold_nothing.Goals as goal

pub returns : goal.returns
returns c = fresh_stores_hold_nothing
