use Rattle.store_stop.proofs.Outliving.{stopped_stores_outlive_crashes}
use Rattle.store_stop.proofs.headline.stopped_stores_outlive_crashes.Goals as goal

pub returns : goal.returns
returns c = stopped_stores_outlive_crashes
