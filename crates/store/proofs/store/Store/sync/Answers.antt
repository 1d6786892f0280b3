use Rattle.store.proofs.Ticks.{seen_same}
use Rattle.store.proofs.store.Store.sync.Goals as goal

pub returns-clause-same : goal.returns-clause-same
returns-clause-same g c = seen_same c.args.pass.now c.sync.new.pass c.sync.ensures.receipts c.sync.ensures.seen
