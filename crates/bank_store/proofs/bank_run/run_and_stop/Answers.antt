use Rattle.bank_store.proofs.BankResult.{all_ended}
use Rattle.bank_store.proofs.bank_run.run_and_stop.Goals as goal

pub returns : goal.returns
returns g c =
    all_ended g.N.HeapName.heap c.args.number _ c.in_ok-passes.ensures.callers c.in_ok-passes.ensures.shifted c.stop.result c.stop.ensures.base c.stop.ensures.stopped
