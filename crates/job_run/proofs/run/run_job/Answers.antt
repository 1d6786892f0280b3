use Rattle.std.specs.Prelude.{map, None}
use Rattle.job_worker.proofs.Waits.{on_err_of}
use Rattle.job_run.proofs.Worked.{none_begun}
use Rattle.job_run.proofs.run.run_job.Goals as goal

pub returns-in_err-done-clause-stands : goal.returns-in_err-done-clause-stands
returns-in_err-done-clause-stands g c =
    let ps = c.args.passes.now.items in
    on_err_of c.from_residual.result (
      map (λ _. None) ps,
      none_begun (g.S.Asks.opening c.args.store.now) (g.S.Asks.has c.args.store.now) g.S.Asks.known
          g.S.Asks.cuts g.S.Asks.endless c.args.job.now ps c.done_by.new.passes.items c.in_err-done.ensures.untouched
          c.requires.passes,
    )
