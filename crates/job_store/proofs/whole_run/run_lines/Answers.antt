use Rattle.store.specs.Store.{IsFirstPass, IsWholePass}
use Rattle.store_stop.proofs.Items.{all_gives}
use Rattle.job_store.proofs.Ended.{all_keep_end, all_ran}
use Rattle.job_store.proofs.whole_run.run_lines.Goals as goal

pub returns-clause-ran : goal.returns-clause-ran
returns-clause-ran g c =
    let heap = g.N.HeapName.heap in
    all_ran c.args.job.now heap (λ p. IsWholePass heap p.ticket p.receipts.items) (λ p. p.ticket) (λ p. p.gate)
    c.args.passes.now.items c.run.new.passes.items c.requires.callers
    (λ k p e. (all_gives (IsFirstPass heap) c.args.passes.now.items k p c.requires.first e).uncut) c.requires.gates
    c.run.result c.run.ensures.worked

pub returns-clause-gates : goal.returns-clause-gates
returns-clause-gates g c =
    let heap = g.N.HeapName.heap in
    all_keep_end c.args.job.now heap (λ p. IsWholePass heap p.ticket p.receipts.items) (λ p. p.ticket) (λ p. p.gate)
    c.args.passes.now.items c.run.new.passes.items c.requires.callers
    (λ k p e. (all_gives (IsFirstPass heap) c.args.passes.now.items k p c.requires.first e).uncut) c.requires.gates
    c.run.result c.run.ensures.worked
