use Rattle.std.proofs.Common.{map}
use Rattle.job_store.proofs.Ended.{has_ended}
use Rattle.job_store.proofs.whole_run.run_and_stop.Goals as goal

pub returns : goal.returns
returns g c =
    has_ended c.args.job.now g.N.HeapName.heap c.requires.layout (map (λ p. p.ticket) c.run_lines-ran.new.passes.items)
    c.run_lines-ran.result c.stop-stopped.result c.run_lines-ran.ensures.ran
    c.stop-stopped.ensures.base c.stop-stopped.ensures.stopped (λ e. e.outcomes) (λ e. e.stopped) c.ended_with.result
    c.ended_with.ensures
