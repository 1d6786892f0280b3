use Rattle.std.proofs.Common.{arith}
use Rattle.job_text.proofs.EntryLines.{entry_step, entries_done}
use Rattle.job_text.proofs.run_writer.write_entries.Goals as goal

pub loop-place-preserved : goal.loop-place-preserved
loop-place-preserved c =
    entry_step _ c.args.history.now c.loop-place.left.now _ c.loop-place.place _ _ _ _ (omega arith) c.index-history-place.is
    c.next_run.ensures.run c.next_run.ensures.left c.loop-place.invariant c.in_ok-write_entry.ensures

pub returns : goal.returns
returns c = entries_done _ _ c.args.history.now c.args.runs.now c.loop-place.left.now c.loop-place.place (omega arith)
    c.loop-place.invariant
