use Rattle.job_text.proofs.EntryLines.{entry_line, front_joined}
use Rattle.job_text.proofs.run_writer.write_entry.Goals as goal

pub returns : goal.returns
returns c =
    let e = c.args.entry.now in
    entry_line c.args.place e c.args.run.now _ _ _ _
    (front_joined c.args.place e _ _ _ _ c.entry_head-head.ensures c.in_ok-push_str.ensures.bytes c.in_ok-write.ensures.bytes)
    c.in_ok-write_run.ensures c.in_ok-push_str-2.ensures.bytes
