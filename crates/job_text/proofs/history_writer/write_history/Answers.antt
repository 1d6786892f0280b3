use Rattle.std.proofs.Common.{sym}
use Rattle.std.proofs.lemmas.Result.{MatchResult-weaker}
use Rattle.job_text.specs.Runs.{spelled}
use Rattle.job_text.proofs.Runs.{spelled_long}
use Rattle.job_text.proofs.EntryLines.{history_written}
use Rattle.job_text.proofs.history_writer.write_history.Goals as goal

pub returns : goal.returns
returns c =
    MatchResult-weaker c.write_entries.result c.write_entries.ensures
    (λ x written.
    history_written c.args.unit (spelled c.args.history.now c.args.runs.now) _ _ _ _
    (sym (spelled_long c.args.history.now c.args.runs.now)) c.in_ok-writeln.ensures.bytes written)
    (λ e t. t)
