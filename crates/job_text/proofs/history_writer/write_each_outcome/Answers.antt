use Rattle.std.proofs.Common.{arith}
use Rattle.job_text.specs.Lines.{line_of}
use Rattle.job_text.specs.ReportText.{outcome_words}
use Rattle.job_text.proofs.Written.{written_more, lines_written}
use Rattle.job_text.proofs.history_writer.write_each_outcome.Goals as goal

pub loop-outcome-preserved : goal.loop-outcome-preserved
loop-outcome-preserved c = written_more (λ o. line_of (outcome_words o)) c.args.outcomes.now c.loop-outcome.outcome-index _ _ _ _
    (omega arith) c.loop-outcome.invariant c.in_ok-write_outcome.ensures

pub returns : goal.returns
returns c = lines_written outcome_words c.args.outcomes.now c.loop-outcome.outcome-index _ _ (omega arith) c.loop-outcome.invariant
