use Rattle.std.proofs.Common.{◌∙◌, arith}
use Rattle.std.specs.List.{enumerate_from}
use Rattle.job_text.specs.Lines.{text_of}
use Rattle.job_text.specs.ReportText.{caller_lines}
use Rattle.job_text.proofs.Written.{numbered_item, parts_written, numbered_past}
use Rattle.job_text.proofs.history_writer.write_outcomes.Goals as goal

pub loop-caller-preserved : goal.loop-caller-preserved
loop-caller-preserved c = numbered_item (λ p. text_of (caller_lines p.0 p.1)) c.args.outcomes.now c.loop-caller.caller _ _ _ _ _
    (omega arith) (c.as_slice.ensures ∙ c.index-outcomes-caller.is) c.loop-caller.invariant c.in_ok-write_caller.ensures

pub returns : goal.returns
returns c = parts_written (λ p. caller_lines p.0 p.1) (enumerate_from 0 c.args.outcomes.now) c.loop-caller.caller _ _
    (numbered_past c.args.outcomes.now _ (omega arith)) c.loop-caller.invariant
