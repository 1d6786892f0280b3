use Rattle.std.proofs.Common.{arith, rules}
use Rattle.std.proofs.Output.{has_written_append}
use Rattle.job_text.proofs.TextWords.{bytes_more, counts_some, text_bytes}
use Rattle.job_text.proofs.text_word.TextWordDisplay.fmt.Goals as goal

pub loop-at-preserved : goal.loop-at-preserved
loop-at-preserved g c =
    λ plain.
    let text = c.args.self.now.0 in
    let at = c.loop-at.at in
    rw (bytes_more text at (omega arith)) (has_written_append _ _ _ _ _ _ (c.loop-at.invariant plain) (search rules))

pub returns-clause-writes : goal.returns-clause-writes
returns-clause-writes g c =
    λ plain _.
    let text = c.args.self.now.0 in
    rw (← text_bytes text c.loop-at.at (counts_some text c.if-is_empty.ensures) (omega arith)) (c.loop-at.invariant plain)
