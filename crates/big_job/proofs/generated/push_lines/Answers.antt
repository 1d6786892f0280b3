use Rattle.std.proofs.Common.{◌++◌, ap, sym, ◌∙◌, append-nil}
use Rattle.big_job.specs.CallerWords.{first_word, next_word}
use Rattle.big_job.proofs.Whole.{first_none, lines_pushed, word_more}
use Rattle.big_job.proofs.generated.push_lines.Goals as goal

pub loop-line-init : goal.loop-line-init
loop-line-init c = record {
  word = c.new-words.ensures;
  lines = sym (ap (λ ls. c.args.lines.now ++ ls) (first_none c.args.number c.args.caller) ∙ append-nil c.args.lines.now);
}

pub loop-line-preserved : goal.loop-line-preserved
loop-line-preserved c =
    let first = first_word c.args.number c.args.caller in
    let stepped = c.step.ensures ∙ ap next_word c.loop-line.invariant.word ∙ sym (word_more first c.loop-line.line) in
    record {
      word = stepped;
      lines = lines_pushed c.args.number c.args.caller c.loop-line.line c.step.new.self.word c.op_of-op.result c.args.lines.now
          c.loop-line.lines c.push.new.self c.loop-line.invariant.lines stepped c.op_of-op.ensures c.in_ok-push.ensures.ok;
    }
