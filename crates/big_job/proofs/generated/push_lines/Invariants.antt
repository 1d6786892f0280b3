use Rattle.std.proofs.Common.{◌≡◌, ◌++◌}
use Rattle.big_job.specs.CallerWords.{first_word, word_after}
use Rattle.big_job.specs.Generated.{first_lines}
use Rattle.big_job.proofs.generated.push_lines.Given as goal

abbrev pub invariant-loop-line : goal.invariant-loop-line
invariant-loop-line l = record {
  word : l.words.word ≡ word_after (first_word l.number l.caller) l.line;
  lines : l.lines ≡ l.initial.lines ++ first_lines l.number l.caller l.line;
}
