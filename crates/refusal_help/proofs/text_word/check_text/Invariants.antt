use Rattle.std.proofs.Common.{length}
use Rattle.refusal_help.proofs.TextBytes.{HasTaken}
use Rattle.refusal_help.proofs.text_word.check_text.Given as goal

-- so many bytes are spelled before the rest
abbrev pub invariant-loop-rest : goal.invariant-loop-rest
invariant-loop-rest l = HasTaken l.word l.rest l.bytes

abbrev pub decreases-loop-rest : goal.decreases-loop-rest
decreases-loop-rest l = length l.rest
