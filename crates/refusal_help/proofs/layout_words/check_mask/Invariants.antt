use Rattle.refusal_help.specs.LayoutWords.{AreBefore, IsHexDigit}
use Rattle.refusal_help.proofs.layout_words.check_mask.Given as goal

-- the bytes so far are digits
abbrev pub invariant-loop-at : goal.invariant-loop-at
invariant-loop-at l = AreBefore IsHexDigit l.word l.at
