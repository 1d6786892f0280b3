use Rattle.refusal_help.specs.LayoutWords.{AreBefore, IsLetter}
use Rattle.refusal_help.proofs.layout_words.check_kinds.Given as goal

-- the letters so far are those of kinds
abbrev pub invariant-loop-at : goal.invariant-loop-at
invariant-loop-at l = AreBefore IsLetter l.word l.at
