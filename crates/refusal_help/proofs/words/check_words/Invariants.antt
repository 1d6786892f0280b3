use Rattle.std.proofs.Common.{◌≤◌, length, map}
use Rattle.refusal_help.specs.Lines.{AreWordsTo}
use Rattle.refusal_help.proofs.words.check_words.Given as goal

-- the words so far are what is wanted
abbrev pub invariant-loop-at : goal.invariant-loop-at
invariant-loop-at l =
    AreWordsTo l.given l.wants (map (λ word. word.now) l.words) l.at × (l.at ≤ length l.words)
