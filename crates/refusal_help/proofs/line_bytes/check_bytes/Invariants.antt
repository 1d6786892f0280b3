use Rattle.std.proofs.Common.{length}
use Rattle.refusal_help.specs.LineBytes.{ArePlainTo, NoneLooseTo}
use Rattle.refusal_help.proofs.line_bytes.check_bytes.Given as goal

-- the bytes so far may stand
abbrev pub invariant-loop-at : goal.invariant-loop-at
invariant-loop-at l = ArePlainTo l.line l.at

-- all bytes may stand, and the spaces so far stand between words
abbrev pub invariant-loop-at-2 : goal.invariant-loop-at-2
invariant-loop-at-2 l = ArePlainTo l.line (length l.line) × NoneLooseTo l.line l.at
