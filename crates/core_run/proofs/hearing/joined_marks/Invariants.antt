use Rattle.std.proofs.Common.{◌≡◌, take}
use Rattle.core_steps.specs.Notes.{joined_marks}
use Rattle.core_run.proofs.hearing.joined_marks.Given as goal

-- the marks with those of the others so far
abbrev pub invariant-loop-mark : goal.invariant-loop-mark
invariant-loop-mark l = l.list.items ≡ joined_marks l.marks (take l.mark-index l.others)
