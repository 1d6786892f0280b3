use Rattle.std.proofs.Common.{take}
use Rattle.std.specs.Prelude.{All}
use Rattle.core_steps.specs.Notes.{cuts_of, IsTrueMark}
use Rattle.core_run.proofs.hearing.are_true_marks.Given as goal

-- the marks so far are true
abbrev pub invariant-loop-mark : goal.invariant-loop-mark
invariant-loop-mark l = All (IsTrueMark (cuts_of l.units)) (take l.mark-index l.marks)
