use Rattle.std.proofs.Common.{◌≡◌, take, false}
use Rattle.std.specs.List.{list_any}
use Rattle.core_steps.specs.Notes.{same_mark}
use Rattle.core_run.proofs.hearing.has_mark.Given as goal

-- none of the marks so far is this one
abbrev pub invariant-loop-other : goal.invariant-loop-other
invariant-loop-other l = list_any (same_mark l.mark) (take l.other-index l.marks) ≡ false
