use Rattle.std.proofs.Common.{◌≡◌, List, false, length, map, replicate, take}
use Rattle.mont_base.specs.declared.operation.Entry.{Entry}
use Rattle.report_check.proofs.marks.no_marks.Given as goal

abbrev pub invariant-loop-history : goal.invariant-loop-history
invariant-loop-history l =
    l.marks ≡ map (λ (h : List Entry). replicate (length h) false) (take l.history-index l.rows)
