use Rattle.std.proofs.Common.{List, take}
use Rattle.mont_base.specs.declared.record.Held.{Held}
use Rattle.mont_check.specs.OpenedNumbers.{IsOpening}
use Rattle.mont_check.specs.Questions.{AreTried}
use Rattle.mont_check.specs.Walk.{facts_of}
use Rattle.mont_check.proofs.questions.left_unmet.Given as goal

abbrev pub invariant-loop-asked : goal.invariant-loop-asked
invariant-loop-asked l =
    (records : List Held) → IsOpening records l.opening
    → AreTried (facts_of l.walk) records (take l.asked-index l.unmet) l.left.items
