use Rattle.std.proofs.Common.{◌≡◌, drop}
use Rattle.slots.specs.Finding.{marked}
use Rattle.slots.proofs.finding.mark.Given as goal

-- the slots that are left lead to the same marks
abbrev pub invariant-loop-slot : goal.invariant-loop-slot
invariant-loop-slot l = marked l.first l.marks (drop l.slot-index l.slots) ≡ marked l.first l.initial.marks l.slots
