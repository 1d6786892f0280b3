use Rattle.std.proofs.Common.{◌≡◌, ◌-◌, length}
use Rattle.index_kit.specs.Ring.{steps}
use Rattle.index_kit.specs.Table.{IsMarked, seats_of, numbers_in}
use Rattle.index_kit.proofs.Close.{IsClosing}
use Rattle.index_kit.proofs.table.close.Given as goal

abbrev pub invariant-loop-number : goal.invariant-loop-number
invariant-loop-number l = record {
  marked : IsMarked l.entries l.cells;
  walk : IsClosing l.size (seats_of l.entries l.cells) l.start l.hole l.at;
  same : numbers_in (seats_of l.entries l.cells) ≡ numbers_in (seats_of l.entries l.initial.cells);
  len : length l.cells ≡ length l.initial.cells;
}

abbrev pub decreases-loop-number : goal.decreases-loop-number
decreases-loop-number l = l.size - steps l.size l.start l.at
