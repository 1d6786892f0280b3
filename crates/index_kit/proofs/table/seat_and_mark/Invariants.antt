use Rattle.std.proofs.Common.{◌-◌}
use Rattle.index_kit.specs.Table.{seats_of, distance}
use Rattle.index_kit.proofs.Walk.{IsWalked}
use Rattle.index_kit.proofs.table.seat_and_mark.Given as goal

abbrev pub invariant-loop-key : goal.invariant-loop-key
invariant-loop-key l = IsWalked (seats_of l.entries l.cells) l.key l.at

abbrev pub decreases-loop-key : goal.decreases-loop-key
decreases-loop-key l = l.size - distance l.size l.key l.at
