use Rattle.std.proofs.Common.{◌≡◌, length, take}
use Rattle.std.specs.FinMap as finite
use Rattle.index_kit.specs.Table.{IsMarked, IsTable, IsNumbering, seats_of, numbers_in}
use Rattle.index_kit.proofs.table.set_all.Given as goal

abbrev pub invariant-loop-number : goal.invariant-loop-number
invariant-loop-number l = record {
  marked : IsMarked l.entries l.cells;
  table : IsTable (seats_of l.entries l.cells);
  numbering : IsNumbering (take l.number l.entries) (numbers_in (seats_of l.entries l.cells));
  counted : finite.len (numbers_in (seats_of l.entries l.cells)) ≡ l.number;
  len : length l.cells ≡ length l.initial.cells;
}
