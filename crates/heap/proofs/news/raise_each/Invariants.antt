use Rattle.std.proofs.Common.{◌≡◌, ◌++◌, length, take, drop}
use Rattle.core_steps.specs.Notes.{greater_fronts}
use Rattle.heap.proofs.news.raise_each.Given as goal

abbrev pub invariant-loop-place : goal.invariant-loop-place
invariant-loop-place l = record {
  as_long : length l.numbers ≡ length l.others;
  raised : l.numbers ≡ take l.place (greater_fronts l.initial.numbers l.others) ++ drop l.place l.initial.numbers;
}
