use Rattle.std.proofs.Common.{◌≡◌, take, get_or}
use Rattle.plain.specs.States.{state_of}
use Rattle.mont_check.specs.Points.{ArePoints}
use Rattle.mont_check.specs.Walk.{facts_after, facts_of}
use Rattle.mont_check.proofs.points.points_of.Given as goal

-- the points until here, of which this is the last
abbrev pub invariant-loop-entry : goal.invariant-loop-entry
invariant-loop-entry l = record {
  walked : facts_of l.walk ≡ facts_after 0 (state_of l.base) (take l.entry-index l.history);
  are : ArePoints (state_of l.base) (take l.entry-index l.history) l.points.items;
  last : get_or l.points.items l.entry-index l.last ≡ l.last;
}
