use Rattle.std.proofs.Common.{◌≡◌, ◌+◌, ◌++◌, length, take}
use Rattle.std.specs.Iterator.Adapters.{take_source, take_count}
use Rattle.mont_base.specs.State.{range_of}
use Rattle.plain.proofs.map_state.MapState.range.Given as goal

-- the pairs so far, and those that are taken after them
abbrev pub invariant-loop-key : goal.invariant-loop-key
invariant-loop-key l = record {
  room : length l.pairs + take_count l.key-iterator ≡ l.most;
  first : l.pairs ++ take (take_count l.key-iterator) (take_source l.key-iterator) ≡ range_of l.self l.from l.to l.most;
}
