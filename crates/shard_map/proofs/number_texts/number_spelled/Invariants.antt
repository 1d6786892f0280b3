use Rattle.std.proofs.Common.{◌≡◌, ◌%◌, ◌^◌, take}
use Rattle.shard_map.specs.NumberTexts.{number_spelled}
use Rattle.shard_map.proofs.number_texts.number_spelled.Given as goal

abbrev pub invariant-loop-at : goal.invariant-loop-at
invariant-loop-at l = l.number ≡ number_spelled (take l.at l.text) % 2 ^ 64
