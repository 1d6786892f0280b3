use Rattle.std.proofs.Common.{take}
use Rattle.std.specs.BTreeMap.{values}
use Rattle.mont_laws.specs.Effects.{AreEffects}
use Rattle.replay.proofs.effects_written.are_effects.Given as goal

-- the records so far are the effects so far
abbrev pub invariant-loop-at : goal.invariant-loop-at
invariant-loop-at l = AreEffects l.unit (values l.newest.records) (take l.at l.effects) (take l.at l.written)
