use Rattle.std.proofs.Common.{take}
use Rattle.mont_check.specs.Names.{CountsNames}
use Rattle.mont_check.proofs.named_entries.count_names.Given as goal

abbrev pub invariant-loop-outcome : goal.invariant-loop-outcome
invariant-loop-outcome l = CountsNames l.unit (take l.outcome-index l.outcomes) l.initial.times.items l.times.items
