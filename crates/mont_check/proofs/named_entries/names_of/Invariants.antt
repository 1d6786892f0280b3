use Rattle.std.proofs.Common.{take}
use Rattle.mont_check.specs.Names.{TellsNames}
use Rattle.mont_check.proofs.named_entries.names_of.Given as goal

abbrev pub invariant-loop-of_caller : goal.invariant-loop-of_caller
invariant-loop-of_caller l = TellsNames (take l.of_caller-index l.outcomes) l.unit l.places l.times.items
