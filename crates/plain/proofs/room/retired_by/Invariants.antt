use Rattle.std.proofs.Common.{◌≡◌, ◌+◌, drop}
use Rattle.std.specs.Prelude.{sum_by}
use Rattle.mont_base.specs.Room.{retires}
use Rattle.plain.proofs.room.retired_by.Given as goal

-- what is left to count
abbrev pub invariant-loop-effect : goal.invariant-loop-effect
invariant-loop-effect l = l.retired + sum_by retires (drop l.effect-index l.effect-items) ≡ sum_by retires l.effect-items
