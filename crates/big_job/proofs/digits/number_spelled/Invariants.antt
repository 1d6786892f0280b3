use Rattle.std.proofs.Common.{◌≡◌, ◌%◌, ◌^◌, take}
use Rattle.big_job.specs.Digits.{number_spelled}
use Rattle.big_job.proofs.digits.number_spelled.Given as goal

abbrev pub invariant-loop-at : goal.invariant-loop-at
invariant-loop-at l = l.number ≡ number_spelled (take l.at l.text) % 2 ^ 64
