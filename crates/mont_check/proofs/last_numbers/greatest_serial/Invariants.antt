use Rattle.std.proofs.Common.{◌≡◌, take}
use Rattle.mont_base.specs.Counting.{greatest_by, serial_of}
use Rattle.mont_check.proofs.last_numbers.greatest_serial.Given as goal

abbrev pub invariant-loop-object : goal.invariant-loop-object
invariant-loop-object l = l.greatest ≡ greatest_by serial_of (take l.object-index l.objects)
