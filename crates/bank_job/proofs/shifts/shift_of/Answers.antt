use Rattle.std.proofs.Common.{◌/◌, ◌%◌, ◌^◌, arith}
use Rattle.bank_job.specs.Shifts.{from_of}
use Rattle.bank_job.proofs.Accounts.{units_differ}
use Rattle.bank_job.proofs.shifts.shift_of.Goals as goal

pub returns-clause-units : goal.returns-clause-units
returns-clause-units c = rw (c.of_number.ensures, c.of_number-2.ensures)
    (units_differ (from_of c.args.word) (c.args.word / 2 ^ 40 % 3) (omega arith) (omega arith))
