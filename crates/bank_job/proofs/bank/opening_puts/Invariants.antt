use Rattle.std.proofs.Common.{◌≡◌}
use Rattle.bank_job.specs.Bank.{first_puts}
use Rattle.bank_job.proofs.bank.opening_puts.Given as goal

abbrev pub invariant-loop-account : goal.invariant-loop-account
invariant-loop-account l = l.puts.items ≡ first_puts l.account
