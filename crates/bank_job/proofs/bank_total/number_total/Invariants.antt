use Rattle.std.proofs.Common.{◌≡◌, take, map}
use Rattle.plain.specs.States.{state_of}
use Rattle.bank_job.specs.BankText.{number_total}
use Rattle.bank_job.proofs.bank_total.number_total.Given as goal

abbrev pub invariant-loop-state : goal.invariant-loop-state
invariant-loop-state l = l.total ≡ number_total (map state_of (take l.state-index l.state-items))
