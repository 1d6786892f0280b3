use Rattle.std.proofs.Common.{◌≡◌, All}
use Rattle.big_job.specs.CallerWords.{first_word, word_after}
use Rattle.bank_job.specs.Shifts.{first_shifts, IsBetweenUnits}
use Rattle.bank_job.proofs.shifts.shifts_of_caller.Given as goal

abbrev pub invariant-loop : goal.invariant-loop
invariant-loop l = record {
  word : l.word ≡ word_after (first_word l.number l.caller) l.counter;
  shifts : l.shifts.items ≡ first_shifts l.number l.caller l.counter;
  units : All IsBetweenUnits l.shifts.items;
}
