-- The shifts of the generated bank: from which account, to which, and how much. Each is made of a
-- word of its caller, whose words are those of the generated job.
use Rattle.std.specs.Prelude.{◌≢◌, ℕ, ◌+◌, ◌/◌, ◌%◌, ◌^◌, List, map}
use Rattle.std.specs.List.{range_with_len}
use Rattle.mont_base.specs.Layout.{unit_of_key}
use Rattle.big_job.specs.CallerWords.{first_word, word_after}
use Rattle.bank_job.specs.declared.shifts.Shift.{Shift}
use Rattle.bank_job.specs.Bank.{account, bank_layout}

abbrev pub from_of : ℕ → ℕ
from_of word = word / 2 ^ 33 % 8

-- an account that is one to three after, the first being after the last
abbrev pub to_of : ℕ → ℕ
to_of word = (from_of word + 1 + word / 2 ^ 40 % 3) % 8

abbrev pub shift_of : ℕ → Shift
shift_of word = record {
  from = account (from_of word);
  to = account (to_of word);
  amount = word / 2 ^ 48 % 100;
}

-- a caller's shift is made of the word that comes one step further than that of the shift before
unfoldable pub shift_of_caller : ℕ → ℕ → ℕ → Shift
shift_of_caller number caller place =
    shift_of (word_after (first_word number caller) (place + 1))

-- its first shifts, of 500
unfoldable pub first_shifts : ℕ → ℕ → ℕ → List Shift
first_shifts number caller count = map (shift_of_caller number caller) (range_with_len 0 count)

-- a shift goes from one map unit to another
abbrev pub IsBetweenUnits : Shift → Type 0
IsBetweenUnits shift = unit_of_key bank_layout shift.from ≢ unit_of_key bank_layout shift.to
