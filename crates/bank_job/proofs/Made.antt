-- The shifts of a caller as the program makes them, one after the other.
use Rattle.std.proofs.Common.{◌≡◌, ℕ, ◌+◌, [], ◌∷◌, ◌++◌, refl, sym, ap, ◌∙◌, add-one, arith}
use Rattle.std.proofs.lemmas.List.FromFn.{map-range_with_len_more}
use Rattle.big_job.specs.CallerWords.{first_word, next_word, word_after}
use Rattle.bank_job.specs.Bank.{first_puts, opening_put}
use Rattle.bank_job.specs.Shifts.{shift_of, shift_of_caller, first_shifts}

pub first_none : (number caller : ℕ) → first_shifts number caller 0 ≡ []
unfolding first_shifts
first_none number caller = refl

pub word_more : (first steps : ℕ) → word_after first (steps + 1) ≡ next_word (word_after first steps)
word_more first steps = rw add-one refl

pub first_more : (number caller place word : ℕ) → word ≡ word_after (first_word number caller) (place + 1)
    → first_shifts number caller (place + 1) ≡ first_shifts number caller place ++ shift_of word ∷ []
unfolding first_shifts shift_of_caller
first_more number caller place word is =
    map-range_with_len_more (shift_of_caller number caller) 0 place place (omega arith)
    ∙ ap (λ (w : ℕ). first_shifts number caller place ++ shift_of w ∷ []) (sym is)

-- ---- the opening
pub puts_none : first_puts 0 ≡ []
unfolding first_puts
puts_none = refl

pub puts_more : (number : ℕ) → first_puts (number + 1) ≡ first_puts number ++ opening_put number ∷ []
unfolding first_puts
puts_more number = map-range_with_len_more opening_put 0 number number (omega arith)
