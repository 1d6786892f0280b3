-- The words of a caller: one linear congruence modulo 2^64, which begins at another word for each
-- number of the job and each caller.
use Rattle.std.specs.Prelude.{ℕ, zero, suc, ◌+◌, ◌*◌, ◌%◌, ◌^◌}

abbrev pub first_word : ℕ → ℕ → ℕ
first_word number caller = (4 * number + caller) % 2 ^ 64

abbrev pub next_word : ℕ → ℕ
next_word word = (word * 6364136223846793005 + 1442695040888963407) % 2 ^ 64

-- the word after so many steps
abbrev pub word_after : ℕ → ℕ → ℕ
word_after first zero = first
word_after first (suc steps) = next_word (word_after first steps)
