use Rattle.std.proofs.Common.{◌≡◌, length, map, take, All, decimal}
use Rattle.job_text.specs.Operations.{IsNumber}
use Rattle.job_text.proofs.number_words.numbers.Given as goal

-- the words so far spell the numbers so far
abbrev pub invariant-loop-at : goal.invariant-loop-at
invariant-loop-at g l =
    (length l.numbers ≡ g.row.N) × All IsNumber (take l.at l.numbers)
    × (map (λ word. word.now) (take l.at l.words) ≡ map decimal (take l.at l.numbers))
