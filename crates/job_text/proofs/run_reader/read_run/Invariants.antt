use Rattle.std.proofs.Common.{◌≡◌, ◌≤◌, ◌++◌, length, map}
use Rattle.mont_base.specs.declared.constants.TheConstants.{MOST_PAIRS}
use Rattle.job_text.specs.Spelling.{run_words}
use Rattle.job_text.specs.ReportRanges.{IsPair}
use Rattle.job_text.specs.TextParts.{AllFrom}
use Rattle.job_text.proofs.run_reader.read_run.Given as goal

-- the pairs so far, and the words that are left
abbrev pub invariant-loop-rest : goal.invariant-loop-rest
invariant-loop-rest l =
    AllFrom (λ place p. IsPair p) 0 l.run × (length l.run ≤ MOST_PAIRS)
    × (map (λ word. word.now) l.fn.words ≡ run_words l.run ++ map (λ word. word.now) l.rest)

abbrev pub decreases-loop-rest : goal.decreases-loop-rest
decreases-loop-rest l = length l.rest
