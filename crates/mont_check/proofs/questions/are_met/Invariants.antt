use Rattle.std.proofs.Common.{◌≡◌, ℕ, ◌<◌}
use Rattle.std.specs.Prelude.{All}
use Rattle.job_text.specs.PlainReport.{report_of}
use Rattle.mont_check.specs.declared.moments.Question.{Question}
use Rattle.mont_check.specs.Moments.{IsMet}
use Rattle.mont_check.proofs.questions.are_met.Given as goal

abbrev pub invariant-loop-unit : goal.invariant-loop-unit
invariant-loop-unit l =
    (u : ℕ) → u < l.unit → All (λ (q : Question). q.unit ≡ u → IsMet (report_of l.report) l.records q) l.questions
