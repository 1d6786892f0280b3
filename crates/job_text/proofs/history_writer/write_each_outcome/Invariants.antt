use Rattle.std.proofs.Common.{◌≡◌, ◌++◌, take}
use Rattle.std.specs.String.{string_bytes}
use Rattle.std.specs.List.{flat_map}
use Rattle.job_text.specs.Lines.{line_of}
use Rattle.job_text.specs.ReportText.{outcome_words}
use Rattle.job_text.proofs.history_writer.write_each_outcome.Given as goal

abbrev pub invariant-loop-outcome : goal.invariant-loop-outcome
invariant-loop-outcome l = string_bytes l.text ≡ string_bytes l.initial.text ++ flat_map (λ o. line_of (outcome_words o))
    (take l.outcome-index l.outcomes)
