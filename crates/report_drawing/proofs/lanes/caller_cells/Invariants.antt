use Rattle.std.proofs.Common.{◌≡◌, ℕ, ◌+◌, take, map}
use Rattle.std.specs.List.{enumerate_from}
use Rattle.job_text.specs.declared.outcome.Outcome.{Outcome}
use Rattle.report_drawing.specs.Lanes.{shown_of, outcome_shown, reached}
use Rattle.report_drawing.proofs.lanes.caller_cells.Given as goal

-- the epoch that is reached, and the cells so far
abbrev pub invariant-loop-outcome : goal.invariant-loop-outcome
invariant-loop-outcome l =
    (l.reached ≡ reached l.report.base_clock l.report.histories (take l.outcome-index l.outcomes))
    × (map shown_of l.cells.items ≡ map (λ (p : ℕ × Outcome).
    outcome_shown l.report.image_clock (reached l.report.base_clock l.report.histories (take (p.0 + 1) l.outcomes)) p.1)
    (take l.outcome-index (enumerate_from 0 l.outcomes)))
