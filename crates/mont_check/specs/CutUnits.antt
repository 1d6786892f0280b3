-- Cuts of callers, after which nothing stands.
use Rattle.std.specs.Prelude.{◌≡◌, ℕ, false, List, AllPairs, slice_get, Some}
use Rattle.job_text.specs.declared.outcome.Outcome.{Outcome}
use Rattle.job_text.specs.Outcomes.{is_cut}
use Rattle.job_text.specs.Report.{Report}

-- of a caller's outcomes only the last may be a cut
abbrev pub CutsLast : List Outcome → Type 0
CutsLast os = AllPairs (λ (earlier later : Outcome). is_cut earlier ≡ false) os

-- whichever caller of the report it is
abbrev pub AllCutsLast : Report → Type 0
AllCutsLast r =
    (caller : ℕ) (os : List Outcome) → slice_get r.outcomes caller ≡ Some os → CutsLast os
