-- Which gates a job gives its callers and its advancer.
use Rattle.std.specs.Prelude.{◌≡◌, ℕ, ◌==◌, List, [], ◌∷◌, length, Some, None, if◌then◌else◌}
use Rattle.mont_base.specs.declared.gate.Fuel.{Fuel}
use Rattle.mont_base.specs.Gates.{is_endless}
use Rattle.core_steps.specs.Places.{EachAt}
use Rattle.job_text.specs.declared.job.Stop.{Stop}

-- the gate of whoever has this number: it passes the steps of the first stop of that number, and
-- every step where there is none
abbrev pub gate_of : List Stop → ℕ → Fuel
gate_of [] who = record { left = None; cuts = 0 }
gate_of (s ∷ stops) who =
    if s.who == who then record { left = Some s.steps; cuts = 0 } else gate_of stops who

abbrev pub IsGateOf : List Stop → ℕ → Fuel → Type 0
IsGateOf stops who gate = gate ≡ gate_of stops who

-- those of so many callers, by their numbers
pub record AreGates (stops : List Stop) (callers : ℕ) (gates : List Fuel) : Type 0 where
  pub many : length gates ≡ callers
  pub each : EachAt (IsGateOf stops) gates

-- each is endless where the job stops nobody of its number
abbrev pub KeepsEnd : List Stop → ℕ → Fuel → Type 0
KeepsEnd stops who gate = is_endless gate ≡ is_endless (gate_of stops who)
