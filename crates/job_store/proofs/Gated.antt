-- A gate that cuts is that of a caller whom the job stops.
use Rattle.std.proofs.Common.{◌≡◌, ℕ, suc, ◌⊎◌, inl, inr, Bool, true, false, List, [], ◌∷◌, refl, ap, ◌∙◌, arith}
use Rattle.std.specs.Prelude.{◌==◌, Some, None, Any, if◌then◌else◌}
use Rattle.mont_base.specs.declared.gate.Fuel.{Fuel}
use Rattle.mont_base.specs.Faults.{Rose}
use Rattle.mont_base.specs.Gates.{is_endless}
use Rattle.core_steps.proofs.Decisions.{eq_true}
use Rattle.heap.specs.GateAsked.{IsAskedOften}
use Rattle.job_text.specs.declared.job.Stop.{Stop}
use Rattle.job_store.specs.JobGates.{gate_of}

abbrev IsStopped : List Stop → ℕ → Type 0
IsStopped stops who = Any (λ (s : Stop). s.who ≡ who) stops

abbrev endless : Fuel
endless = record { left = None; cuts = 0 }

abbrev fuelled : Stop → Fuel
fuelled s = record { left = Some s.steps; cuts = 0 }

by_test : (b : Bool) (s : Stop) (stops : List Stop) (who : ℕ) → (s.who == who) ≡ b → IsStopped stops who ⊎ (gate_of stops who ≡ endless)
    → IsStopped (s ∷ stops) who ⊎ (gate_of (s ∷ stops) who ≡ endless)
by_test true s stops who e rest = inl (0, s, omega arith, refl, eq_true s.who who e)
by_test false s stops who e (inl a) = inl (suc a.0, a.1, omega (arith, a.2), a.3, a.4)
by_test false s stops who e (inr g) = inr (ap (λ (b : Bool). if b then fuelled s else gate_of stops who) e ∙ g)

pub stopped_or_endless : (stops : List Stop) (who : ℕ) → IsStopped stops who ⊎ (gate_of stops who ≡ endless)
stopped_or_endless [] who = inr refl
stopped_or_endless (s ∷ stops) who = by_test (s.who == who) s stops who refl (stopped_or_endless stops who)

never : (before now : ℕ) → before ≡ 0 → now ≡ before → Rose before now → ⊥
never before now begun kept rose = omega (arith, begun, kept, rose)

module _ {P : Type 0} (gate : P → Fuel) (stops : List Stop) (who : ℕ) (old new : P) (cut : Bool) (is : gate old ≡ gate_of stops who)
    (asked : IsAskedOften (λ (p : P). (gate p).cuts) (λ (p : P). is_endless (gate p)) old new cut) where
  by_kind : IsStopped stops who ⊎ (gate_of stops who ≡ endless) → Rose (gate old).cuts (gate new).cuts → IsStopped stops who
  by_kind (inl a) rose = a
  by_kind (inr e) rose =
      let same : gate old ≡ endless = is ∙ e in
      let passed = asked.passes (ap is_endless same) in
      absurd (never (gate old).cuts (gate new).cuts (ap (λ (g : Fuel). g.cuts) same) (asked.kept passed) rose)

  pub cuts_the_stopped : Rose (gate old).cuts (gate new).cuts → IsStopped stops who
  cuts_the_stopped = by_kind (stopped_or_endless stops who)
