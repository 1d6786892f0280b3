use Rattle.std.proofs.Common.{◌≡◌, ◌++◌, ℕ, List, map}
use Rattle.std.specs.List.{filter}
use Rattle.std.specs.FinMap.{entries}
use Rattle.mont_base.specs.declared.effect.Effect.{Effect}
use Rattle.mont_base.specs.declared.effect.Effect.TheVariants.{Removes}
use Rattle.mont_base.specs.State.{Ends, edge_thing, touches}
use Rattle.plain.proofs.unit_effects.vertex_removal.Given as goal

abbrev pub removals : ℕ → List (Ends × ℕ) → List Effect
removals vertex edges = map (λ e. Removes (edge_thing e)) (filter (λ (e : Ends × ℕ). touches vertex e.0) edges)

-- the effects so far, and those on the edges that are left
abbrev pub invariant-loop-ends : goal.invariant-loop-ends
invariant-loop-ends l = l.effects.items ++ removals l.vertex l.ends-iterator ≡ removals l.vertex (entries l.state.edges)
