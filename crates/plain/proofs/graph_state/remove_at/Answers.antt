use Rattle.std.proofs.Common.{rules}
use Rattle.std.specs.Prelude.{ℕ, not}
use Rattle.std.proofs.lemmas.Map.Made.{filter_same_pairs}
use Rattle.mont_base.specs.State.{Ends, touches}
use Rattle.plain.proofs.graph_state.remove_at.Goals as goal

pub returns : goal.returns
returns c =
    filter_same_pairs _ (λ (e : Ends × ℕ). not (touches c.args.vertex e.0)) _ (λ k v b w f' t. search rules) _ _ c.retain.ensures.filtered
