use Rattle.std.proofs.Common.{ℕ, List, length, refl, sym, ap, ◌∙◌}
use Rattle.std.specs.List.{filter}
use Rattle.std.proofs.lemmas.List.Sums.{length-filter}
use Rattle.mont_base.specs.declared.operation.Reply.TheVariants.{Count}
use Rattle.mont_base.specs.State.{Ends, degree, touches}
use Rattle.plain.proofs.Maps.{edges_total, kept_entries}
use Rattle.plain.proofs.graph_state.GraphState.degree.Goals as goal

pub returns : goal.returns
returns c =
    let at = λ (e : Ends × ℕ). touches c.args.vertex e.0 in
    let edges = c.self.inside.edges.entries in
    let kept =
    kept_entries edges_total edges c.args.self.now.edges (ap (λ g. g.edges) c.self.view_is) edges c.count_at-number.ensures.ordered refl
    in
    ap (λ n. Count n)
    (c.count_at-number.ensures.count ∙ sym (length-filter at edges) ∙ ap (λ (es : List (Ends × ℕ)). length (filter at es)) kept)
    ∙ ap (degree c.args.self.now c.args.vertex) c.if-not-has_vertex.ensures
