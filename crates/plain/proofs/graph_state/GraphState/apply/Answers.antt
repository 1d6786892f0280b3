use Rattle.std.proofs.Common.{◌≡◌, Some, None, Option, ℕ, refl, ap, ◌∙◌, sym}
use Rattle.std.specs.FinMap as map
use Rattle.mont_base.specs.State.{Graph, Ends, GraphOf, del_edge, graph_step}
use Rattle.plain.proofs.Maps.{edges_total, edges_differ, remove-absent}
use Rattle.plain.proofs.graph_state.GraphState.apply.Goals as goal

deleted : (g : Graph) (ends : Ends) (o : Option ℕ) → map.get g.edges ends ≡ o
    → GraphOf (record g { edges = map.remove g.edges ends }) ≡ (del_edge g ends o).state
deleted g ends None e = ap (λ m. GraphOf (record g { edges = m })) (remove-absent edges_total edges_differ g.edges ends e)
deleted g ends (Some attribute) e = refl

pub returns-in-DelE-clause-state : goal.returns-in-DelE-clause-state
returns-in-DelE-clause-state c =
    ap (λ g. GraphOf g) c.remove_edge.ensures.after
    ∙ deleted c.args.self.now (c.in-DelE.from, c.in-DelE.to) _ refl
    ∙ ap (λ op. (graph_step c.args.self.now op).state) (sym c.in-DelE.is)
