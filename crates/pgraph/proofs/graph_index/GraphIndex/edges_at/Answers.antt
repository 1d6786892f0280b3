use Rattle.std.proofs.Common.{Some, ◌≡◌, ap, sym, subst, ◌∙◌, List}
use Rattle.std.specs.Prelude.{Option}
use Rattle.mont_base.specs.State.{Ends}
use Rattle.pgraph.specs.GraphIndex.{Nodes, nodes_in, nodes_at}
use Rattle.pgraph.specs.EdgesAt.{AreThere, edges_behind}
use Rattle.pgraph.proofs.EdgesInOrder.{all_there, in_order, none_behind}
use Rattle.pgraph.proofs.graph_index.GraphIndex.edges_at.Goals as goal
use Rattle.pgraph.proofs.graph_index.GraphIndex.edges_at.Goals.{in-Some, in-None}

pub new-requires : goal.new-requires
new-requires c = elim c.match-get.branch [
  | in-Some w ↦ subst (λ (o : Option (List Ends)). AreThere c.self.inside.edges o) (sym (w.ends-is ∙ ap Some w.iter.ensures.rest))
      (all_there c.self.inside.vertices c.self.inside.edges c.self.invariant c.args.vertex w.in-Some.there.now w.in-Some.ensures)
  | in-None w ↦ subst (λ (o : Option (List Ends)). AreThere c.self.inside.edges o) (sym w.ends-is) tt
]

pub returns : goal.returns
returns c =
    let vs = c.self.inside.vertices in
    let es = c.self.inside.edges in
    let v = c.args.vertex in
    let behind : edges_behind es c.match-get.ends ≡ nodes_at (nodes_in vs es) v = elim c.match-get.branch [
      | in-Some w ↦ ap (edges_behind es) (w.ends-is ∙ ap Some w.iter.ensures.rest)
          ∙ in_order vs es c.self.invariant v w.in-Some.there.now w.in-Some.ensures w.iter.ensures.ordered
      | in-None w ↦ ap (edges_behind es) w.ends-is ∙ none_behind vs es c.self.invariant v w.in-None.ensures
    ] in
    c.new.ensures ∙ behind ∙ ap (λ (m : Nodes). nodes_at m v) c.self.view_is
