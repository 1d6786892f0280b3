use Rattle.std.proofs.Common.{◌≡◌, true, ap, sym, subst, ◌∙◌, refl}
use Rattle.std.specs.FinMap as finite
use Rattle.mont_base.specs.State.{Ends}
use Rattle.pgraph.specs.GraphIndex.{Nodes, IsIndex, nodes_in, stands_behind, joins, with_edge}
use Rattle.pgraph.proofs.NodeMaps.{no_edge, edge_inserted, vertices_kept, nodes_same}
use Rattle.pgraph.proofs.IndexKept.{edge_added, none_listed}
use Rattle.pgraph.proofs.Relisted.{both_undone, same_nodes, kept_index, on_refusal}
use Rattle.pgraph.proofs.graph_index.GraphIndex.insert_edge.Goals as goal

pub invariant_of-self : goal.invariant_of-self
invariant_of-self c = kept_index c.self.inside.vertices c.list_edge.new.vertices c.self.inside.edges c.self.inside.edges
    c.in_err-list_edge.ensures.err refl c.self.invariant

pub returns-in_err-list_edge-clause-err : goal.returns-in_err-list_edge-clause-err
returns-in_err-list_edge-clause-err c = on_refusal c.from_residual.result
    (same_nodes (λ v q b. b) c.self.inside.vertices c.list_edge.new.vertices c.self.inside.edges c.self.inside.edges
    c.in_err-list_edge.ensures.err refl
    ∙ c.self.view_is)

pub insert-requires : goal.insert-requires
insert-requires c = no_edge c.self.inside.vertices c.self.inside.edges c.args.self.now c.self.view_is (c.args.from, c.args.to)
    c.requires.absent

pub invariant_of-self-in-Err : goal.invariant_of-self-in-Err
invariant_of-self-in-Err c =
    let vs = c.self.inside.vertices in
    let es = c.self.inside.edges in
    let xs = c.unlist_edge.new.vertices in
    let e : Ends = (c.args.from, c.args.to) in
    let unlisted = none_listed (nodes_in vs es) (stands_behind vs) c.self.invariant e
    (ap (λ (m : Nodes). finite.get m.edges e) c.self.view_is ∙ c.requires.absent) in
    kept_index vs xs es c.insert.new.self
    (both_undone e vs c.list_edge.new.vertices xs unlisted c.in_ok-list_edge.ensures.ok c.unlist_edge.ensures)
    c.in-Err.ensures.err c.self.invariant

pub returns-in-Err-clause-err : goal.returns-in-Err-clause-err
returns-in-Err-clause-err c =
    let vs = c.self.inside.vertices in
    let es = c.self.inside.edges in
    let xs = c.unlist_edge.new.vertices in
    let e : Ends = (c.args.from, c.args.to) in
    let unlisted = none_listed (nodes_in vs es) (stands_behind vs) c.self.invariant e
    (ap (λ (m : Nodes). finite.get m.edges e) c.self.view_is ∙ c.requires.absent) in
    same_nodes (λ v q b. b) vs xs es c.insert.new.self
    (both_undone e vs c.list_edge.new.vertices xs unlisted c.in_ok-list_edge.ensures.ok c.unlist_edge.ensures)
    c.in-Err.ensures.err
    ∙ c.self.view_is

pub invariant_of-self-in_default : goal.invariant_of-self-in_default
invariant_of-self-in_default c =
    let vs = c.self.inside.vertices in
    let es = c.self.inside.edges in
    let ws = c.list_edge.new.vertices in
    let fs = c.insert.new.self in
    let e : Ends = (c.args.from, c.args.to) in
    let n = nodes_in vs es in
    let joined = subst (λ (m : Nodes). joins m e ≡ true) (sym c.self.view_is) c.requires.joins in
    subst (λ (m : Nodes). IsIndex m (stands_behind ws))
    (sym (nodes_same (nodes_in ws fs) (with_edge n e c.args.node) (vertices_kept vs ws es fs c.in_ok-list_edge.ensures.ok.nodes)
    (edge_inserted vs es fs e c.args.node c.in_default.ensures.ok)))
    (edge_added n (stands_behind vs) c.self.invariant e c.args.node (stands_behind ws) joined c.in_ok-list_edge.ensures.ok.behind)

pub returns-clause-ok : goal.returns-clause-ok
returns-clause-ok c =
    let vs = c.self.inside.vertices in
    let es = c.self.inside.edges in
    let ws = c.list_edge.new.vertices in
    let fs = c.insert.new.self in
    let e : Ends = (c.args.from, c.args.to) in
    nodes_same (nodes_in ws fs) (with_edge (nodes_in vs es) e c.args.node)
    (vertices_kept vs ws es fs c.in_ok-list_edge.ensures.ok.nodes) (edge_inserted vs es fs e c.args.node c.in_default.ensures.ok)
    ∙ ap (λ (m : Nodes). with_edge m e c.args.node) c.self.view_is
