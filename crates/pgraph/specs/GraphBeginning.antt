-- What a graph unit that is rebuilt has in memory.
use Rattle.std.specs.Prelude.{ℕ, List, Option, Some, None}
use Rattle.std.specs.List.{filter_map}
use Rattle.std.specs.FinMap as finite
use Rattle.mont_base.specs.declared.record.Object.{Object}
use Rattle.mont_base.specs.State.{Ends}
use Rattle.mont_base.specs.Structure.{vertex_at, edge_at}
use Rattle.pgraph.specs.declared.node.Node.{Node}
use Rattle.pgraph.specs.GraphIndex.{Nodes}

-- where an object is
abbrev pub node_at : Object → ℕ → Node
node_at o attribute = record { attribute = attribute; identity = o.identity; slot = o.slot }

-- what it names, if it names something
abbrev pub named_at : {K : Type 0} → Object → Option (K × ℕ) → Option (K × Node)
named_at o None = None
named_at o (Some e) = Some (e.0, node_at o e.1)

abbrev pub vertex_nodes : List Object → List (ℕ × Node)
vertex_nodes os = filter_map (λ (o : Object). named_at o (vertex_at o)) os

abbrev pub edge_nodes : List Object → List (Ends × Node)
edge_nodes os = filter_map (λ (o : Object). named_at o (edge_at o)) os

-- the vertices that objects hold, and the edges that objects hold
abbrev pub nodes_of : List Object → List Object → Nodes
nodes_of vs es = record {
  vertices = finite.from_entries (vertex_nodes vs);
  edges = finite.from_entries (edge_nodes es);
}
