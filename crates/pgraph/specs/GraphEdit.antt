-- What an operation does to a graph, and the changes that make its effects.
use Rattle.std.specs.Prelude.{◌≡◌, ℕ, true, not, List, [], ◌∷◌, ◌++◌, map, Option, None, Some, is_some}
use Rattle.std.specs.FinMap as finite
use Rattle.mont_base.specs.declared.effect.Effect.{Effect}
use Rattle.mont_base.specs.declared.effect.Effect.TheVariants.{Removes}
use Rattle.mont_base.specs.declared.effect.Thing.{Thing}
use Rattle.mont_base.specs.declared.effect.Thing.TheVariants as things
use Rattle.mont_base.specs.declared.record.Change.{Change}
use Rattle.mont_base.specs.declared.record.Change.TheVariants as changes
use Rattle.mont_base.specs.declared.record.Held.{Held}
use Rattle.mont_base.specs.Bodies.{vertex_body, edge_body}
use Rattle.mont_base.specs.State.{Ends, Graph, touches, set_effects, edge_thing}
use Rattle.mont_laws.specs.Structures.{Part, AtVertex, AtEdge}
use Rattle.pgraph.specs.declared.graph_edit.GraphEdit.{GraphEdit}
use Rattle.pgraph.specs.declared.graph_edit.GraphEdit.TheVariants.{Keep, Set, Remove}
use Rattle.pgraph.specs.declared.node.Node.{Node}
use Rattle.pgraph.specs.GraphIndex.{Nodes, node_of, part_of, can_stand, nodes_at, with_node, without}

-- ---- what is changed is there, and what comes in may
abbrev pub Fits : Nodes → GraphEdit → Type 0
Fits nodes Keep = Unit {0}
Fits nodes (Set name attribute was) =
    (was ≡ node_of nodes (part_of name)) × (can_stand nodes (part_of name) ≡ true)
Fits nodes (Remove name node) = node_of nodes (part_of name) ≡ Some node

-- the edges that go with what is removed
abbrev pub nodes_with : Nodes → Part → List (Ends × Node)
nodes_with nodes (AtVertex vertex) = nodes_at nodes vertex
nodes_with nodes (AtEdge ends) = []

-- ---- effects
abbrev pub thing_of : Part → ℕ → Thing
thing_of (AtVertex vertex) attribute = things.Vertex vertex attribute
thing_of (AtEdge ends) attribute = edge_thing (ends, attribute)

abbrev pub edge_effect : Ends × Node → Effect
edge_effect e = Removes (edge_thing (e.0, e.1.attribute))

abbrev pub effects_of : Nodes → GraphEdit → List Effect
effects_of nodes Keep = []
effects_of nodes (Set name attribute was) =
    set_effects (is_some was) (thing_of (part_of name) attribute)
effects_of nodes (Remove name node) =
    map edge_effect (nodes_with nodes (part_of name))
    ++ Removes (thing_of (part_of name) node.attribute) ∷ []

-- ---- changes
abbrev pub body_of : Part → ℕ → List ℕ
body_of (AtVertex vertex) attribute = vertex_body vertex attribute
body_of (AtEdge ends) attribute = edge_body ends attribute

abbrev pub setting : Part → ℕ → Option Node → Change
setting part attribute None = changes.Insert (body_of part attribute)
setting part attribute (Some node) =
    changes.Replace node.slot node.identity (body_of part attribute)

abbrev pub removal : Node → Change
removal node = changes.Remove node.slot node.identity

abbrev pub edge_removal : Ends × Node → Change
edge_removal e = removal e.1

abbrev pub changes_of : Nodes → GraphEdit → List Change
changes_of nodes Keep = []
changes_of nodes (Set name attribute was) = setting (part_of name) attribute was ∷ []
changes_of nodes (Remove name node) =
    map edge_removal (nodes_with nodes (part_of name)) ++ removal node ∷ []

-- ---- the index before and after the changes
-- what comes in has a node before its record is written
abbrev pub unwritten : ℕ → Node
unwritten attribute = record { attribute = attribute; identity = 0; slot = 0 }

abbrev pub prepared : Nodes → GraphEdit → Nodes
prepared nodes (Set name attribute None) = with_node nodes (part_of name) (unwritten attribute)
prepared nodes _ = nodes

-- where a written record is
abbrev pub node_by : ℕ → Held → Node
node_by attribute w =
    record { attribute = attribute; identity = w.label.identity; slot = w.slot }

abbrev pub nodes_behind : Nodes → GraphEdit → Option Held → Nodes
nodes_behind nodes (Set name attribute was) (Some w) =
    with_node nodes (part_of name) (node_by attribute w)
nodes_behind nodes (Remove name node) last = without nodes (part_of name)
nodes_behind nodes _ _ = nodes

-- ---- the graph after it
abbrev pub with_part : Graph → Part → ℕ → Graph
with_part g (AtVertex vertex) attribute =
    record { vertices = finite.insert g.vertices vertex attribute; edges = g.edges }
with_part g (AtEdge ends) attribute =
    record { vertices = g.vertices; edges = finite.insert g.edges ends attribute }

abbrev pub without_part : Graph → Part → Graph
without_part g (AtVertex vertex) = record {
  vertices = finite.remove g.vertices vertex;
  edges = finite.retain_keys g.edges (λ e. not (touches vertex e));
}
without_part g (AtEdge ends) =
    record { vertices = g.vertices; edges = finite.remove g.edges ends }

abbrev pub graph_behind : Graph → GraphEdit → Graph
graph_behind g Keep = g
graph_behind g (Set name attribute was) = with_part g (part_of name) attribute
graph_behind g (Remove name node) = without_part g (part_of name)
