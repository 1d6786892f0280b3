-- What contracts see of the index of a graph: where its vertices and edges are.
use Rattle.std.specs.Prelude.{◌≡◌, ◌==◌, ℕ, Bool, true, false, ◌&&◌, ◌||◌, not, List, map, length, Option, Some, option_map, refl}
use Rattle.std.specs.declared.cmp.Ordering.{Ordering}
use Rattle.std.specs.Coded.{Coded, code_by, coded×, coded_ℕ}
use Rattle.std.specs.Ordering.{nat_cmp, eq_by_cmp}
use Rattle.std.specs.List.{filter}
use Rattle.std.specs.BTreeSet.{contains}
use Rattle.std.specs.FinMap as finite
use Rattle.mont_base.specs.State.{Ends, Graph, edge_cmp, touches}
use Rattle.mont_laws.specs.Structures.{Part, AtVertex, AtEdge}
use Rattle.pgraph.specs.declared.node.Node.{Node}
use Rattle.pgraph.specs.declared.node.Name.{Name}
use Rattle.pgraph.specs.declared.node.Name.TheVariants.{Vertex, Edge}
use Rattle.pgraph.specs.declared.node.VertexNode.{VertexNode}
use Rattle.pgraph.specs.Shelf.{value_of}

-- ---- each vertex and each edge by its name
pub record Nodes : Type 0 where
  pub vertices : finite.FinMap nat_cmp Node
  pub edges : finite.FinMap edge_cmp Node

-- a node is stored as its numbers, and nodes as the pair of both maps
abbrev node_code : Coded Node
node_code =
    code_by (ℕ × (ℕ × ℕ)) (coded× coded_ℕ (coded× coded_ℕ coded_ℕ))
    (λ n. (n.attribute, (n.identity, n.slot)))
    (λ p. record { attribute = p.0; identity = p.1.0; slot = p.1.1 }) (λ _. refl)

abbrev vertices_code : Coded (finite.FinMap nat_cmp Node)
vertices_code = finite.code coded_ℕ node_code

abbrev edges_code : Coded (finite.FinMap edge_cmp Node)
edges_code = finite.code (coded× coded_ℕ coded_ℕ) node_code

abbrev pub nodes_code : Coded Nodes
nodes_code =
    code_by (finite.FinMap nat_cmp Node × finite.FinMap edge_cmp Node)
    (coded× vertices_code edges_code) (λ n. (n.vertices, n.edges))
    (λ p. record { vertices = p.0; edges = p.1 }) (λ _. refl)

abbrev pub no_nodes : Nodes
no_nodes = record { vertices = finite.empty; edges = finite.empty }

abbrev pub node_of : Nodes → Part → Option Node
node_of nodes (AtVertex vertex) = finite.get nodes.vertices vertex
node_of nodes (AtEdge ends) = finite.get nodes.edges ends

-- the edges from or to a vertex, by rising ends
abbrev pub nodes_at : Nodes → ℕ → List (Ends × Node)
nodes_at nodes vertex = filter (λ (e : Ends × Node). touches vertex e.0)
    (finite.entries nodes.edges)

abbrev pub edge_name : Ends × Node → Ends
edge_name e = e.0

-- how many they are, where there is such a vertex
abbrev pub degree_of : Nodes → ℕ → Option ℕ
degree_of nodes vertex =
    option_map (λ (n : Node). length (nodes_at nodes vertex)) (finite.get nodes.vertices vertex)

-- an edge may go from one vertex to another
abbrev pub joins : Nodes → Ends → Bool
joins nodes e =
    not (e.0 == e.1)
    && (finite.contains_key nodes.vertices e.0 && finite.contains_key nodes.vertices e.1)

-- what has a name
abbrev pub part_of : Name → Part
part_of (Vertex vertex) = AtVertex vertex
part_of (Edge ends) = AtEdge ends

-- it may come in
abbrev pub can_stand : Nodes → Part → Bool
can_stand nodes (AtVertex vertex) = true
can_stand nodes (AtEdge ends) = joins nodes ends

-- ---- changes
abbrev pub with_vertex : Nodes → ℕ → Node → Nodes
with_vertex nodes vertex node =
    record { vertices = finite.insert nodes.vertices vertex node; edges = nodes.edges }

abbrev pub with_edge : Nodes → Ends → Node → Nodes
with_edge nodes ends node =
    record { vertices = nodes.vertices; edges = finite.insert nodes.edges ends node }

abbrev pub without_edge : Nodes → Ends → Nodes
without_edge nodes ends =
    record { vertices = nodes.vertices; edges = finite.remove nodes.edges ends }

-- a vertex goes with every edge from or to it
abbrev pub without_vertex : Nodes → ℕ → Nodes
without_vertex nodes vertex = record {
  vertices = finite.remove nodes.vertices vertex;
  edges = finite.retain_keys nodes.edges (λ e. not (touches vertex e));
}

abbrev pub with_node : Nodes → Part → Node → Nodes
with_node nodes (AtVertex vertex) node = with_vertex nodes vertex node
with_node nodes (AtEdge ends) node = with_edge nodes ends node

abbrev pub without : Nodes → Part → Nodes
without nodes (AtVertex vertex) = without_vertex nodes vertex
without nodes (AtEdge ends) = without_edge nodes ends

-- all but edges from or to a vertex is as it was
pub record KeepsOthers (vertex : ℕ) (old new : Nodes) : Type 0 where
  pub vertices : new.vertices ≡ old.vertices
  pub edges : (e : Ends) → touches vertex e ≡ false
      → finite.get new.edges e ≡ finite.get old.edges e

-- ---- the graph of the attributes
abbrev pub attributes :
    {K : Type 0} {R : K → K → Ordering} → finite.FinMap R Node → finite.FinMap R ℕ
attributes {K} nodes =
    finite.from_entries (map (λ (e : K × Node). (e.0, e.1.attribute)) (finite.entries nodes))

abbrev pub graph_in : Nodes → Graph
graph_in nodes =
    record { vertices = attributes nodes.vertices; edges = attributes nodes.edges }

-- ---- how they are found
-- the nodes that vertices and edges have
abbrev pub nodes_in : List (ℕ × VertexNode) → List (Ends × Node) → Nodes
nodes_in vertices edges = record {
  vertices = finite.from_entries (map (λ (e : ℕ × VertexNode). (e.0, e.1.node)) vertices);
  edges = finite.from_entries edges;
}

-- the node of a vertex
abbrev pub node_in : List (ℕ × VertexNode) → ℕ → Option Node
node_in vertices vertex =
    option_map (λ (n : VertexNode). n.node) (value_of nat_cmp vertices vertex)

-- whether an edge stands after a vertex, where there is such a vertex
abbrev pub stands_behind : List (ℕ × VertexNode) → ℕ → Ends → Option Bool
stands_behind vertices vertex e =
    option_map (λ (n : VertexNode). contains edge_cmp n.ends e) (value_of nat_cmp vertices vertex)

abbrev pub same_ends : Ends → Ends → Bool
same_ends e f = eq_by_cmp edge_cmp e f

-- this edge after this vertex
abbrev pub at_vertex : ℕ → Ends → ℕ → Ends → Bool
at_vertex vertex e v f = (vertex == v) && same_ends e f

-- this edge after either of its ends
abbrev pub at_ends : Ends → ℕ → Ends → Bool
at_ends e v f = touches v f && same_ends e f

-- vertices keep their nodes, and whether an edge stands after one changes so
pub record Relists (change : ℕ → Ends → Bool → Bool) (old new : List (ℕ × VertexNode))
    : Type 0 where
  pub nodes : (v : ℕ) → node_in new v ≡ node_in old v
  pub behind : (v : ℕ) (f : Ends)
      → stands_behind new v f ≡ option_map (change v f) (stands_behind old v f)

-- an edge is put after vertices, taken from after them, or neither
abbrev pub Lists : (ℕ → Ends → Bool) → List (ℕ × VertexNode) → List (ℕ × VertexNode) → Type 0
Lists places old new = Relists (λ v f b. places v f || b) old new

abbrev pub Unlists : (ℕ → Ends → Bool) → List (ℕ × VertexNode) → List (ℕ × VertexNode) → Type 0
Unlists places old new = Relists (λ v f b. not (places v f) && b) old new

abbrev pub KeepsListed : List (ℕ × VertexNode) → List (ℕ × VertexNode) → Type 0
KeepsListed old new = Relists (λ v f b. b) old new

-- an edge is after no vertex
abbrev pub IsUnlisted : List (ℕ × VertexNode) → Ends → Type 0
IsUnlisted vertices e = (v : ℕ) (b : Bool) → stands_behind vertices v e ≡ Some b → b ≡ false

-- Each edge goes from one vertex to another, and after each vertex stand the edges from or to it.
pub record IsIndex (nodes : Nodes) (behind : ℕ → Ends → Option Bool) : Type 0 where
  pub joined : (e : Ends) → finite.contains_key nodes.edges e ≡ true → joins nodes e ≡ true
  pub listed : (v : ℕ) (e : Ends) (b : Bool) → behind v e ≡ Some b
      → b ≡ (finite.contains_key nodes.edges e && touches v e)
