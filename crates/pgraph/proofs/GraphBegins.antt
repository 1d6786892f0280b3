-- A graph unit as it begins holds what is live.
use Rattle.std.proofs.Common.{◌≡◌, ℕ, List, [], ◌∷◌, map, sym, ap, ◌∙◌, subst, inl, inr}
use Rattle.std.specs.Prelude.{Some, None, option_map}
use Rattle.std.specs.Cmp.{nat_cmp_total}
use Rattle.std.specs.Ordering.{nat_cmp}
use Rattle.std.specs.FinMap as finite
use Rattle.std.specs.List.{Contains, filter_map}
use Rattle.std.proofs.Math.Path.{fun_ext}
use Rattle.mont_base.specs.declared.kinds.UnitKind.{UnitKind}
use Rattle.mont_base.specs.declared.kinds.UnitKind.TheVariants as unit_kinds
use Rattle.mont_base.specs.declared.record.Held.{Held}
use Rattle.mont_base.specs.declared.record.Object.{Object}
use Rattle.mont_base.specs.Bodies.{vertex_in, edge_in}
use Rattle.mont_base.specs.Layout.{Shape, kind_of}
use Rattle.mont_base.specs.State.{State, GraphOf, edge_cmp}
use Rattle.mont_base.specs.Structure.{IsStructure, object_fault, structure_of, graph_fault, graph_of, vertex_at, edge_at}
use Rattle.mont_base.specs.Versions.{object_of, live_objects}
use Rattle.mont_laws.specs.Records.{AreApart, live_of}
use Rattle.mont_laws.specs.Shows.{held_in}
use Rattle.mont_laws.specs.Structures.{Part, AtVertex, AtEdge, part_for, attribute_of, HasGraph, HasStructure}
use Rattle.mont_laws.proofs.Agreement.{agrees}
use Rattle.mont_laws.proofs.Bodies.{vertex_fits}
use Rattle.mont_laws.proofs.Graphs.{edge_sure}
use Rattle.mont_laws.proofs.Holders.{held_live}
use Rattle.mont_laws.proofs.Keys.{one_number, one_edge, edges_total}
use Rattle.mont_laws.proofs.LiveObjects.{live_records, live_record}
use Rattle.mont_laws.proofs.Members.{no_element, first_element, later_element, element_cases}
use Rattle.mont_laws.proofs.Parts.{graph_same}
use Rattle.slots.specs.Books.{RegionShown, Agrees}
use Rattle.pgraph.specs.declared.node.Node.{Node}
use Rattle.pgraph.specs.GraphBeginning.{node_at, vertex_nodes, edge_nodes, nodes_of}
use Rattle.pgraph.specs.GraphIndex.{Nodes, node_of, no_nodes, graph_in}
use Rattle.pgraph.specs.LiveNodes.{IsNodeOf, HoldsLive}
use Rattle.pgraph.specs.PGraph.{IsGraphUnit}
use Rattle.pgraph.proofs.Attributes.{part_attribute}
use Rattle.pgraph.proofs.ObjectNodes.{IsNamed, named_attribute, named_found}

-- ---- objects that make a graph
pub record MakesGraph (os : List Object) (state : State) : Type 0 where
  pub sound : graph_fault os ≡ None
  pub made : state ≡ GraphOf (graph_of os)

pub makes_graph : (s : Shape) (u : ℕ) (os : List Object) (state : State) → kind_of s u ≡ Some unit_kinds.Graph → IsStructure s u os state
    → MakesGraph os state
makes_graph s u os state kind h =
    let is : h.kind ≡ unit_kinds.Graph = cc in
    record {
      sound = sym (ap (λ (k : UnitKind). object_fault s u k os) is) ∙ h.sound;
      made = h.made ∙ ap (λ (k : UnitKind). structure_of k os) is;
    }

-- the nodes of objects have the attributes of what they make
graph_nodes : (os : List Object) → graph_in (nodes_of os os) ≡ graph_of os
graph_nodes os = graph_same (graph_in (nodes_of os os)) (graph_of os) (fun_ext by)
  where
    by : (t : Part) → attribute_of (graph_in (nodes_of os os)) t ≡ attribute_of (graph_of os) t
    by (AtVertex v) = part_attribute (nodes_of os os) (AtVertex v)
        ∙ ap (option_map (λ (n : Node). n.attribute)) (finite.get-from_entries nat_cmp_total (vertex_nodes os) v)
        ∙ named_attribute nat_cmp vertex_at v os ∙ sym (finite.get-from_entries nat_cmp_total (filter_map vertex_at os) v)
    by (AtEdge e) = part_attribute (nodes_of os os) (AtEdge e)
        ∙ ap (option_map (λ (n : Node). n.attribute)) (finite.get-from_entries edges_total (edge_nodes os) e)
        ∙ named_attribute edge_cmp edge_at e os ∙ sym (finite.get-from_entries edges_total (filter_map edge_at os) e)

-- ---- the records of objects
record_of : (rs : List Held) (o : Object) → Contains (map object_of rs) o → (r : Held) × Contains rs r × (object_of r ≡ o)
record_of [] o a = absurd (no_element o a)
record_of (r ∷ rs) o a = elim (element_cases (object_of r) (map object_of rs) o a) [
  | inl e ↦ (r, first_element r rs, sym e)
  | inr b ↦ let c = record_of rs o b in (c.0, later_element r rs c.0 c.1, c.2)
]

module _ (rs : List Held) (apart : AreApart rs) (shown : HasGraph rs (graph_of (live_objects rs))) where
  -- the node of a live object whose record has this part
  node_from : (part : Part) (node : Node) (o : Object) → Contains (live_objects rs) o → node_at o node.attribute ≡ node
      → ((r : Held) → live_of r.label.identity rs ≡ Some r → r.body ≡ o.body → part_for r.body ≡ Some (part, node.attribute))
      → IsNodeOf rs part node
  node_from part node o there is holds =
      let c = record_of (live_records rs) o there in
      let live = live_record rs apart c.0 c.1 in
      let identity : c.0.label.identity ≡ node.identity =
      ap (λ (p : Object). p.identity) c.2 ∙ ap (λ (n : Node). n.identity) is in
      record {
        live = c.0;
        is = ap (λ (i : ℕ). live_of i rs) (sym identity) ∙ live;
        in_slot = ap (λ (p : Object). p.slot) c.2 ∙ ap (λ (n : Node). n.slot) is;
        holds = holds c.0 live (ap (λ (p : Object). p.body) c.2);
      }

  node_live : (part : Part) (node : Node) → node_of (nodes_of (live_objects rs) (live_objects rs)) part ≡ Some node → IsNodeOf rs part node
  node_live (AtVertex v) node e =
      let b : IsNamed nat_cmp vertex_at (live_objects rs) v node = named_found nat_cmp vertex_at one_number v node (live_objects rs)
      (sym (finite.get-from_entries nat_cmp_total (vertex_nodes (live_objects rs)) v) ∙ e) in
      node_from (AtVertex v) node b.object b.there b.is (λ r live body. vertex_fits v node.attribute r.body
      (ap vertex_in body ∙ b.names_it))
  node_live (AtEdge d) node e =
      let b : IsNamed edge_cmp edge_at (live_objects rs) d node = named_found edge_cmp edge_at one_edge d node (live_objects rs)
      (sym (finite.get-from_entries edges_total (edge_nodes (live_objects rs)) d) ∙ e) in
      node_from (AtEdge d) node b.object b.there b.is (λ r live body. edge_sure d node.attribute r.body
      (ap edge_in body ∙ b.names_it)
      (λ n. shown.parts.readable r.label.identity (held_live part_for rs r.label.identity r live ∙ ap Some n)))

  nodes_live : HoldsLive rs (nodes_of (live_objects rs) (live_objects rs))
  nodes_live = record { graph = subst (HasGraph rs) (sym (graph_nodes (live_objects rs))) shown; places = node_live }

pub nodes_rebuilt : (s : Shape) (u : ℕ) (rs : List Held) (os : List Object) (state : State) → AreApart rs
    → kind_of s u ≡ Some unit_kinds.Graph → os ≡ live_objects rs → IsStructure s u os state → HoldsLive rs (nodes_of os os)
nodes_rebuilt s u rs os state apart kind are makes =
    let at : IsStructure s u (live_objects rs) state = subst (λ (xs : List Object). IsStructure s u xs state) are makes in
    let m = makes_graph s u (live_objects rs) state kind at in
    let shown : HasStructure s u rs (GraphOf (graph_of (live_objects rs))) = subst (HasStructure s u rs) m.made
    ((agrees s u rs state apart).1 at) in
    subst (λ (xs : List Object). HoldsLive rs (nodes_of xs xs)) (sym are) (nodes_live rs apart shown.things)

-- ---- where nothing is live there are no nodes
pub none_live : (rs : List Held) → ((i : ℕ) → live_of i rs ≡ None) → HoldsLive rs no_nodes
none_live rs none = record {
  graph = record {
    parts = record {
      readable = λ i e. let f = ap (held_in part_for) (none i) in absurd (cc);
      found = λ i t v e. let f = ap (held_in part_for) (none i) in absurd (cc);
      there = λ t v e. let f = nothing_at t in absurd (cc);
      once = λ i j t v w e f. let g = ap (held_in part_for) (none i) in absurd (cc);
    };
    ends = λ e there. let f = nothing_at (AtEdge e) in absurd (cc);
  };
  places = λ part node e. let f = no_node part in absurd (cc);
}
  where
    no_node : (part : Part) → node_of no_nodes part ≡ None
    no_node (AtVertex v) = finite.get-empty nat_cmp v
    no_node (AtEdge e) = finite.get-empty edge_cmp e

    nothing_at : (part : Part) → attribute_of (graph_in no_nodes) part ≡ None
    nothing_at part = part_attribute no_nodes part ∙ ap (option_map (λ (n : Node). n.attribute)) (no_node part)

-- ---- the unit
pub unit_with : (r : RegionShown) (nodes : Nodes) → Agrees r → kind_of r.books.layout r.books.unit ≡ Some unit_kinds.Graph
    → HoldsLive r.seat.known.part.records nodes → IsGraphUnit r nodes
unit_with r nodes agrees kind holds = record { agrees = agrees; kind = kind; indexed = λ _. holds }

pub rebuilt : (r : RegionShown) (os : List Object) (nodes : Nodes) → Agrees r → kind_of r.books.layout r.books.unit ≡ Some unit_kinds.Graph
    → os ≡ live_objects r.seat.known.part.records → ((state : State) × IsStructure r.books.layout r.books.unit os state)
    → nodes ≡ nodes_of os os → HoldsLive r.seat.known.part.records nodes
rebuilt r os nodes agrees kind are makes is = subst (HoldsLive r.seat.known.part.records) (sym is)
    (nodes_rebuilt r.books.layout r.books.unit r.seat.known.part.records os makes.0 agrees.1.apart kind are makes.1)
