-- Objects that make a graph name each vertex and each edge once, and edges have their ends.
use Rattle.std.proofs.Common.{◌≡◌, ℕ, zero, suc, ◌+◌, ◌<◌, ◌==◌, Bool, true, false, List, [], ◌∷◌, ◌++◌, append_assoc, append-nil, length, take, get_or, refl, sym, ap, ◌∙◌, arith}
use Rattle.std.specs.Prelude.{Option, Some, None, is_some, not, ◌&&◌, if◌then◌else◌}
use Rattle.std.specs.Cmp.{nat_cmp_total}
use Rattle.std.specs.Ordering.{nat_cmp}
use Rattle.std.specs.List.{list_any}
use Rattle.std.specs.FinMap as finite
use Rattle.std.specs.FinMap.{find}
use Rattle.mont_base.specs.declared.record.Object.{Object}
use Rattle.mont_base.specs.declared.record.ObjectFault.{ObjectFault}
use Rattle.mont_base.specs.declared.record.ObjectFault.TheVariants as faults
use Rattle.mont_base.specs.Bodies.{is_edge_body}
use Rattle.mont_base.specs.State.{Ends, edge_cmp}
use Rattle.mont_base.specs.Structure.{vertex_at, edge_at, has_vertex, has_edge, at_slot, first_fault, fault_if, vertex_fault, edge_fault, part_fault, lacks_end, end_fault, graph_fault}
use Rattle.mont_laws.proofs.Bodies.{vertex_tag, edge_tag, no_vertex_tag}
use Rattle.mont_laws.proofs.Keys.{is_some_not, edges_total, edges_exact}
use Rattle.mont_laws.proofs.Scans.{neither_fault, no_fault_if}
use Rattle.pgraph.specs.GraphBeginning.{node_at, vertex_nodes, edge_nodes, nodes_of}
use Rattle.pgraph.specs.GraphIndex.{Nodes, joins, with_vertex, with_edge}
use Rattle.pgraph.proofs.NodeMaps.{nodes_same}
use Rattle.pgraph.proofs.ObjectNodes.{named_there, named_past, named_inserted}

-- ---- no object has a fault
no_fault_here : (slot : ℕ) (fault : Option ObjectFault) → at_slot slot fault ≡ None → fault ≡ None
no_fault_here slot None e = refl
no_fault_here slot (Some f) e = absurd (cc)

each_sound : (fault_of : List Object → Object → Option ObjectFault) (os lower : List Object) (i : ℕ) (d : Object) → i < length os
    → first_fault fault_of lower os ≡ None → fault_of (lower ++ take i os) (get_or os i d) ≡ None
each_sound fault_of [] lower i d inside none = absurd (omega arith)
each_sound fault_of (o ∷ os) lower zero d inside none =
    ap (λ (xs : List Object). fault_of xs o) (append-nil lower)
    ∙ no_fault_here o.slot (fault_of lower o)
    (neither_fault (at_slot o.slot (fault_of lower o)) (first_fault fault_of (lower ++ o ∷ []) os) none).0
each_sound fault_of (o ∷ os) lower (suc i) d inside none =
    ap (λ (xs : List Object). fault_of xs (get_or os i d)) (sym (append_assoc lower (o ∷ []) (take i os)))
    ∙ each_sound fault_of os (lower ++ o ∷ []) i d (omega arith)
    (neither_fault (at_slot o.slot (fault_of lower o)) (first_fault fault_of (lower ++ o ∷ []) os) none).1

ended_first : (all : List Object) (o : Object) (os : List Object) → end_fault all (o ∷ os) ≡ None
    → (lacks_end all (edge_at o) ≡ false) × (end_fault all os ≡ None)
ended_first all o os none = by (lacks_end all (edge_at o)) refl none
  where
    by : (t : Bool) → lacks_end all (edge_at o) ≡ t → (if t then Some (o.slot, faults.End) else end_fault all os) ≡ None
        → (lacks_end all (edge_at o) ≡ false) × (end_fault all os ≡ None)
    by true e f = absurd (cc)
    by false e f = (e, f)

each_ended : (all os : List Object) (i : ℕ) (d : Object) → i < length os → end_fault all os ≡ None
    → lacks_end all (edge_at (get_or os i d)) ≡ false
each_ended all [] i d inside none = absurd (omega arith)
each_ended all (o ∷ os) zero d inside none = (ended_first all o os none).0
each_ended all (o ∷ os) (suc i) d inside none = each_ended all os i d (omega arith) (ended_first all o os none).1

module _ (os : List Object) (sound : graph_fault os ≡ None) (i : ℕ) (d : Object) (inside : i < length os) where
  part_sound : part_fault (take i os) (get_or os i d) ≡ None
  part_sound = each_sound part_fault os [] i d inside (neither_fault (first_fault part_fault [] os) (end_fault os os) sound).0

  -- ---- vertices
  module _ (e : ℕ × ℕ) (is : vertex_at (get_or os i d) ≡ Some e) where
    pub vertex_new : find nat_cmp e.0 (vertex_nodes (take i os)) ≡ None
    vertex_new = is_some_not (find nat_cmp e.0 (vertex_nodes (take i os)))
        (named_there nat_cmp vertex_at e.0 (take i os) ∙ no_fault_if (list_any (has_vertex e.0) (take i os)) faults.Vertex
        (sym (λ j. if vertex_tag (get_or os i d).body e is j then vertex_fault (take i os) (is j)
        else (if is_edge_body (get_or os i d).body then edge_fault (take i os) (edge_at (get_or os i d)) else Some faults.Tag))
        ∙ part_sound))

    pub vertex_absent : (n : Nodes) → n ≡ nodes_of (take i os) [] → finite.get n.vertices e.0 ≡ None
    vertex_absent n are = ap (λ (m : Nodes). finite.get m.vertices e.0) are
        ∙ finite.get-from_entries nat_cmp_total (vertex_nodes (take i os)) e.0 ∙ vertex_new

    pub next_vertex : (n : Nodes) → n ≡ nodes_of (take i os) []
        → with_vertex n e.0 (node_at (get_or os i d) e.1) ≡ nodes_of (take (i + 1) os) []
    next_vertex n are = ap (λ (m : Nodes). with_vertex m e.0 (node_at (get_or os i d) e.1)) are
        ∙ nodes_same (with_vertex (nodes_of (take i os) []) e.0 (node_at (get_or os i d) e.1)) (nodes_of (take (i + 1) os) [])
        (sym (named_inserted nat_cmp_total finite.nat_cmp-IsAntisymmetric vertex_at os i d inside e is vertex_new)) refl

  pub past_vertex : vertex_at (get_or os i d) ≡ None → (n : Nodes) → n ≡ nodes_of (take i os) [] → n ≡ nodes_of (take (i + 1) os) []
  past_vertex none n are = are ∙ nodes_same (nodes_of (take i os) []) (nodes_of (take (i + 1) os) [])
      (ap finite.from_entries (sym (named_past nat_cmp vertex_at os i d inside none))) refl

  -- ---- edges
  module _ (e : Ends × ℕ) (is : edge_at (get_or os i d) ≡ Some e) where
    edge_sound : (if e.0.0 == e.0.1 then Some faults.Loop else fault_if (list_any (has_edge e.0) (take i os)) faults.Edge) ≡ None
    edge_sound =
        let body = (get_or os i d).body in
        let tag = edge_tag body e is in
        sym (λ j. if no_vertex_tag body tag j then vertex_fault (take i os) (vertex_at (get_or os i d))
        else (if tag j then edge_fault (take i os) (is j) else Some faults.Tag)) ∙ part_sound

    no_loop : ((e.0.0 == e.0.1) ≡ false) × (list_any (has_edge e.0) (take i os) ≡ false)
    no_loop = by (e.0.0 == e.0.1) refl edge_sound
      where
        by : (t : Bool) → (e.0.0 == e.0.1) ≡ t
            → (if t then Some faults.Loop else fault_if (list_any (has_edge e.0) (take i os)) faults.Edge) ≡ None
            → ((e.0.0 == e.0.1) ≡ false) × (list_any (has_edge e.0) (take i os) ≡ false)
        by true f g = absurd (cc)
        by false f g = (f, no_fault_if (list_any (has_edge e.0) (take i os)) faults.Edge g)

    edge_new : find edge_cmp e.0 (edge_nodes (take i os)) ≡ None
    edge_new = is_some_not (find edge_cmp e.0 (edge_nodes (take i os))) (named_there edge_cmp edge_at e.0 (take i os) ∙ no_loop.1)

    pub edge_absent : (n : Nodes) → n ≡ nodes_of os (take i os) → finite.get n.edges e.0 ≡ None
    edge_absent n are = ap (λ (m : Nodes). finite.get m.edges e.0) are
        ∙ finite.get-from_entries edges_total (edge_nodes (take i os)) e.0 ∙ edge_new

    vertex_named : (v : ℕ) → finite.contains_key (nodes_of os (take i os)).vertices v ≡ list_any (has_vertex v) os
    vertex_named v = ap is_some (finite.get-from_entries nat_cmp_total (vertex_nodes os) v) ∙ named_there nat_cmp vertex_at v os

    ended : (list_any (has_vertex e.0.0) os && list_any (has_vertex e.0.1) os) ≡ true
    ended = by (list_any (has_vertex e.0.0) os && list_any (has_vertex e.0.1) os) (sym (ap (lacks_end os) is)
        ∙ each_ended os os i d inside (neither_fault (first_fault part_fault [] os) (end_fault os os) sound).1)
      where
        by : (t : Bool) → not t ≡ false → t ≡ true
        by true f = refl
        by false f = absurd (cc)

    pub edge_joins : (n : Nodes) → n ≡ nodes_of os (take i os) → joins n e.0 ≡ true
    edge_joins n are = ap (λ (m : Nodes). joins m e.0) are
        ∙ (λ j. not (no_loop.0 j) && (vertex_named e.0.0 j && vertex_named e.0.1 j)) ∙ ended

    pub next_edge : (n : Nodes) → n ≡ nodes_of os (take i os)
        → with_edge n e.0 (node_at (get_or os i d) e.1) ≡ nodes_of os (take (i + 1) os)
    next_edge n are = ap (λ (m : Nodes). with_edge m e.0 (node_at (get_or os i d) e.1)) are
        ∙ nodes_same (with_edge (nodes_of os (take i os)) e.0 (node_at (get_or os i d) e.1)) (nodes_of os (take (i + 1) os)) refl
        (sym (named_inserted edges_total edges_exact edge_at os i d inside e is edge_new))

  pub past_edge : edge_at (get_or os i d) ≡ None → (n : Nodes) → n ≡ nodes_of os (take i os) → n ≡ nodes_of os (take (i + 1) os)
  past_edge none n are = are ∙ nodes_same (nodes_of os (take i os)) (nodes_of os (take (i + 1) os)) refl
      (ap finite.from_entries (sym (named_past edge_cmp edge_at os i d inside none)))
