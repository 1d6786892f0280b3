-- What the test of a graph finds among the objects of a unit: parts that stand twice, and edges without their ends.
use Rattle.std.proofs.Common.{◌≡◌, ℕ, List, [], ◌∷◌, sym, refl, ap, ◌∙◌, subst, Bool, true, false, inl, inr, ◌⊎◌}
use Rattle.std.specs.Prelude.{Option, Some, None, is_some, not, ◌==◌, ◌&&◌, if◌then◌else◌}
use Rattle.std.specs.List.{Contains, list_any}
use Rattle.std.specs.Map.{lookup}
use Rattle.std.specs.Ordering.{nat_cmp, eq_by_cmp}
use Rattle.std.specs.FinMap as finite
use Rattle.mont_base.specs.declared.record.Object.{Object}
use Rattle.mont_base.specs.declared.record.ObjectFault.{ObjectFault}
use Rattle.mont_base.specs.declared.record.ObjectFault.TheVariants as faults
use Rattle.mont_base.specs.State.{Ends, Graph, edge_cmp, can_join}
use Rattle.mont_base.specs.Bodies.{vertex_in, edge_in, is_vertex_body, is_edge_body}
use Rattle.mont_base.specs.Structure.{vertex_at, edge_at, part_fault, vertex_fault, edge_fault, has_vertex, has_edge, fault_if, names, lacks_end, end_fault}
use Rattle.mont_laws.specs.Structures.{Part, AtVertex, AtEdge, part_for, vertex_part, edge_part, attribute_of, HasEnds}
use Rattle.mont_laws.proofs.Members.{no_element, first_element, later_element, element_cases}
use Rattle.mont_laws.proofs.Keys.{both_true, some_there}
use Rattle.mont_laws.proofs.Bodies.{edge_tag, no_vertex_tag}
use Rattle.mont_laws.proofs.Graphs.{edge_sure}
use Rattle.mont_laws.proofs.Listed.{Reads, AllDiffer, is_named, named_lookup, entry_found, entry_there, each_read}
use Rattle.mont_laws.proofs.Parts.{same_part, one_part}
use Rattle.mont_laws.proofs.Scans.{body_of, no_fault_if, Finds}
use Rattle.mont_laws.proofs.Found.{any_read, IsVertexPart, IsEdgePart, part_cases}

pub no_vertex : (body : List ℕ) → is_vertex_body body ≡ false → vertex_in body ≡ None
no_vertex body e = rw e refl

pub no_edge : (body : List ℕ) → is_vertex_body body ≡ true → edge_in body ≡ None
no_edge body e = by (edge_in body) refl
  where
    by : (o : Option (Ends × ℕ)) → edge_in body ≡ o → o ≡ None
    by None f = refl
    by (Some y) f = let n = no_vertex_tag body (edge_tag body y f) in let c : true ≡ false = sym e ∙ n in absurd (cc)

-- ---- what one object names
vertex_read : (v : ℕ) (o : Object) (d : Part × ℕ) → part_for o.body ≡ Some d → has_vertex v o ≡ same_part (AtVertex v) d.0
vertex_read v o d e = by (part_cases o.body d e)
  where
    by : IsVertexPart o.body d ⊎ IsEdgePart o.body d → has_vertex v o ≡ same_part (AtVertex v) d.0
    by (inl p) = ap (names (eq_by_cmp nat_cmp v)) p.read ∙ ap (λ (x : Part × ℕ). same_part (AtVertex v) x.0) (sym p.is)
    by (inr p) = ap (names (eq_by_cmp nat_cmp v)) (no_vertex o.body p.tag) ∙ ap (λ (x : Part × ℕ). same_part (AtVertex v) x.0) (sym p.is)

edge_read : (ends : Ends) (o : Object) (d : Part × ℕ) → part_for o.body ≡ Some d → has_edge ends o ≡ same_part (AtEdge ends) d.0
edge_read ends o d e = by (part_cases o.body d e)
  where
    by : IsVertexPart o.body d ⊎ IsEdgePart o.body d → has_edge ends o ≡ same_part (AtEdge ends) d.0
    by (inl p) = ap (names (eq_by_cmp edge_cmp ends)) (no_edge o.body p.tag) ∙ ap (λ (x : Part × ℕ). same_part (AtEdge ends) x.0) (sym p.is)
    by (inr p) = ap (names (eq_by_cmp edge_cmp ends)) p.read ∙ ap (λ (x : Part × ℕ). same_part (AtEdge ends) x.0) (sym p.is)

pub vertex_among : (v : ℕ) (os : List Object) (es : List (Part × ℕ)) → Reads body_of part_for os es
    → list_any (has_vertex v) os ≡ is_named same_part (AtVertex v) es
vertex_among v os es h = any_read part_for (has_vertex v) (λ (d : Part × ℕ). same_part (AtVertex v) d.0) (vertex_read v) os es h

edge_among : (ends : Ends) (os : List Object) (es : List (Part × ℕ)) → Reads body_of part_for os es
    → list_any (has_edge ends) os ≡ is_named same_part (AtEdge ends) es
edge_among ends os es h = any_read part_for (has_edge ends) (λ (d : Part × ℕ). same_part (AtEdge ends) d.0) (edge_read ends) os es h

-- ---- the test of an object
-- the fault of a part, where its name stands in front
abbrev IsTold : List Object → List (Part × ℕ) → Object → Part × ℕ → Type 0
IsTold lower front o e = (fault : ObjectFault) × (part_fault lower o ≡ fault_if (is_named same_part e.0 front) fault)

part_told : (lower : List Object) (front : List (Part × ℕ)) (o : Object) (e : Part × ℕ) → Reads body_of part_for lower front
    → part_for o.body ≡ Some e → IsTold lower front o e
part_told lower front o e h is = by (part_cases o.body e is)
  where
    name_is : (t : Part) → e.0 ≡ t → (fault : ObjectFault) → fault_if (is_named same_part t front) fault ≡ fault_if
        (is_named same_part e.0 front) fault
    name_is t f fault = ap (λ (t : Part). fault_if (is_named same_part t front) fault) (sym f)

    edge_told : (y : Ends × ℕ) → (y.0.0 == y.0.1) ≡ false → edge_fault lower (Some y) ≡ fault_if (list_any (has_edge y.0) lower) faults.Edge
    edge_told y f = rw f refl

    by : IsVertexPart o.body e ⊎ IsEdgePart o.body e → IsTold lower front o e
    by (inl p) = (
      faults.Vertex,
      (λ i. if p.tag i then vertex_fault lower
          (p.read i) else (if is_edge_body o.body then edge_fault lower (edge_at o) else Some faults.Tag))
          ∙ ap (λ t. fault_if t faults.Vertex) (vertex_among p.vertex.0 lower front h)
          ∙ name_is (AtVertex p.vertex.0) (ap (λ (x : Part × ℕ). x.0) p.is) faults.Vertex,
    )
    by (inr p) = (
      faults.Edge,
      (λ i. if p.tag i then vertex_fault lower
          (vertex_at o) else (if edge_tag o.body p.edge p.read i then edge_fault lower (p.read i) else Some faults.Tag))
          ∙ edge_told p.edge p.joins
          ∙ ap (λ t. fault_if t faults.Edge) (edge_among p.edge.0 lower front h)
          ∙ name_is (AtEdge p.edge.0) (ap (λ (x : Part × ℕ). x.0) p.is) faults.Edge,
    )

part_unread : (lower : List Object) (o : Object) → part_for o.body ≡ None → part_fault lower o ≡ None → ⊥
part_unread lower o e f = by (is_vertex_body o.body) e f
  where
    vertex_by : (x : Option (ℕ × ℕ)) → vertex_part x ≡ None → vertex_fault lower x ≡ None → ⊥
    vertex_by None e f = absurd (cc)
    vertex_by (Some x) e f = absurd (cc)

    loop_by : (y : Ends × ℕ) (t : Bool) → ◌≡◌ {A = Option (Part × ℕ)} (if t then None else Some (AtEdge y.0, y.1)) None
        → (if t then Some faults.Loop else fault_if (list_any (has_edge y.0) lower) faults.Edge) ≡ None → ⊥
    loop_by y true e f = absurd (cc)
    loop_by y false e f = absurd (cc)

    edge_by : (y : Option (Ends × ℕ)) → edge_part y ≡ None → edge_fault lower y ≡ None → ⊥
    edge_by None e f = absurd (cc)
    edge_by (Some y) e f = loop_by y (y.0.0 == y.0.1) e f

    tag_by : (t : Bool) → edge_part (edge_in o.body) ≡ None → (if t then edge_fault lower (edge_at o) else Some faults.Tag) ≡ None → ⊥
    tag_by true e f = edge_by (edge_in o.body) e f
    tag_by false e f = absurd (cc)

    by : (t : Bool) → (if t then vertex_part (vertex_in o.body) else edge_part (edge_in o.body)) ≡ None
        → (if t then vertex_fault lower
        (vertex_at o) else (if is_edge_body o.body then edge_fault lower (edge_at o) else Some faults.Tag)) ≡ None → ⊥
    by true e f = vertex_by (vertex_in o.body) e f
    by false e f = tag_by (is_edge_body o.body) e f

pub finds_parts : Finds same_part part_for part_fault
finds_parts = record {
  unread = part_unread;
  named = λ lower front o e h is none. let b = part_told lower front o e h is in
      no_fault_if (is_named same_part e.0 front) b.0 (sym b.1 ∙ none);
  clear = λ lower front o e h is new. let b = part_told lower front o e h is in b.1 ∙ ap (λ t. fault_if t b.0) new;
}

-- ---- edges without their ends
ended : (all : List Object) (o : Object) (rest : Option (ℕ × ObjectFault))
    → (if lacks_end all (edge_at o) then Some (o.slot, faults.End) else rest) ≡ None → (lacks_end all (edge_at o) ≡ false) × (rest ≡ None)
ended all o rest e = by (lacks_end all (edge_at o)) e
  where
    by : (t : Bool) → (if t then Some (o.slot, faults.End) else rest) ≡ None → (t ≡ false) × (rest ≡ None)
    by true e = absurd (cc)
    by false e = (refl, e)

each_ends : (all os : List Object) → end_fault all os ≡ None → (o : Object) → Contains os o → lacks_end all (edge_at o) ≡ false
each_ends all [] e o a = absurd (no_element o a)
each_ends all (p ∷ os) e o a =
    let b = ended all p (end_fault all os) e in
    elim (element_cases p os o a) [ inl is ↦ ap (λ (q : Object). lacks_end all (edge_at q)) is ∙ b.0 | inr c ↦ each_ends all os b.1 o c ]

all_end : (all os : List Object) → ((o : Object) → Contains os o → lacks_end all (edge_at o) ≡ false) → end_fault all os ≡ None
all_end all [] h = refl
all_end all (p ∷ os) h = rw (h p (first_element p os)) (all_end all os (λ o a. h o (later_element p os o a)))

module _ (os : List Object) (es : List (Part × ℕ)) (reads : Reads body_of part_for os es) (differ : AllDiffer same_part es) (g : Graph)
    (has : (t : Part) → lookup (same_part t) es ≡ attribute_of g t) where
  -- a vertex that an object names is one of the graph
  vertex_is : (v : ℕ) → list_any (has_vertex v) os ≡ finite.contains_key g.vertices v
  vertex_is v = vertex_among v os es reads ∙ named_lookup same_part one_part (AtVertex v) es ∙ ap is_some (has (AtVertex v))

  joins_by : (e : Ends) (a b : Bool) → not (a && b) ≡ false → (a && b) ≡ true
  joins_by e true true h = refl
  joins_by e true false h = absurd (cc)
  joins_by e false b h = absurd (cc)

  edge_ends : (e : Ends) (a : ℕ) (o : Object) → part_for o.body ≡ Some (AtEdge e, a) → lacks_end os (edge_at o) ≡ false
      → can_join g.vertices e ≡ true
  edge_ends e a o is h = by (part_cases o.body (AtEdge e, a) is)
    where
      by : IsVertexPart o.body (AtEdge e, a) ⊎ IsEdgePart o.body (AtEdge e, a) → can_join g.vertices e ≡ true
      by (inl p) = let f : AtEdge e ≡ AtVertex p.vertex.0 = ap (λ (x : Part × ℕ). x.0) p.is in absurd (cc)
      by (inr p) =
          let lacks = sym (ap (lacks_end os) p.read) ∙ h in
          let both = joins_by p.edge.0 (list_any (has_vertex p.edge.0.0) os) (list_any (has_vertex p.edge.0.1) os) lacks in
          let vertices : (finite.contains_key g.vertices p.edge.0.0 && finite.contains_key g.vertices p.edge.0.1) ≡ true =
          (λ i. sym (vertex_is p.edge.0.0) i && sym (vertex_is p.edge.0.1) i) ∙ both in
          let joined : can_join g.vertices p.edge.0 ≡ true = rw p.joins vertices in
          let same : ◌≡◌ {A = Part} (AtEdge e) (AtEdge p.edge.0) = ap (λ (x : Part × ℕ). x.0) p.is in
          subst (λ (d : Ends). can_join g.vertices d ≡ true) (ap ends_of (sym same)) joined
        where
          ends_of : Part → Ends
          ends_of (AtVertex v) = e
          ends_of (AtEdge d) = d

  pub ends_from : end_fault os os ≡ None → HasEnds g
  ends_from none e there =
      let a = some_there (finite.get g.edges e) there in
      let b = entry_there body_of same_part one_part part_for os es (AtEdge e) a.0 reads (has (AtEdge e) ∙ a.1) in
      edge_ends e a.0 b.0 b.2 (each_ends os os none b.0 b.1)

  object_ends : HasEnds g → (o : Object) → Contains os o → (y : Option (Ends × ℕ)) → edge_at o ≡ y → lacks_end os y ≡ false
  object_ends ends o a None e = refl
  object_ends ends o a (Some y) e =
      let is : part_for o.body ≡ Some (AtEdge y.0, y.1) = edge_sure y.0 y.1 o.body e
      (λ n. each_read body_of same_part one_part part_for os es o reads a n) in
      let found : finite.get g.edges y.0 ≡ Some y.1 = sym (has (AtEdge y.0))
      ∙ entry_found body_of same_part one_part part_for os es o (AtEdge y.0) y.1 reads differ a is in
      let joins = ends y.0 (ap is_some found) in
      let both =
      (both_true (not (y.0.0 == y.0.1)) (finite.contains_key g.vertices y.0.0 && finite.contains_key g.vertices y.0.1) joins).1 in
      let objects : (list_any (has_vertex y.0.0) os && list_any (has_vertex y.0.1) os) ≡ true =
      (λ i. vertex_is y.0.0 i && vertex_is y.0.1 i) ∙ both in
      rw objects refl

  pub ends_none : HasEnds g → end_fault os os ≡ None
  ends_none ends = all_end os os (λ o a. object_ends ends o a (edge_at o) refl)
