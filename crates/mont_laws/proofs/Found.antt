-- What the test of each kind finds among the objects of a unit.
use Rattle.std.proofs.Common.{◌≡◌, ℕ, List, [], ◌∷◌, sym, refl, ap, ◌∙◌, Bool, true, false, inl, inr, ◌⊎◌}
use Rattle.std.specs.Prelude.{Option, Some, None, ◌==◌, ◌||◌, if◌then◌else◌}
use Rattle.std.specs.List.{list_any}
use Rattle.std.specs.Ordering.{nat_cmp, eq_by_cmp}
use Rattle.std.proofs.lemmas.Option.{same_Some}
use Rattle.mont_base.specs.declared.record.Object.{Object}
use Rattle.mont_base.specs.declared.record.ObjectFault.{ObjectFault}
use Rattle.mont_base.specs.declared.record.ObjectFault.TheVariants as faults
use Rattle.mont_base.specs.Layout.{Shape}
use Rattle.mont_base.specs.State.{Key, Value, Ends, key_cmp}
use Rattle.mont_base.specs.Bodies.{pair_in, item_in, vertex_in, edge_in, is_vertex_body}
use Rattle.mont_base.specs.Structure.{keeps_key, is_serial, pair_fault, map_fault, item_fault, queue_fault, has_key, has_serial, fault_if, names}
use Rattle.mont_laws.specs.Structures.{if_fits, pair_for, item_for, Part, AtVertex, AtEdge, part_for, vertex_part, edge_part}
use Rattle.mont_laws.proofs.Holders.{fitted}
use Rattle.mont_laws.proofs.Listed.{Reads, is_named}
use Rattle.mont_laws.proofs.Scans.{body_of, no_fault_if, Finds}

-- a test of objects finds what the same test finds among their entries
pub any_read : {E : Type 0} (read : List ℕ → Option E) (test : Object → Bool) (is : E → Bool)
    → ((o : Object) (e : E) → read o.body ≡ Some e → test o ≡ is e) → (os : List Object) (es : List E) → Reads body_of read os es
    → list_any test os ≡ list_any is es
any_read read test is same [] [] h = refl
any_read read test is same [] (e ∷ es) h = absurd h
any_read read test is same (o ∷ os) [] h = absurd h
any_read read test is same (o ∷ os) (e ∷ es) h = λ i. same o e h.0 i || any_read read test is same os es h.1 i

not_fit : {A : Type 0} (p : A → Bool) (a : A) → if_fits p (Some a) ≡ None → p a ≡ false
not_fit p a e = by (p a) e
  where
    by : (t : Bool) → (if t then Some a else None) ≡ None → t ≡ false
    by true e = absurd (cc)
    by false e = refl

-- ---- maps
module _ (s : Shape) (unit : ℕ) where
  pair_there : (o : Object) (e : Key × Value) → pair_for s unit o.body ≡ Some e → (pair_in o.body ≡ Some e) × (keeps_key s unit e.0 ≡ true)
  pair_there o e h = fitted (λ (p : Key × Value). keeps_key s unit p.0) (pair_in o.body) e h

  key_among : (key : Key) (lower : List Object) (front : List (Key × Value)) → Reads body_of (pair_for s unit) lower front
      → list_any (has_key key) lower ≡ is_named (eq_by_cmp key_cmp) key front
  key_among key lower front h = any_read (pair_for s unit) (has_key key) (λ (d : Key × Value). eq_by_cmp key_cmp key d.0)
      (λ o e is. ap (names (eq_by_cmp key_cmp key)) (pair_there o e is).0) lower front h

  pair_unread : (lower : List Object) (p : Option (Key × Value)) → if_fits (λ (p : Key × Value). keeps_key s unit p.0) p ≡ None
      → pair_fault s unit lower p ≡ None → ⊥
  pair_unread lower None e f = absurd (cc)
  pair_unread lower (Some p) e f = let n = not_fit (λ (p : Key × Value). keeps_key s unit p.0) p e in
      let g : ◌≡◌ {A = Option ObjectFault} (Some faults.Shard) None = sym (rw n refl) ∙ f in absurd (cc)

  pair_is : (lower : List Object) (front : List (Key × Value)) (o : Object) (e : Key × Value)
      → Reads body_of (pair_for s unit) lower front → pair_for s unit o.body ≡ Some e
      → map_fault s unit lower o ≡ fault_if (is_named (eq_by_cmp key_cmp) e.0 front) faults.Key
  pair_is lower front o e h is = let b = pair_there o e is in
      ap (pair_fault s unit lower) b.0 ∙ rw b.1 (ap (λ t. fault_if t faults.Key) (key_among e.0 lower front h))

  pub finds_pairs : Finds (eq_by_cmp key_cmp) (pair_for s unit) (map_fault s unit)
  finds_pairs = record {
    unread = λ lower o is none. pair_unread lower (pair_in o.body) is none;
    named = λ lower front o e h is none. no_fault_if (is_named (eq_by_cmp key_cmp) e.0 front) faults.Key
        (sym (pair_is lower front o e h is) ∙ none);
    clear = λ lower front o e h is new. pair_is lower front o e h is ∙ ap (λ t. fault_if t faults.Key) new;
  }

-- ---- queues
item_there : (o : Object) (e : ℕ × ℕ) → item_for o.body ≡ Some e → (item_in o.body ≡ Some e) × (is_serial e.0 ≡ true)
item_there o e h = fitted (λ (e : ℕ × ℕ). is_serial e.0) (item_in o.body) e h

serial_among : (serial : ℕ) (lower : List Object) (front : List (ℕ × ℕ)) → Reads body_of item_for lower front
    → list_any (has_serial serial) lower ≡ is_named (eq_by_cmp nat_cmp) serial front
serial_among serial lower front h = any_read item_for (has_serial serial) (λ (d : ℕ × ℕ). eq_by_cmp nat_cmp serial d.0)
    (λ o e is. ap (names (eq_by_cmp nat_cmp serial)) (item_there o e is).0) lower front h

item_unread : (lower : List Object) (p : Option (ℕ × ℕ)) → if_fits (λ (e : ℕ × ℕ). is_serial e.0) p ≡ None → item_fault lower p ≡ None → ⊥
item_unread lower None e f = absurd (cc)
item_unread lower (Some p) e f = let n = not_fit (λ (e : ℕ × ℕ). is_serial e.0) p e in
    let g : ◌≡◌ {A = Option ObjectFault} (Some faults.Serial) None = sym (rw n refl) ∙ f in absurd (cc)

item_is : (lower : List Object) (front : List (ℕ × ℕ)) (o : Object) (e : ℕ × ℕ) → Reads body_of item_for lower front
    → item_for o.body ≡ Some e → queue_fault lower o ≡ fault_if (is_named (eq_by_cmp nat_cmp) e.0 front) faults.Serial
item_is lower front o e h is = let b = item_there o e is in ap (item_fault lower) b.0 ∙ rw b.1
    (ap (λ t. fault_if t faults.Serial) (serial_among e.0 lower front h))

pub finds_items : Finds (eq_by_cmp nat_cmp) item_for queue_fault
finds_items = record {
  unread = λ lower o is none. item_unread lower (item_in o.body) is none;
  named = λ lower front o e h is none. no_fault_if (is_named (eq_by_cmp nat_cmp) e.0 front) faults.Serial
      (sym (item_is lower front o e h is) ∙ none);
  clear = λ lower front o e h is new. item_is lower front o e h is ∙ ap (λ t. fault_if t faults.Serial) new;
}

-- ---- graphs
-- a body is that of a vertex
pub record IsVertexPart (body : List ℕ) (d : Part × ℕ) : Type 0 where
  pub tag : is_vertex_body body ≡ true
  pub vertex : ℕ × ℕ
  pub read : vertex_in body ≡ Some vertex
  pub is : d ≡ (AtVertex vertex.0, vertex.1)

-- or that of an edge, which is no loop
pub record IsEdgePart (body : List ℕ) (d : Part × ℕ) : Type 0 where
  pub tag : is_vertex_body body ≡ false
  pub edge : Ends × ℕ
  pub read : edge_in body ≡ Some edge
  pub joins : (edge.0.0 == edge.0.1) ≡ false
  pub is : d ≡ (AtEdge edge.0, edge.1)

pub part_cases : (body : List ℕ) (d : Part × ℕ) → part_for body ≡ Some d → IsVertexPart body d ⊎ IsEdgePart body d
part_cases body d e = by (is_vertex_body body) refl e
  where
    vertex_by : is_vertex_body body ≡ true → (o : Option (ℕ × ℕ)) → vertex_in body ≡ o → vertex_part o ≡ Some d → IsVertexPart body d
    vertex_by t None f g = absurd (cc)
    vertex_by t (Some x) f g = record { tag = t; vertex = x; read = f; is = sym (same_Some (AtVertex x.0, x.1) d g) }

    loop_by : is_vertex_body body ≡ false → (y : Ends × ℕ) → edge_in body ≡ Some y → (t : Bool) → (y.0.0 == y.0.1) ≡ t
        → (if t then None else Some (AtEdge y.0, y.1)) ≡ Some d → IsEdgePart body d
    loop_by n y f true h g = absurd (cc)
    loop_by n y f false h g = record { tag = n; edge = y; read = f; joins = h; is = sym (same_Some (AtEdge y.0, y.1) d g) }

    edge_by : is_vertex_body body ≡ false → (o : Option (Ends × ℕ)) → edge_in body ≡ o → edge_part o ≡ Some d → IsEdgePart body d
    edge_by n None f g = absurd (cc)
    edge_by n (Some y) f g = loop_by n y f (y.0.0 == y.0.1) refl g

    by : (t : Bool) → is_vertex_body body ≡ t → (if t then vertex_part (vertex_in body) else edge_part (edge_in body)) ≡ Some d
        → IsVertexPart body d ⊎ IsEdgePart body d
    by true t g = inl (vertex_by t (vertex_in body) refl g)
    by false t g = inr (edge_by t (edge_in body) refl g)
