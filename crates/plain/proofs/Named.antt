-- A sorted map of the entries that the bodies of objects name.
use Rattle.std.proofs.Common.{◌≡◌, ℕ, Bool, true, false, List, [], ◌∷◌, ◌++◌, ◌||◌, cond, ◌&&◌, not, refl, sym, ap, ◌∙◌, append-nil, ne_eqb}
use Rattle.std.specs.Prelude.{Option, Some, None, Ok, slice_index}
use Rattle.std.specs.declared.cmp.Ordering.{Ordering}
use Rattle.std.specs.Ordering.{eq_by_cmp, nat_cmp}
use Rattle.std.specs.Cmp.{IsTotalOrder, nat_cmp_total}
use Rattle.std.specs.Bool.{then_some}
use Rattle.std.specs.Option.{is_some}
use Rattle.std.specs.List.{list_any, filter_map, cons_option}
use Rattle.std.specs.BTreeMap as tree
use Rattle.std.specs.FinMap as finite
use Rattle.std.specs.FinMap.{find}
use Rattle.std.proofs.lemmas.List.Elements.{filter_map-append}
use Rattle.std.proofs.lemmas.Bool.Decides.{Decides-eqb}
use Rattle.mont_base.specs.declared.constants.TheConstants.{VERTEX_TAG}
use Rattle.mont_base.specs.declared.record.Object.{Object}
use Rattle.mont_base.specs.declared.record.ObjectFault.{ObjectFault}
use Rattle.mont_base.specs.declared.record.ObjectFault.TheVariants as faults
use Rattle.mont_base.specs.Bodies.{is_vertex_body, vertex_in, is_edge_body, edge_in}
use Rattle.mont_base.specs.Layout.{Shape}
use Rattle.mont_base.specs.State.{Key, Value, Ends}
use Rattle.mont_base.specs.Structure.{names, fault_if, keeps_key, pair_fault, has_key, is_serial, item_fault, has_serial, edge_fault, has_edge, vertex_at, lacks_end}
use Rattle.plain.specs.Built.{HasNamed, AddsNamed}
use Rattle.plain.proofs.Maps.{kept_get, kept_insert}

fault_where : (stood : Bool) (fault : ObjectFault) → then_some stood fault ≡ fault_if stood fault
fault_where true fault = refl
fault_where false fault = refl

fault_free : (stood : Bool) (fault : ObjectFault) → then_some stood fault ≡ None → stood ≡ false
fault_free true fault e = cc
fault_free false fault e = refl

nothing : {A : Type 0} (x : Option A) → is_some x ≡ false → x ≡ None
nothing None e = refl
nothing (Some a) e = cc

module _ {K X : Type 0} {R : K → K → Ordering} (o : IsTotalOrder R) (name : Object → Option (K × X)) where
  -- a key stands among the entries exactly where one of the objects names it
  named : (os : List Object) (k : K) → is_some (find R k (filter_map name os)) ≡ list_any (λ p. names (eq_by_cmp R k) (name p)) os
  named [] k = refl
  named (p ∷ os) k =
      elim (name p) as (λ e. is_some (find R k (cons_option e (filter_map name os)))
      ≡ (names (eq_by_cmp R k) e || list_any (λ q. names (eq_by_cmp R k) (name q)) os)) [
        | None ↦ named os k
        | Some e ↦ elim (eq_by_cmp R k e.0) as (λ b. is_some (cond b (Some e.1) (find R k (filter_map name os)))
            ≡ (b || list_any (λ q. names (eq_by_cmp R k) (name q)) os)) [
              | true ↦ refl
              | false ↦ named os k
            ]
      ]

  found : (m : tree.BTreeMap K X) (os : List Object) (k : K) → HasNamed R name m os → tree.get R m k ≡ find R k (filter_map name os)
  found m os k h = kept_get o m.entries _ h.same k (tree.get R m k) refl ∙ finite.get-from_entries o (filter_map name os) k

  -- so does the map have it
  pub stands : (m : tree.BTreeMap K X) (os : List Object) (k : K) (before : Option X) → HasNamed R name m os → before ≡ tree.get R m k
      → is_some before ≡ list_any (λ p. names (eq_by_cmp R k) (name p)) os
  stands m os k before h is = ap is_some (is ∙ found m os k h) ∙ named os k

  behind : (os : List Object) (p : Object) (e : Option (K × X)) → name p ≡ e
      → filter_map name os ++ cons_option e [] ≡ filter_map name (os ++ p ∷ [])
  behind os p e is = ap (λ x. filter_map name os ++ cons_option x []) (sym is) ∙ sym (filter_map-append name os (p ∷ []))

  -- an object that names nothing leaves the map as it is
  pub skipped : (m : tree.BTreeMap K X) (os : List Object) (p : Object) → HasNamed R name m os → name p ≡ None
      → HasNamed R name m (os ++ p ∷ [])
  skipped m os p h is = record {
    same = h.same
        ∙ ap (λ (es : List (K × X)). finite.from_entries {R = R} es) (sym (append-nil (filter_map name os)) ∙ behind os p None is);
  }

  added : finite.IsAntisymmetric R → (m n : tree.BTreeMap K X) (os : List Object) (p : Object) (k : K) (v : X) (before : Option X)
      → HasNamed R name m os → name p ≡ Some (k, v) → before ≡ tree.get R m k → is_some before ≡ false
      → ((q : K) → tree.get R n q ≡ cond (eq_by_cmp R k q) (Some v) (tree.get R m q)) → HasNamed R name n (os ++ p ∷ [])
  added same m n os p k v before h is old new grown = record {
    same = kept_insert o m.entries _ h.same same n.entries k v grown
        ∙ sym (finite.from_entries_push o same (filter_map name os) k v (sym (found m os k h) ∙ sym old ∙ nothing before new))
        ∙ ap (λ (es : List (K × X)). finite.from_entries {R = R} es) (behind os p (Some (k, v)) is);
  }

  -- One that names an entry adds it, where its key doesn't stand yet. Where it does, that is the object's fault.
  pub adds : {E : Type 0} → finite.IsAntisymmetric R
      → (fault_of : List Object → Option ObjectFault) (fault : ObjectFault) (m n : tree.BTreeMap K X) (p : Object) (k : K) (v : X)
      → (before : Option X) (stood : Bool) (result : Option ObjectFault)
      → name p ≡ Some (k, v) → before ≡ tree.get R m k → stood ≡ is_some before → result ≡ then_some stood fault
      → ((q : K) → tree.get R n q ≡ cond (eq_by_cmp R k q) (Some v) (tree.get R m q))
      → ((lower : List Object) → fault_of lower ≡ fault_if (list_any (λ q. names (eq_by_cmp R k) (name q)) lower) fault)
      → AddsNamed {E = E} R name fault_of m n p (Ok result)
  adds same fault_of fault m n p k v before stood result is old test answer grown tells = record {
    fault = λ lower h. answer ∙ fault_where stood fault ∙ ap (λ b. fault_if b fault) (test ∙ stands m lower k before h old)
        ∙ sym (tells lower);
    added = λ e lower h.
        let none : result ≡ None = cc in
        added same m n lower p k v before h is old (sym test ∙ fault_free stood fault (sym answer ∙ none)) grown;
  }

-- ---- what the fault of an object is that names an entry and has no other fault
module _ (lower : List Object) where
  pub pair_told : (s : Shape) (unit : ℕ) (k : Key) (v : Value) (e : Option (Key × Value)) → e ≡ Some (k, v) → keeps_key s unit k ≡ true
      → pair_fault s unit lower e ≡ fault_if (list_any (has_key k) lower) faults.Key
  pair_told s unit k v e is kept = ap (pair_fault s unit lower) is ∙ rw kept refl

  pub item_told : (k v : ℕ) (e : Option (ℕ × ℕ)) → e ≡ Some (k, v) → is_serial k ≡ true
      → item_fault lower e ≡ fault_if (list_any (has_serial k) lower) faults.Serial
  item_told k v e is serial = ap (item_fault lower) is ∙ rw serial refl

  pub edge_told : (k : Ends) (v : ℕ) (e : Option (Ends × ℕ)) → e ≡ Some (k, v) → (k.0 ≡ k.1 → ⊥)
      → edge_fault lower e ≡ fault_if (list_any (has_edge k) lower) faults.Edge
  edge_told k v e is apart = ap (edge_fault lower) is ∙ rw (ne_eqb k.0 k.1 apart) refl

-- ---- a body with the tag of a vertex holds no edge
pub no_vertex : (body : List ℕ) → is_vertex_body body ≡ false → vertex_in body ≡ None
no_vertex body other = rw other refl

pub no_edge : (body : List ℕ) → is_vertex_body body ≡ true → edge_in body ≡ None
no_edge body vertex =
    let tag : slice_index body 0 ≡ VERTEX_TAG = (Decides-eqb (slice_index body 0) VERTEX_TAG).0 vertex in
    let other : is_edge_body body ≡ false = rw tag refl in
    rw other refl

-- an edge lacks an end where one of them isn't in the map of the vertices
pub ends_told : (vertices : tree.BTreeMap ℕ ℕ) (all : List Object) (k : Ends) (v : ℕ) (e : Option (Ends × ℕ)) (stand : Bool)
    → HasNamed nat_cmp vertex_at vertices all → e ≡ Some (k, v)
    → stand ≡ (is_some (tree.get nat_cmp vertices k.0) && is_some (tree.get nat_cmp vertices k.1)) → not stand ≡ lacks_end all e
ends_told vertices all k v e stand h is tells =
    let one = λ (end : ℕ). stands nat_cmp_total vertex_at vertices all end (tree.get nat_cmp vertices end) h refl in
    ap not (tells ∙ rw (one k.0, one k.1) refl) ∙ ap (lacks_end all) (sym is)
