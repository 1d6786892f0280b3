-- The nodes of the vertices and edges that objects hold, found one by one.
use Rattle.std.proofs.Common.{◌≡◌, ℕ, ◌+◌, ◌<◌, Bool, true, false, cond, List, [], ◌∷◌, ◌++◌, append-nil, length, take, get_or, refl, sym, ap, ◌∙◌}
use Rattle.std.specs.Prelude.{Option, Some, None, is_some, option_map, ◌||◌}
use Rattle.std.specs.Bool.{Decides}
use Rattle.std.specs.declared.cmp.Ordering.{Ordering}
use Rattle.std.specs.Cmp.{IsTotalOrder}
use Rattle.std.specs.Ordering.{eq_by_cmp}
use Rattle.std.specs.List.{Contains, list_any, filter_map, cons_option}
use Rattle.std.specs.FinMap as finite
use Rattle.std.specs.FinMap.{find}
use Rattle.std.proofs.lemmas.List.{take_more}
use Rattle.std.proofs.lemmas.List.Elements.{filter_map-append}
use Rattle.std.proofs.lemmas.Option.{same_Some}
use Rattle.mont_base.specs.declared.record.Object.{Object}
use Rattle.mont_base.specs.Structure.{names, or_else}
use Rattle.mont_laws.proofs.Keys.{one_key}
use Rattle.mont_laws.proofs.Members.{first_element, later_element}
use Rattle.pgraph.specs.declared.node.Node.{Node}
use Rattle.pgraph.specs.GraphBeginning.{node_at, named_at}

-- ---- an entry after others
module _ {K V : Type 0} (R : K → K → Ordering) where
  find_append : (q : K) (xs ys : List (K × V)) → find R q (xs ++ ys) ≡ or_else (find R q xs) (find R q ys)
  find_append q [] ys = refl
  find_append q (x ∷ xs) ys = ap (cond (eq_by_cmp R q x.0) (Some x.1)) (find_append q xs ys) ∙ by (eq_by_cmp R q x.0)
    where
      by : (t : Bool) → cond t (Some x.1) (or_else (find R q xs) (find R q ys)) ≡ or_else (cond t (Some x.1) (find R q xs)) (find R q ys)
      by true = refl
      by false = refl

module _ {K V : Type 0} {R : K → K → Ordering} (order : IsTotalOrder R) (exact : finite.IsAntisymmetric R) where
  -- a new key after others comes in
  from_push : (es : List (K × V)) (k : K) (v : V) → find R k es ≡ None
      → finite.from_entries {R = R} (es ++ (k, v) ∷ []) ≡ finite.insert (finite.from_entries es) k v
  from_push es k v none = finite.same_map order exact _ _ (λ q. finite.get-from_entries order (es ++ (k, v) ∷ []) q
      ∙ find_append R q es ((k, v) ∷ []) ∙ by q (eq_by_cmp R q k) refl
      ∙ ap (cond (eq_by_cmp R q k) (Some v)) (sym (finite.get-from_entries order es q))
      ∙ sym (finite.get-insert order (finite.from_entries es) k v q))
    where
      behind : (o : Option V) → or_else o None ≡ o
      behind None = refl
      behind (Some w) = refl

      by : (q : K) (t : Bool) → eq_by_cmp R q k ≡ t → or_else (find R q es) (cond t (Some v) None) ≡ cond t (Some v) (find R q es)
      by q true e = ap (λ (o : Option V). or_else o (Some v)) (ap (λ (p : K). find R p es) ((one_key order exact q k).0 e) ∙ none)
      by q false e = behind (find R q es)

-- ---- what objects name
module _ {K : Type 0} (R : K → K → Ordering) (at : Object → Option (K × ℕ)) where
  abbrev pub nodes_named : List Object → List (K × Node)
  nodes_named os = filter_map (λ (o : Object). named_at o (at o)) os

  pub named_there : (k : K) (os : List Object) → is_some (find R k (nodes_named os))
      ≡ list_any (λ (o : Object). names (eq_by_cmp R k) (at o)) os
  named_there k [] = refl
  named_there k (o ∷ os) = by (at o) (named_there k os)
    where
      first : (t : Bool) (n : Node) → is_some (find R k (nodes_named os)) ≡ list_any (λ (o : Object). names (eq_by_cmp R k) (at o)) os
          → is_some (cond t (Some n) (find R k (nodes_named os))) ≡ (t || list_any (λ (o : Object). names (eq_by_cmp R k) (at o)) os)
      first true n rest = refl
      first false n rest = rest

      by : (w : Option (K × ℕ)) → is_some (find R k (nodes_named os)) ≡ list_any (λ (o : Object). names (eq_by_cmp R k) (at o)) os
          → is_some (find R k (cons_option (named_at o w) (nodes_named os)))
          ≡ (names (eq_by_cmp R k) w || list_any (λ (o : Object). names (eq_by_cmp R k) (at o)) os)
      by None rest = rest
      by (Some e) rest = first (eq_by_cmp R k e.0) (node_at o e.1) rest

  -- with the attributes that they hold
  pub named_attribute : (k : K) (os : List Object) → option_map (λ (n : Node). n.attribute) (find R k (nodes_named os))
      ≡ find R k (filter_map at os)
  named_attribute k [] = refl
  named_attribute k (o ∷ os) = by (at o) (named_attribute k os)
    where
      first : (t : Bool) (n : Node) → option_map (λ (n : Node). n.attribute) (find R k (nodes_named os)) ≡ find R k (filter_map at os)
          → option_map (λ (n : Node). n.attribute) (cond t (Some n) (find R k (nodes_named os)))
          ≡ cond t (Some n.attribute) (find R k (filter_map at os))
      first true n rest = refl
      first false n rest = rest

      by : (w : Option (K × ℕ)) → option_map (λ (n : Node). n.attribute) (find R k (nodes_named os)) ≡ find R k (filter_map at os)
          → option_map (λ (n : Node). n.attribute) (find R k (cons_option (named_at o w) (nodes_named os)))
          ≡ find R k (cons_option w (filter_map at os))
      by None rest = rest
      by (Some e) rest = first (eq_by_cmp R k e.0) (node_at o e.1) rest

  -- an object that has this name and this node
  pub record IsNamed (os : List Object) (k : K) (node : Node) : Type 0 where
    pub object : Object
    pub there : Contains os object
    pub names_it : at object ≡ Some (k, node.attribute)
    pub is : node_at object node.attribute ≡ node

  pub named_found : ((a b : K) → Decides (eq_by_cmp R a b) (a ≡ b)) → (k : K) (node : Node) (os : List Object)
      → find R k (nodes_named os) ≡ Some node → IsNamed os k node
  named_found one k node [] e = absurd (cc)
  named_found one k node (o ∷ os) e = by (λ f. named_found one k node os f) (at o) refl e
    where
      later : IsNamed os k node → IsNamed (o ∷ os) k node
      later b = record { object = b.object; there = later_element o os b.object b.there; names_it = b.names_it; is = b.is }

      first : (find R k (nodes_named os) ≡ Some node → IsNamed os k node) → (w : K × ℕ) → at o ≡ Some w → (t : Bool) → eq_by_cmp R k w.0 ≡ t
          → cond t (Some (node_at o w.1)) (find R k (nodes_named os)) ≡ Some node → IsNamed (o ∷ os) k node
      first rest w f true g h =
          let same : node_at o w.1 ≡ node = same_Some (node_at o w.1) node h in
          let number : w.1 ≡ node.attribute = ap (λ (n : Node). n.attribute) same in
          record {
            object = o;
            there = first_element o os;
            names_it = f ∙ (λ i. Some (sym ((one k w.0).0 g) i, number i));
            is = ap (node_at o) (sym number) ∙ same;
          }
      first rest w f false g h = later (rest h)

      by : (find R k (nodes_named os) ≡ Some node → IsNamed os k node) → (w : Option (K × ℕ)) → at o ≡ w
          → find R k (cons_option (named_at o w) (nodes_named os)) ≡ Some node → IsNamed (o ∷ os) k node
      by rest None f h = later (rest h)
      by rest (Some w) f h = first rest w f (eq_by_cmp R k w.0) refl h

  -- ---- one object more
  module _ (os : List Object) (i : ℕ) (d : Object) (inside : i < length os) where
    more : nodes_named (take (i + 1) os) ≡ nodes_named (take i os) ++ nodes_named (get_or os i d ∷ [])
    more = ap nodes_named (take_more os i d inside) ∙ filter_map-append (λ (o : Object). named_at o (at o)) (take i os) (get_or os i d ∷ [])

    pub named_past : at (get_or os i d) ≡ None → nodes_named (take (i + 1) os) ≡ nodes_named (take i os)
    named_past none = more
        ∙ ap (λ (w : Option (K × ℕ)). nodes_named (take i os) ++ cons_option (named_at (get_or os i d) w) []) none
        ∙ append-nil (nodes_named (take i os))

    pub named_next : (e : K × ℕ) → at (get_or os i d) ≡ Some e
        → nodes_named (take (i + 1) os) ≡ nodes_named (take i os) ++ (e.0, node_at (get_or os i d) e.1) ∷ []
    named_next e is = more
        ∙ ap (λ (w : Option (K × ℕ)). nodes_named (take i os) ++ cons_option (named_at (get_or os i d) w) []) is

module _ {K : Type 0} {R : K → K → Ordering} (order : IsTotalOrder R) (exact : finite.IsAntisymmetric R) (at : Object → Option (K × ℕ))
    (os : List Object) (i : ℕ) (d : Object) (inside : i < length os) where
  pub named_inserted : (e : K × ℕ) → at (get_or os i d) ≡ Some e → find R e.0 (nodes_named R at (take i os)) ≡ None
      → finite.from_entries {R = R} (nodes_named R at (take (i + 1) os))
      ≡ finite.insert (finite.from_entries (nodes_named R at (take i os))) e.0 (node_at (get_or os i d) e.1)
  named_inserted e is none = ap (λ (es : List (K × Node)). finite.from_entries {R = R} es) (named_next R at os i d inside e is)
      ∙ from_push order exact (nodes_named R at (take i os)) e.0 (node_at (get_or os i d) e.1) none
