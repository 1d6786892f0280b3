-- Each decoder of a body reads back what its encoder wrote.
use Rattle.std.proofs.Common.{◌≡◌, ℕ, ◌≤◌, ◌==◌, List, refl, sym, ap, ◌∙◌, arith, Bool, true, false}
use Rattle.std.specs.Prelude.{Some, None, slice_index, nat_le, ◌&&◌, ◌||◌, if◌then◌else◌}
use Rattle.std.proofs.lemmas.Bool.Decides.{nat_tests}
use Rattle.std.proofs.lemmas.Option.{same_Some}
use Rattle.mont_base.specs.declared.constants.TheConstants.{LAST, VERTEX_TAG, EDGE_TAG}
use Rattle.mont_base.specs.declared.kinds.UnitKind.{UnitKind}
use Rattle.mont_base.specs.declared.kinds.UnitKind.TheVariants as kinds
use Rattle.mont_base.specs.Layout.{Shape, kind_of, is_of_kind, named_if, unit_named, unit_of_key}
use Rattle.mont_base.specs.Texts.{IsText, byte_words}
use Rattle.mont_base.specs.State.{Key, Value, Ends}
use Rattle.mont_base.specs.Bodies.{pair_body, item_body, vertex_body, edge_body, pair_in, key_in, value_in, item_in, vertex_in, edge_in, is_vertex_body, is_edge_body, is_clean, both}
use Rattle.mont_base.specs.Structure.{is_unit, keeps_key, is_serial}
use Rattle.mont_base.proofs.Texts.{text_back}
use Rattle.mont_laws.specs.Structures.{pair_for, item_for, part_for, AtVertex, AtEdge, if_fits, vertex_part, edge_part}

key_back : (k v : List ℕ) → IsText k → key_in (pair_body k v) ≡ Some k
unfolding byte_words
key_back k v is = text_back k is

value_back : (k v : List ℕ) → IsText v → value_in (pair_body k v) ≡ Some v
unfolding byte_words
value_back k v is = text_back v is

pub pair_back : (k v : List ℕ) → IsText k → IsText v → pair_in (pair_body k v) ≡ Some (k, v)
pair_back k v is it = λ i. both (key_back k v is i) (value_back k v it i)

pub item_back : (serial item : ℕ) → item_in (item_body serial item) ≡ Some (serial, item)
item_back serial item = refl

pub vertex_back : (vertex attribute : ℕ) → vertex_in (vertex_body vertex attribute) ≡ Some (vertex, attribute)
vertex_back vertex attribute = refl

pub edge_back : (ends : Ends) (attribute : ℕ) → edge_in (edge_body ends attribute) ≡ Some (ends, attribute)
edge_back ends attribute = refl

-- ---- with the tests of a unit's structure
-- a map unit keeps the keys that belong to it
pub own_key : (s : Shape) (unit : ℕ) (key : Key) → unit_of_key s key ≡ Some unit → keeps_key s unit key ≡ true
own_key s unit key e = rw e (let same : (unit == unit) ≡ true = grind (arith, nat_tests) in rw same refl)

-- and an ordered unit all keys
any_key : (s : Shape) (unit : ℕ) (key : Key) → is_of_kind (kind_of s unit) kinds.Ordered ≡ true → keeps_key s unit key ≡ true
any_key s unit key e = rw e (by (is_unit (unit_of_key s key) unit))
  where
    by : (t : Bool) → (t || true) ≡ true
    by true = refl
    by false = refl

-- a unit that is named is of the kind
pub named_kind : (s : Shape) (kind : UnitKind) (named unit : ℕ) → unit_named s kind named ≡ Some unit
    → is_of_kind (kind_of s unit) kind ≡ true
named_kind s kind named unit e = by (is_of_kind (kind_of s named) kind) refl e
  where
    by : (t : Bool) → is_of_kind (kind_of s named) kind ≡ t → named_if t named ≡ Some unit → is_of_kind (kind_of s unit) kind ≡ true
    by true is e = ap (λ (u : ℕ). is_of_kind (kind_of s u) kind) (sym (same_Some named unit e)) ∙ is
    by false is e = absurd (cc)

pub ordered_key : (s : Shape) (named unit : ℕ) (key : Key) → unit_named s kinds.Ordered named ≡ Some unit → keeps_key s unit key ≡ true
ordered_key s named unit key e = any_key s unit key (named_kind s kinds.Ordered named unit e)

-- a pair of texts whose key the unit keeps
pub record IsKeptPair (s : Shape) (unit : ℕ) (k : Key) (v : Value) : Type 0 where
  pub kept : keeps_key s unit k ≡ true
  pub key : IsText k
  pub value : IsText v

pub kept_pair : (s : Shape) (unit : ℕ) (k : Key) (v : Value) → keeps_key s unit k ≡ true → IsText k × IsText v → IsKeptPair s unit k v
kept_pair s unit k v kept texts = record { kept = kept; key = texts.0; value = texts.1 }

pub pair_fits : (s : Shape) (unit : ℕ) (key : Key) (value : Value) (body : List ℕ) → keeps_key s unit key ≡ true
    → pair_in body ≡ Some (key, value) → pair_for s unit body ≡ Some (key, value)
pair_fits s unit key value body e f = ap (if_fits (λ (p : Key × Value). keeps_key s unit p.0)) f ∙ rw e refl

pub serial_fits : (serial : ℕ) → 1 ≤ serial → serial ≤ LAST → is_serial serial ≡ true
serial_fits serial some last = let a : nat_le 1 serial ≡ true = grind (arith, nat_tests) in
    let b : nat_le serial LAST ≡ true = grind (arith, nat_tests) in rw (a, b) refl

pub item_fits : (serial item : ℕ) (body : List ℕ) → 1 ≤ serial → serial ≤ LAST → item_in body ≡ Some (serial, item)
    → item_for body ≡ Some (serial, item)
item_fits serial item body some last e = ap (if_fits (λ (e : ℕ × ℕ). is_serial e.0)) e ∙ rw (serial_fits serial some last) refl

-- ---- parts of a graph
tested : {A : Type 0} (b c : Bool) (x y : A) → (if b && c then Some x else None) ≡ Some y → b ≡ true
tested true c x y e = refl
tested false c x y e = absurd (cc)

pub vertex_tag : (body : List ℕ) (x : ℕ × ℕ) → vertex_in body ≡ Some x → is_vertex_body body ≡ true
vertex_tag body x e = tested (is_vertex_body body) (is_clean 3 body) (slice_index body 1, slice_index body 2) x e

pub edge_tag : (body : List ℕ) (x : Ends × ℕ) → edge_in body ≡ Some x → is_edge_body body ≡ true
edge_tag body x e = tested (is_edge_body body) (is_clean 4 body) ((slice_index body 1, slice_index body 2), slice_index body 3) x e

pub no_vertex_tag : (body : List ℕ) → is_edge_body body ≡ true → is_vertex_body body ≡ false
no_vertex_tag body e = by (slice_index body 0) e
  where
    by : (w : ℕ) → (w == EDGE_TAG) ≡ true → (w == VERTEX_TAG) ≡ false
    by w e = grind (arith, nat_tests)

pub vertex_fits : (vertex attribute : ℕ) (body : List ℕ) → vertex_in body ≡ Some (vertex, attribute)
    → part_for body ≡ Some (AtVertex vertex, attribute)
vertex_fits vertex attribute body e = λ i. if vertex_tag body (vertex, attribute) e i then vertex_part (e i) else edge_part (edge_in body)

pub edge_fits : (ends : Ends) (attribute : ℕ) (body : List ℕ) → (ends.0 == ends.1) ≡ false → edge_in body ≡ Some (ends, attribute)
    → part_for body ≡ Some (AtEdge ends, attribute)
edge_fits ends attribute body ne e =
    let tag : is_vertex_body body ≡ false = no_vertex_tag body (edge_tag body (ends, attribute) e) in
    let is : part_for body ≡ edge_part (Some (ends, attribute)) = λ i. if tag i then vertex_part (vertex_in body) else edge_part (e i) in
    is ∙ rw ne refl
