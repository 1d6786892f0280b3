-- Which operations are of which unit.
use Rattle.std.proofs.Common.{◌≡◌, ℕ, zero, suc, ◌+◌, ◌≤◌, ◌<◌, Bool, true, false, List, [], ◌∷◌, length, refl, ap, ◌∙◌, subst, arith}
use Rattle.std.specs.Prelude.{Option, Some, None, slice_get, if◌then◌else◌}
use Rattle.std.proofs.lemmas.Bool.Decides.{nat_tests}
use Rattle.std.proofs.lemmas.Option.{same_Some, slice_get_within}
use Rattle.mont_base.specs.declared.constants.TheConstants.{MOST_PAIRS}
use Rattle.mont_base.specs.declared.operation.Aim.{Aim}
use Rattle.mont_base.specs.declared.operation.Aim.TheVariants as aims
use Rattle.mont_base.specs.declared.operation.Op.{Op}
use Rattle.mont_base.specs.declared.kinds.UnitKind.{UnitKind}
use Rattle.mont_base.specs.declared.kinds.UnitKind.TheVariants as kinds
use Rattle.mont_base.specs.declared.operation.Op.TheVariants as ops
use Rattle.mont_base.specs.Layout.{Shape, units_of, kind_of, same_kind, units_from, map_units, key_number, is_of_kind, named_if, unit_of_key, unit_named}
use Rattle.mont_base.specs.State.{Key, Value, aim_of, can_range, range_aim, unit_aimed, unit_of_op}
use Rattle.mont_base.specs.Texts.{IsText}
use Rattle.mont_laws.specs.Effects.{IsOpOf}

-- a range may be asked for so many pairs
may_range : (most : ℕ) → 1 ≤ most → most ≤ MOST_PAIRS → can_range most ≡ true
may_range most some few = grind (arith, nat_tests)

module _ (s : Shape) (unit : ℕ) where
  -- ---- maps: the unit of the key
  module _ (key : Key) (of_key : unit_of_key s key ≡ Some unit) where
    pub put_of : (value : Value) → IsText key → IsText value → IsOpOf s unit (ops.Put key value)
    put_of value is also = record { of_unit = of_key; texts = (is, also) }

    pub get_of : IsOpOf s unit (ops.Get key)
    get_of = record { of_unit = of_key; texts = tt }

    pub del_of : IsOpOf s unit (ops.Del key)
    del_of = record { of_unit = of_key; texts = tt }

  -- ---- queues: the unit that is named
  module _ (queue : kind_of s unit ≡ Some kinds.Queue) where
    named_queue : unit_named s kinds.Queue unit ≡ Some unit
    named_queue = ap (λ (k : Option UnitKind). named_if (is_of_kind k kinds.Queue) unit) queue

    pub enq_of : (item : ℕ) → IsOpOf s unit (ops.Enq unit item)
    enq_of item = record { of_unit = named_queue; texts = tt }

    pub deq_of : IsOpOf s unit (ops.Deq unit)
    deq_of = record { of_unit = named_queue; texts = tt }

    pub len_of : IsOpOf s unit (ops.Len unit)
    len_of = record { of_unit = named_queue; texts = tt }

  -- ---- graphs: the unit that is named
  module _ (graph : kind_of s unit ≡ Some kinds.Graph) where
    named_graph : unit_named s kinds.Graph unit ≡ Some unit
    named_graph = ap (λ (k : Option UnitKind). named_if (is_of_kind k kinds.Graph) unit) graph

    pub add_vertex_of : (vertex attribute : ℕ) → IsOpOf s unit (ops.AddV unit vertex attribute)
    add_vertex_of vertex attribute = record { of_unit = named_graph; texts = tt }

    pub del_vertex_of : (vertex : ℕ) → IsOpOf s unit (ops.DelV unit vertex)
    del_vertex_of vertex = record { of_unit = named_graph; texts = tt }

    pub vertex_of : (vertex : ℕ) → IsOpOf s unit (ops.Vertex unit vertex)
    vertex_of vertex = record { of_unit = named_graph; texts = tt }

    pub degree_of : (vertex : ℕ) → IsOpOf s unit (ops.Degree unit vertex)
    degree_of vertex = record { of_unit = named_graph; texts = tt }

    pub add_edge_of : (from to attribute : ℕ) → IsOpOf s unit (ops.AddE unit from to attribute)
    add_edge_of from to attribute = record { of_unit = named_graph; texts = tt }

    pub del_edge_of : (from to : ℕ) → IsOpOf s unit (ops.DelE unit from to)
    del_edge_of from to = record { of_unit = named_graph; texts = tt }

  -- ---- ordered units: the unit that is named
  module _ (ordered : kind_of s unit ≡ Some kinds.Ordered) where
    named_ordered : unit_named s kinds.Ordered unit ≡ Some unit
    named_ordered = ap (λ (k : Option UnitKind). named_if (is_of_kind k kinds.Ordered) unit) ordered

    pub oput_of : (key : Key) (value : Value) → IsText key → IsText value → IsOpOf s unit (ops.OPut unit key value)
    oput_of key value is also = record { of_unit = named_ordered; texts = (is, also) }

    pub oget_of : (key : Key) → IsOpOf s unit (ops.OGet unit key)
    oget_of key = record { of_unit = named_ordered; texts = tt }

    pub odel_of : (key : Key) → IsOpOf s unit (ops.ODel unit key)
    odel_of key = record { of_unit = named_ordered; texts = tt }

    pub ofloor_of : (key : Key) → IsOpOf s unit (ops.OFloor unit key)
    ofloor_of key = record { of_unit = named_ordered; texts = tt }

    pub orank_of : (key : Key) → IsOpOf s unit (ops.ORank unit key)
    orank_of key = record { of_unit = named_ordered; texts = tt }

    pub orange_of : (from to : Key) (most : ℕ) → (1 ≤ most) × (most ≤ MOST_PAIRS) → IsOpOf s unit (ops.ORange unit from to most)
    orange_of from to most within = record {
      of_unit = ap (λ (b : Bool). unit_aimed s (range_aim b unit)) (may_range most within.0 within.1) ∙ named_ordered;
      texts = tt;
    }

-- ---- the unit of an operation is one of the store's
within_if : (b : Bool) (n : ℕ) (rest : List ℕ) (i u m : ℕ) → n < m → ((j : ℕ) → slice_get rest j ≡ Some u → u < m)
    → slice_get (if b then n ∷ rest else rest) i ≡ Some u → u < m
within_if true n rest zero u m low each e = subst (λ (x : ℕ). x < m) (same_Some n u e) low
within_if true n rest (suc i) u m low each e = each i e
within_if false n rest i u m low each e = each i e

units_within : (n : ℕ) (kind : UnitKind) (ks : List UnitKind) (i u : ℕ) → slice_get (units_from n kind ks) i ≡ Some u → u < n + length ks
units_within n kind [] i u e = absurd (cc)
units_within n kind (k ∷ ks) i u e =
    within_if (same_kind k kind) n (units_from (n + 1) kind ks) i u (n + length (k ∷ ks)) (omega arith)
    (λ j f. let low = units_within (n + 1) kind ks j u f in omega (arith, low)) e

named_by : (b : Bool) (named u : ℕ) → named_if b named ≡ Some u → named ≡ u
named_by true named u e = same_Some named u e
named_by false named u e = absurd (cc)

named_within : (s : Shape) (kind : UnitKind) (named u : ℕ) (k : Option UnitKind) → kind_of s named ≡ k
    → named_if (is_of_kind k kind) named ≡ Some u → u < units_of s
named_within s kind named u None at e = absurd (cc)
named_within s kind named u (Some w) at e =
    subst (λ (x : ℕ). x < units_of s) (named_by (same_kind w kind) named u e) (slice_get_within s.kinds named w at)

key_within : (s : Shape) (key : Key) (unit : ℕ) → unit_of_key s key ≡ Some unit → unit < units_of s
key_within s key unit e =
    let low = units_within 0 kinds.Map s.kinds (key_number (length (map_units s)) key) unit e in omega (arith, low)

aimed_inside : (s : Shape) (unit : ℕ) (aim : Aim) → unit_aimed s aim ≡ Some unit → unit < units_of s
aimed_inside s unit (aims.Key key) e = key_within s key unit e
aimed_inside s unit (aims.Unit kind named) e = named_within s kind named unit (kind_of s named) refl e
aimed_inside s unit aims.Nowhere e = absurd (cc)

pub op_inside : (s : Shape) (unit : ℕ) (op : Op) → unit_of_op s op ≡ Some unit → unit < units_of s
op_inside s unit op e = aimed_inside s unit (aim_of op) e
