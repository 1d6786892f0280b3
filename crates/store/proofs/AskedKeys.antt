-- Which kind of unit is asked what wants the order of keys: no map unit.
use Rattle.std.proofs.Common.{◌≡◌, ℕ, List, Bool, true, false, refl, sym, ap, ◌∙◌}
use Rattle.std.specs.Prelude.{Option, Some}
use Rattle.std.proofs.lemmas.Option.{same_Some}
use Rattle.mont_base.specs.declared.kinds.UnitKind.{UnitKind}
use Rattle.mont_base.specs.declared.kinds.UnitKind.TheVariants as kinds
use Rattle.mont_base.specs.declared.operation.Op.{Op}
use Rattle.mont_base.specs.declared.operation.Op.TheVariants as ops
use Rattle.mont_base.specs.Layout.{Shape, kind_of, is_of_kind, named_if, unit_named}
use Rattle.mont_base.specs.State.{can_range, range_aim, unit_aimed, unit_of_op}
use Rattle.mont_laws.proofs.SameKind.{of_one_kind}
use Rattle.shard_map.specs.MapCall.{AsksKey}
use Rattle.store.specs.StoreCalls.{IsRange}

-- a unit of a kind is of it
pub is_its_kind : (o : Option UnitKind) (kind : UnitKind) → o ≡ Some kind → is_of_kind o kind ≡ true
is_its_kind o kinds.Map e = ap (λ (k : Option UnitKind). is_of_kind k kinds.Map) e
is_its_kind o kinds.Queue e = ap (λ (k : Option UnitKind). is_of_kind k kinds.Queue) e
is_its_kind o kinds.Graph e = ap (λ (k : Option UnitKind). is_of_kind k kinds.Graph) e
is_its_kind o kinds.Ordered e = ap (λ (k : Option UnitKind). is_of_kind k kinds.Ordered) e

module _ (s : Shape) where
  -- the unit that is named as an ordered one is one
  ordered_named : (named unit : ℕ) → unit_named s kinds.Ordered named ≡ Some unit → kind_of s unit ≡ Some kinds.Ordered
  ordered_named named unit e = by (is_of_kind (kind_of s named) kinds.Ordered) refl e
    where
      by : (b : Bool) → is_of_kind (kind_of s named) kinds.Ordered ≡ b → named_if b named ≡ Some unit
          → kind_of s unit ≡ Some kinds.Ordered
      by true is f = ap (kind_of s) (sym (same_Some named unit f)) ∙ of_one_kind (kind_of s named) kinds.Ordered is
      by false is f = absurd (cc)

  ordered_ranged : (b : Bool) (named unit : ℕ) → unit_aimed s (range_aim b named) ≡ Some unit → kind_of s unit ≡ Some kinds.Ordered
  ordered_ranged true named unit e = ordered_named named unit e
  ordered_ranged false named unit e = absurd (cc)

  -- the unit of a range is an ordered one
  pub range_unit : (named unit most : ℕ) (from to : List ℕ) → unit_of_op s (ops.ORange named from to most) ≡ Some unit
      → kind_of s unit ≡ Some kinds.Ordered
  range_unit named unit most from to e = ordered_ranged (can_range most) named unit e

  module _ (unit : ℕ) (kind : UnitKind) (is : is_of_kind (kind_of s unit) kind ≡ true) where
    pub its_kind : (other : UnitKind) → kind_of s unit ≡ Some other → kind ≡ other
    its_kind other e = same_Some kind other (sym (of_one_kind (kind_of s unit) kind is) ∙ e)

  -- so is the structure that is asked for one
  module _ (unit : ℕ) (kind : UnitKind) (is : is_of_kind (kind_of s unit) kind ≡ true) where
    pub range_kind : (op : Op) → unit_of_op s op ≡ Some unit → IsRange op → kind ≡ kinds.Ordered
    range_kind (ops.ORange named from to most) e range =
        its_kind unit kind is kinds.Ordered (ordered_ranged (can_range most) named unit e)
    range_kind _ e range = absurd range

  -- an operation of a map unit doesn't ask for the order of keys
  module _ (unit : ℕ) (map : is_of_kind (kind_of s unit) kinds.Map ≡ true) where
    none_ordered : kind_of s unit ≡ Some kinds.Ordered → ⊥
    none_ordered e = let same = its_kind unit kinds.Map map kinds.Ordered e in absurd (cc)

    pub asks_key : (op : Op) → unit_of_op s op ≡ Some unit → AsksKey op
    asks_key (ops.OFloor named key) e = none_ordered (ordered_named named unit e)
    asks_key (ops.ORank named key) e = none_ordered (ordered_named named unit e)
    asks_key (ops.ORange named from to most) e = none_ordered (ordered_ranged (can_range most) named unit e)
    asks_key _ e = tt
