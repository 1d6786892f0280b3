-- What stands behind the lock of a unit.
use Rattle.std.specs.Prelude.{◌≡◌, ℕ, ◌<◌, ◌≤◌, true, length, Option, Some, None, Box}
use Rattle.std.specs.Coded.{Coded-set, coded_ℕ, coded_bool, coded_option}
use Rattle.std.proofs.Props.{props}
use Rattle.mont_base.specs.declared.kinds.UnitKind.{UnitKind}
use Rattle.mont_base.specs.declared.kinds.UnitKind.TheVariants as kinds
use Rattle.mont_base.specs.declared.operation.Op.{Op}
use Rattle.mont_base.specs.declared.operation.Op.TheVariants as ops
use Rattle.mont_base.specs.State.{Run}
use Rattle.pordered.specs.OrderedRuns.{HasRun}
use Rattle.mont_base.specs.Layout.{is_of_kind, kind_of, units_of}
use Rattle.heap.specs.HeapShown.{HeapShown}
use Rattle.slots.specs.Books.{RegionShown}
use Rattle.structure_call.specs.CountedNumbers.{HasCounted, counted_once}
use Rattle.structure_call.specs.Standing.{IsStanding, standing_once}
use Rattle.store.specs.declared.unit_structure.Structure.{Structure}
use Rattle.store.specs.declared.unit_structure.Structure.TheVariants.{Map, Queue, Graph, Ordered}

abbrev pub region_of : {I : Type 0} → Structure I → RegionShown
region_of (Map unit) = unit.region
region_of (Queue unit) = unit.region
region_of (Graph unit) = unit.region
region_of (Ordered unit) = unit.region

-- the kind of unit that it is a structure of
abbrev pub structure_kind : {I : Type 0} → Structure I → UnitKind
structure_kind (Map unit) = kinds.Map
structure_kind (Queue unit) = kinds.Queue
structure_kind (Graph unit) = kinds.Graph
structure_kind (Ordered unit) = kinds.Ordered

-- A region's books are those of the unit that its seat shows, a unit of the layout: they tell who
-- was cut in it, and how many entries it has.
pub record IsSeated (r : RegionShown) : Type 0 where
  pub of_seat : r.books.unit ≡ r.seat.known.unit
  pub inside : r.books.unit < units_of r.books.layout
  pub halted : r.books.halted ≡ r.seat.known.part.frozen
  pub places : r.books.places ≡ length r.seat.known.part.history

-- A structure of the heap's unit of this number, and of its kind, which stands as between two
-- calls, and has counted the numbers that it gave.
pub record StandsAt {I : Type 0} (heap : HeapShown) (number : ℕ) (s : Structure I) : Type 0 where
  pub of_unit : (region_of s).books.unit ≡ number
  pub kind : is_of_kind (kind_of heap.opening.layout number) (structure_kind s) ≡ true
  pub seated : IsSeated (region_of s)
  pub stands : IsStanding heap (region_of s)
  pub counted : HasCounted heap (region_of s)

-- The structure of the heap's unit of this number; nothing where the heap has no such unit.
abbrev pub FitsNumber : {I Z : Type 0} → HeapShown → ℕ → Option (Box (Structure I) Z) → Type 0
FitsNumber heap number None = units_of heap.opening.layout ≤ number
FitsNumber heap number (Some b) = StandsAt heap number b.value

-- the pairs are the run of a range on the map that the records show
abbrev pub HasRunOf : RegionShown → Op → Run → Type 0
HasRunOf r (ops.ORange unit from to most) run = HasRun r from to most run
HasRunOf r _ run = ⊥

-- ---- each of these has one proof at most
pub StandsAt-prop : {I : Type 0} (heap : HeapShown) (number : ℕ) (s : Structure I)
    → IsProp (StandsAt heap number s)
StandsAt-prop heap number s =
    hlevel (
      props,
      standing_once,
      counted_once,
      Coded-set coded_ℕ,
      Coded-set coded_bool,
      Coded-set (coded_option coded_ℕ),
    )

pub FitsNumber-prop :
    {I Z : Type 0} (heap : HeapShown) (number : ℕ) (s : Option (Box (Structure I) Z))
    → IsProp (FitsNumber heap number s)
FitsNumber-prop heap number None = hlevel props
FitsNumber-prop heap number (Some b) = StandsAt-prop heap number b.value
