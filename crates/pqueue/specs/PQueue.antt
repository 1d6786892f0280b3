-- A queue of a store as contracts see it, and what always stands of it.
use Rattle.std.specs.Prelude.{◌≡◌, ℕ, List, Some, None}
use Rattle.mont_base.specs.declared.kinds.UnitKind.TheVariants as unit_kinds
use Rattle.mont_base.specs.declared.operation.Op.{Op}
use Rattle.mont_base.specs.declared.operation.Op.TheVariants as ops
use Rattle.mont_base.specs.Layout.{kind_of}
use Rattle.mont_laws.specs.Records.{live_of}
use Rattle.slots.specs.Books.{RegionShown, Agrees}
use Rattle.pqueue.specs.declared.queued.Queued.{Queued}
use Rattle.pqueue.specs.Queued.{AreLiveItems}

-- the region of the unit, and the items in their order
pub record PQueueShown : Type 0 where
  pub region : RegionShown
  pub items : List Queued

-- a region of a queue
abbrev pub IsOfQueue : RegionShown → Type 0
IsOfQueue r = kind_of r.books.layout r.books.unit ≡ Some unit_kinds.Queue

-- nothing is live
abbrev pub HasNoneLive : RegionShown → Type 0
HasNoneLive r = (identity : ℕ) → live_of identity r.seat.known.part.records ≡ None

-- Unless a caller was cut in the unit, the items are those that are live.
abbrev pub HoldsItems : RegionShown → List Queued → Type 0
HoldsItems r items = r.books.halted ≡ None → AreLiveItems r.seat.known.part.records items

pub record IsQueueUnit (r : RegionShown) (items : List Queued) : Type 0 where
  pub agrees : Agrees r
  pub of_queue : IsOfQueue r
  pub holds : HoldsItems r items

-- how many serials an operation takes
abbrev pub serials_taken : Op → ℕ
serials_taken (ops.Enq unit item) = 1
serials_taken _ = 0
