-- What a store promises when its words alone are taken: all that it promises when it is stopped, of
-- the histories that its callers' tickets tell, which are kept in no memory.
use Rattle.std.specs.Prelude.{◌≡◌, ℕ, List, length, map}
use Rattle.mont_base.specs.declared.memory.Words.{Words}
use Rattle.mont_base.specs.declared.operation.Entry.{Entry}
use Rattle.mont_base.specs.declared.operation.Receipt.{Receipt}
use Rattle.mont_base.specs.Layout.{Shape, units_of}
use Rattle.plain.specs.declared.contents.Contents.{Contents}
use Rattle.plain.specs.States.{states_of}
use Rattle.core_steps.specs.CallerClauses.{receipts_of}
use Rattle.heap_rule.specs.declared.rule.Opening.{Opening}
use Rattle.heap.specs.HeapShown.{CallerShown}
use Rattle.store_stop.specs.Headline.{IsBaseOf, IsStopped, parts_shown}
use Rattle.store_stop.specs.ToldHistories.{TellAll}

-- Of so many units these receipts tell these histories, and no others.
pub record AreToldOnly
    (receipts : List (List Receipt)) (units : ℕ) (histories : List (List Entry)) : Type 0 where
  pub units_are : length histories ≡ units
  pub tell : TellAll receipts histories
  pub no_others :
      (others : List (List Entry)) → length others ≡ units → TellAll receipts others
      → others ≡ histories

-- The store was opened with this layout, clock and contents, and its callers' tickets showed this
-- when it was closed. The receipts that they counted tell its histories, also those that no pass
-- had any more; with these it is a stopped store.
pub record IsClosed
    (s : Shape) (clock : ℕ) (base : Contents) (callers : List CallerShown) (words : Words)
    : Type 0 where
  pub histories : List (List Entry)
  pub told : AreToldOnly (map receipts_of (parts_shown callers)) (units_of s) histories
  pub stopped : IsStopped s clock base callers
      (record { words = words; base_clock = clock; base = base; histories = histories })

-- whatever clock and contents a heap has opened with
abbrev pub IsClosedOn : Opening → List CallerShown → Words → Type 0
IsClosedOn o callers words =
    (clock : ℕ) (base : Contents) → IsBaseOf o clock (states_of base)
    → IsClosed o.layout clock base callers words
