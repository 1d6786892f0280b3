-- The first places that later outcomes name, after each outcome of a caller.
use Rattle.std.specs.Prelude.{◌≡◌, ℕ, ◌+◌, min, List, length, drop, slice_get, Option, Some}
use Rattle.std.specs.Ordering.{nat_cmp}
use Rattle.std.specs.BTreeMap as tree
use Rattle.mont_base.specs.Layout.{Shape}
use Rattle.mont_base.specs.State.{unit_of_op}
use Rattle.job_text.specs.declared.job.Deed.{Deed}
use Rattle.job_text.specs.declared.job.Deed.TheVariants.{Call, Tick, Sync}
use Rattle.job_text.specs.declared.job.Line.{Line}
use Rattle.job_text.specs.declared.outcome.Outcome.{Outcome}
use Rattle.mont_check.specs.Bounds.{joined, least}
use Rattle.mont_check.specs.Moments.{IsAheadOf}
use Rattle.mont_check.specs.Shown.{only_in, place_in}

-- there is one for each outcome: the first place that those after it name in its line's unit
pub record AreAhead (s : Shape) (lines : List Line) (outcomes : List Outcome)
    (ahead : List (Option ℕ)) : Type 0 where
  pub as_many : length ahead ≡ length outcomes
  pub each :
      (i : ℕ) (l : Line) (a : Option ℕ) → slice_get lines i ≡ Some l → slice_get ahead i ≡ Some a
      → IsAheadOf s (drop (i + 1) outcomes) l.deed a

-- the first places of these outcomes are known, unit by unit
abbrev pub KnowsFirst : List Outcome → tree.BTreeMap ℕ ℕ → Type 0
KnowsFirst outcomes first =
    (unit : ℕ) → tree.get nat_cmp first unit ≡ least (place_in unit) outcomes

-- what is known in the unit of an operation
abbrev pub IsKnownAhead : Shape → tree.BTreeMap ℕ ℕ → Deed → Option ℕ → Type 0
IsKnownAhead s first (Call op) ahead =
    (unit : ℕ) → unit_of_op s op ≡ Some unit → ahead ≡ tree.get nat_cmp first unit
IsKnownAhead s first Tick ahead = Unit {0}
IsKnownAhead s first Sync ahead = Unit {0}

-- a place is known of its unit, unless an earlier one is
abbrev pub LowersPlace :
    Option (ℕ × ℕ) → tree.BTreeMap ℕ ℕ → tree.BTreeMap ℕ ℕ → Type 0
LowersPlace named old new =
    (unit : ℕ)
    → tree.get nat_cmp new unit ≡ joined min (tree.get nat_cmp old unit) (only_in unit named)
