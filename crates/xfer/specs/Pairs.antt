-- An operation under way in two units, as one of each, and what a cut makes of both.
use Rattle.std.specs.Prelude.{◌≡◌, ℕ, zero, suc, ◌-◌, min}
use Rattle.heap.specs.HeapShown.{HeapShown, CallerShown}
use Rattle.slots.specs.Books.{RegionShown}
use Rattle.op_guard.specs.declared.guard.Guard.{Guard}
use Rattle.op_guard.specs.Regions.{IsUnderWay, WasHalted}
use Rattle.xfer.specs.declared.pair_guard.PairGuard.{PairGuard}

-- ---- an operation of two units is one of each, which needs one slot there
abbrev pub half_of : ℕ → ℕ → ℕ → ℕ → Guard
half_of unit by epoch written =
    record { unit = unit; by = by; epoch = epoch; need = 1; written = written }

-- of the two records the lower unit's is written first
abbrev pub low_half : PairGuard → Guard
low_half g = half_of g.low g.by g.epoch (min g.written 1)

abbrev pub high_half : PairGuard → Guard
high_half g = half_of g.high g.by g.epoch (g.written - 1)

pub record IsPairUnderWay (heap : HeapShown) (g : PairGuard) (low high : RegionShown)
    : Type 0 where
  pub lower : IsUnderWay heap (low_half g) low
  pub higher : IsUnderWay heap (high_half g) high

-- the unit whose record is written next, after so many records
abbrev pub unit_behind : ℕ → ℕ → ℕ → ℕ
unit_behind low high zero = low
unit_behind low high (suc written) = high

abbrev pub unit_at_hand : PairGuard → ℕ
unit_at_hand g = unit_behind g.low g.high g.written

-- ---- cut
-- The caller was cut in the one unit, and the other was halted after that.
pub record WereHalted
    (heap : HeapShown) (one one_now other other_now : RegionShown) (q r : CallerShown)
    : Type 0 where
  pub between : CallerShown
  pub first : WasHalted heap one one_now q between
  pub second : WasHalted heap other other_now between r

-- it was cut in the higher unit where the lower one's record was written
abbrev pub WereCutBehind :
    HeapShown → ℕ → RegionShown → RegionShown → RegionShown → RegionShown → CallerShown
    → CallerShown → Type 0
WereCutBehind heap zero low low_now high high_now q r =
    WereHalted heap low low_now high high_now q r
WereCutBehind heap (suc written) low low_now high high_now q r =
    WereHalted heap high high_now low low_now q r
