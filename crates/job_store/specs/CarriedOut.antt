-- What comes of the lines of a caller where no caller is cut.
use Rattle.std.specs.Prelude.{◌≡◌, ℕ, List, length, slice_get, Some}
use Rattle.mont_base.specs.declared.constants.TheConstants.{LAST}
use Rattle.job_text.specs.declared.job.Deed.{Deed}
use Rattle.job_text.specs.declared.job.Deed.TheVariants.{Call, Tick, Sync}
use Rattle.job_text.specs.declared.job.Line.{Line}
use Rattle.job_text.specs.declared.outcome.Outcome.{Outcome}
use Rattle.job_text.specs.declared.outcome.Outcome.TheVariants.{At, Synced, Ticked, ClockEnd, Full, CountEnd}

-- If the image has this clock: a call may find no room, or a number at its end, and a clock that is
-- the last one doesn't move.
abbrev pub EndsCall : ℕ → Outcome → Type 0
EndsCall clock (At unit place) = Unit {0}
EndsCall clock (Full need free durable) = Unit {0}
EndsCall clock (CountEnd which) = Unit {0}
EndsCall clock ClockEnd = clock ≡ LAST
EndsCall clock _ = ⊥

abbrev pub EndsTick : ℕ → Outcome → Type 0
EndsTick clock (Ticked epoch) = Unit {0}
EndsTick clock ClockEnd = clock ≡ LAST
EndsTick clock _ = ⊥

abbrev pub EndsSync : ℕ → Outcome → Type 0
EndsSync clock (Synced epoch) = Unit {0}
EndsSync clock ClockEnd = clock ≡ LAST
EndsSync clock _ = ⊥

abbrev pub IsCarriedOut : ℕ → Deed → Outcome → Type 0
IsCarriedOut clock (Call op) o = EndsCall clock o
IsCarriedOut clock Tick o = EndsTick clock o
IsCarriedOut clock Sync o = EndsSync clock o

-- so ended all lines of a caller
pub record AreCarriedOut (clock : ℕ) (lines : List Line) (outcomes : List Outcome) : Type 0 where
  pub all : length outcomes ≡ length lines
  pub each :
      (i : ℕ) (l : Line) (o : Outcome) → slice_get lines i ≡ Some l
      → slice_get outcomes i ≡ Some o → IsCarriedOut clock l.deed o
