use Rattle.std.proofs.Common.{◌≡◌, ℕ, Some}
use Rattle.std.specs.Prelude.{slice_get}
use Rattle.mont_base.specs.Seen.{FrontFits}
use Rattle.plain.proofs.Each.{EachBelow}
use Rattle.plain.proofs.callers.fits_histories.Given as goal

-- the fronts so far fit
abbrev pub invariant-loop-unit : goal.invariant-loop-unit
invariant-loop-unit l =
    EachBelow (λ unit h. (front : ℕ) → slice_get l.fronts unit ≡ Some front → FrontFits l.view.newest front h) l.histories l.unit
