-- What a note has seen of one unit.
use Rattle.std.specs.Prelude.{◌≡◌, ℕ, slice_get, Some}
use Rattle.mont_base.specs.Seen.{FrontFits}
use Rattle.core_steps.specs.declared.parts.UnitPart.{UnitPart}
use Rattle.core_steps.specs.declared.parts.Note.{Note}

-- the note's front of the unit fits its history
abbrev pub FitsUnit : Note → ℕ → UnitPart → Type 0
FitsUnit note u p =
    (front : ℕ) → slice_get note.fronts u ≡ Some front → FrontFits note.newest front p.history
