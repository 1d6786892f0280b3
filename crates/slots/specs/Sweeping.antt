-- How a region closes the slots that a crash left open.
use Rattle.std.specs.Prelude.{◌≡◌, ℕ, ◌⊎◌, Bool, true, false, List, [], ◌∷◌, ◌++◌, if◌then◌else◌}
use Rattle.core_steps.specs.declared.parts.UnitPart.{UnitPart}
use Rattle.core_steps.specs.declared.parts.UnitStage.TheVariants.{Idle, Closing}
use Rattle.core_steps.specs.Closing.{IsFirstLost}
use Rattle.heap_rule.specs.declared.views.UnitKnown.{UnitKnown}
use Rattle.heap_rule.specs.Views.{unit_closed, unit_persisted}
use Rattle.slots.specs.Books.{RegionShown}

-- the unit is idle, or a sweep was cut between the two steps that close the first lost slot
abbrev pub IsSweepStage : Bool → UnitPart → Type 0
IsSweepStage false p = p.stage ≡ Idle
IsSweepStage true p = (slot : ℕ) × (p.stage ≡ Closing slot) × IsFirstLost p.lost slot

abbrev pub MaySweep : RegionShown → Type 0
MaySweep r = IsSweepStage r.books.sweeping r.seat.known.part

-- its label is closed
abbrev pub seat_sweeping : RegionShown → ℕ → UnitKnown
seat_sweeping r slot =
    if r.books.sweeping then r.seat.known else unit_closed r.seat.known slot

abbrev pub sweeping_at : RegionShown → ℕ → RegionShown
sweeping_at r slot = record {
  seat = record r.seat { known = seat_sweeping r slot };
  books = record r.books { sweeping = true };
}

-- and then durably so, and the slot goes to the back of the free ones
abbrev pub swept_at : RegionShown → ℕ → List ℕ → RegionShown
swept_at r slot rest = record {
  seat = record r.seat { known = unit_persisted (seat_sweeping r slot) slot };
  books = record r.books {
    free = r.books.free ++ slot ∷ [];
    lost = rest;
    sweeping = false;
  };
}

-- where no slot is lost nothing changes
abbrev pub swept_from : RegionShown → List ℕ → RegionShown
swept_from r [] = r
swept_from r (slot ∷ rest) = swept_at r slot rest

abbrev pub swept : RegionShown → RegionShown
swept r = swept_from r r.books.lost

-- a cut leaves the region as it was, or the first label closed
abbrev pub IsSweeping : RegionShown → RegionShown → List ℕ → Type 0
IsSweeping old new [] = ⊥
IsSweeping old new (slot ∷ rest) = new ≡ sweeping_at old slot

abbrev pub WasCutSweeping : RegionShown → RegionShown → Type 0
WasCutSweeping old new = (new ≡ old) ⊎ IsSweeping old new old.books.lost
