-- A region lends its seat.
use Rattle.std.specs.Borrow.{Lends, MutBor, Fml}
use Rattle.heap.specs.HeapShown.{UnitShown}
use Rattle.heap.specs.contracts.seats.UnitSeat.{the_row as seat_row}
use Rattle.slots.specs.Books.{RegionShown}
use Rattle.slots.specs.contracts.region.Region.{the_row}

abbrev pub with_seat : RegionShown → UnitShown → RegionShown
with_seat r seat = record r { seat = seat }

-- what the borrower leaves is the region's seat, and the books stay
abbrev pub LendsSeat : MutBor RegionShown → MutBor UnitShown → Fml
LendsSeat r seat = Lends the_row seat_row r seat (with_seat r.now)
