-- The fields of each seat, and what they have to do with its view.
use Rattle.heap.specs.declared.seats.UnitSeat.TheInside as units
use Rattle.heap.specs.declared.seats.AdvSeat.TheInside as advancers
use Rattle.heap.specs.declared.seats.Ticket.TheInside as callers
use Rattle.heap.specs.HeapShown.{IsUnit, IsAdvancer, IsCaller}

abbrev pub IsUnitSeat : units.Inside → Type 0
IsUnitSeat s =
    IsUnit s.seat.table_id s.unit s.epoch s.entries s.newest s.durable s.seat.me

abbrev pub IsAdvSeat : advancers.Inside → Type 0
IsAdvSeat s = IsAdvancer s.seat.table_id s.part s.clock s.durable s.emptied s.seat.me

abbrev pub IsTicket : callers.Inside → Type 0
IsTicket s = IsCaller s.seat.table_id s.number
    (record { calls = s.calls; newest = s.newest; durable = s.durable }) s.fronts s.synced s.seat.me
