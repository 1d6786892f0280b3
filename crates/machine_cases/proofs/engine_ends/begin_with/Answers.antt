use Rattle.std.proofs.Common.{◌<◌, length, arith, refl}
use Rattle.machine_cases.proofs.EngineEnds.{begins_idle, first_out, of_first, seat_begins}
use Rattle.machine_cases.proofs.engine_ends.begin_with.Goals as goal

pub fresh-requires-2-clause-of_unit : goal.fresh-requires-2-clause-of_unit
fresh-requires-2-clause-of_unit c =
    let whole = c.in_ok-heap.seats.units.ok.0 in
    let removed = c.remove-seat.ensures.len in
    let some : 0 < length c.in_ok-heap.seats.units.items = omega (arith, whole, removed) in
    of_first c.args.layout c.in_ok-heap.heap c.in_ok-heap.seats.units.items c.remove-seat.new.self.items c.remove-seat.result
    c.in_ok-heap.seats.advancer c.in_ok-heap.seats.callers.items c.pop.new.self.items c.in-Some.ticket
    c.in_ok-heap.ensures.opens c.in_ok-heap.ensures.empty
    (first_out c.in_ok-heap.seats.units.items c.remove-seat.new.self.items c.remove-seat.result some c.remove-seat.ensures.value
    c.remove-seat.ensures.items) c.in-Some.ensures.items

pub fresh-requires-2-clause-begins : goal.fresh-requires-2-clause-begins
fresh-requires-2-clause-begins c =
    let whole = c.in_ok-heap.seats.units.ok.0 in
    let removed = c.remove-seat.ensures.len in
    let some : 0 < length c.in_ok-heap.seats.units.items = omega (arith, whole, removed) in
    seat_begins c.args.layout c.in_ok-heap.heap c.in_ok-heap.seats.units.items c.remove-seat.new.self.items c.remove-seat.result
    c.in_ok-heap.seats.advancer c.in_ok-heap.seats.callers.items c.pop.new.self.items c.in-Some.ticket
    c.in_ok-heap.ensures.opens c.in_ok-heap.ensures.empty
    (first_out c.in_ok-heap.seats.units.items c.remove-seat.new.self.items c.remove-seat.result some c.remove-seat.ensures.value
    c.remove-seat.ensures.items) c.in-Some.ensures.items

pub returns : goal.returns
returns c =
    let whole = c.in_ok-heap.seats.units.ok.0 in
    let removed = c.remove-seat.ensures.len in
    let some : 0 < length c.in_ok-heap.seats.units.items = omega (arith, whole, removed) in
    begins_idle c.args.layout c.in_ok-heap.heap c.in_ok-heap.seats.units.items c.remove-seat.new.self.items c.remove-seat.result
    c.in_ok-heap.seats.advancer c.in_ok-heap.seats.callers.items c.pop.new.self.items c.in-Some.ticket
    c.in_ok-heap.ensures.opens c.in_ok-heap.ensures.empty
    (first_out c.in_ok-heap.seats.units.items c.remove-seat.new.self.items c.remove-seat.result some c.remove-seat.ensures.value
    c.remove-seat.ensures.items) c.in-Some.ensures.items
    _ refl c.in_ok-region.ensures.seat c.in_ok-region.ensures.books c.in_ok-region.ensures.agrees refl c.new.ensures
    c.new-2.ensures.ticket
