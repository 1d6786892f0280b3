use Rattle.heap.proofs.AllSeats.{opened_are_all, opened_at_home}
use Rattle.machine_cases.proofs.reopened.reopened.Goals as goal

pub stop-requires-clause-seats : goal.stop-requires-clause-seats
stop-requires-clause-seats c =
    opened_are_all (record { layout = c.args.layout; words = c.args.image.now; callers = 2 }) c.in_ok-heap.heap
    c.in_ok-heap.seats.units.items c.in_ok-heap.seats.advancer c.in_ok-heap.seats.callers.items c.in_ok-heap.ensures

pub stop-requires-clause-home : goal.stop-requires-clause-home
stop-requires-clause-home c =
    opened_at_home (record { layout = c.args.layout; words = c.args.image.now; callers = 2 }) c.in_ok-heap.heap
    c.in_ok-heap.seats.units.items c.in_ok-heap.seats.advancer c.in_ok-heap.seats.callers.items c.in_ok-heap.ensures
