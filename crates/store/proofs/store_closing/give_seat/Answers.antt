use Rattle.std.proofs.Common.{arith}
use Rattle.store.proofs.SeatsTaken.{is_inside, as_many, one_taken}
use Rattle.store.proofs.store_closing.give_seat.Goals as goal

pub push_reserved-requires : goal.push_reserved-requires
push_reserved-requires g c =
    let heap = g.N.HeapName.heap in
    let inside = is_inside heap g.row.UNIT c.in-Some.structure.value c.in-Some.ensures in
    let many = as_many heap g.row.UNIT c.args.seats.now.items c.requires.seats inside in
    omega (arith, inside, many)

pub returns-in-Some-clause-seats : goal.returns-in-Some-clause-seats
returns-in-Some-clause-seats g c =
    rw (c.push_reserved.ensures.items, c.into_seat.ensures, c.into_region.ensures, c.into_inner-structure.ensures)
    (one_taken g.N.HeapName.heap g.row.UNIT c.args.seats.now.items c.requires.seats c.in-Some.structure.value c.in-Some.ensures)
