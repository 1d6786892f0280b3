use Rattle.std.proofs.Common.{refl, sym, ◌∙◌, arith}
use Rattle.index_kit.specs.Table.{seats_of}
use Rattle.index_kit.proofs.Seated.{length-seats, own_seat, get_number, gap_absent}
use Rattle.index_kit.proofs.Walk.{walk_home, seated}
use Rattle.index_kit.proofs.table.number_of.Goals as goal

pub returns-then-holds_own : goal.returns-then-holds_own
returns-then-holds_own c =
    let seats = seats_of c.args.entries.now c.args.cells.now in
    let size = c.len.ensures ∙ sym (length-seats c.args.entries.now c.args.cells.now) in
    let walk = walk_home seats c.args.key _ _ c.home_and_mark-at.ensures.home size c.requires.room in
    let seat = seated seats c.args.key _ walk _ refl (own_seat _ _ c.if-holds_own.ensures.own) c.requires.table in
    get_number c.args.entries.now c.args.cells.now c.requires.marked c.requires.table _ _ seat _ c.number.ensures

pub returns-then-has_gap : goal.returns-then-has_gap
returns-then-has_gap c =
    let seats = seats_of c.args.entries.now c.args.cells.now in
    let size = c.len.ensures ∙ sym (length-seats c.args.entries.now c.args.cells.now) in
    let walk = walk_home seats c.args.key _ _ c.home_and_mark-at.ensures.home size c.requires.room in
    gap_absent _ _ c.requires.marked c.requires.table _ _ walk c.if-holds_own.ensures.another (omega
    (arith, c.len-2.ensures)) (c.if-has_gap.ensures.0 refl)

pub returns : goal.returns
returns c = get_number c.args.entries.now c.args.cells.now c.requires.marked c.requires.table _ _ c.seat.ensures _ c.number-2.ensures
