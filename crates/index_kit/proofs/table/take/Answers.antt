use Rattle.std.proofs.Common.{sym, ap, ◌∙◌, arith}
use Rattle.index_kit.specs.Table.{seats_of, numbers_in}
use Rattle.index_kit.proofs.SortedEntries.{remove_absent}
use Rattle.index_kit.proofs.Seated.{length-seats, marked_cleared, get_number, hole_left, numbers_taken}
use Rattle.index_kit.proofs.table.take.Goals as goal

pub returns-in_err-number-clause-earlier : goal.returns-in_err-number-clause-earlier
returns-in_err-number-clause-earlier c =
    c.from_residual.ensures
    ∙ get_number c.args.entries.now c.args.cells.now c.requires.marked c.requires.table _ _ c.seat-at.ensures _ (sym c.in_err-number.was
    ∙ c.number.ensures)

pub returns-in_err-number-clause-taken : goal.returns-in_err-number-clause-taken
returns-in_err-number-clause-taken c =
    let none = get_number c.args.entries.now c.args.cells.now c.requires.marked c.requires.table _ _ c.seat-at.ensures _
    (sym c.in_err-number.was ∙ c.number.ensures) in
    sym (remove_absent _ c.args.key (sym none))

pub close-requires-clause-marked : goal.close-requires-clause-marked
close-requires-clause-marked c =
    rw c.clear.ensures (marked_cleared c.args.entries.now c.args.cells.now c.requires.marked _
    (omega (arith, c.seat-at.ensures.within, length-seats c.args.entries.now c.args.cells.now)))

pub close-requires-clause-table : goal.close-requires-clause-table
close-requires-clause-table c =
    rw c.clear.ensures (hole_left c.args.entries.now c.args.cells.now c.requires.marked c.requires.table _ _ c.seat-at.ensures _
    (sym c.in_ok-number.was ∙ c.number.ensures) c.requires.room)

pub returns-clause-earlier : goal.returns-clause-earlier
returns-clause-earlier c =
    get_number c.args.entries.now c.args.cells.now c.requires.marked c.requires.table _ _ c.seat-at.ensures _ (sym c.in_ok-number.was
    ∙ c.number.ensures)

pub returns-clause-taken : goal.returns-clause-taken
returns-clause-taken c =
    numbers_taken c.args.entries.now c.args.cells.now c.requires.marked c.requires.table _ _ c.seat-at.ensures _
    (c.close.ensures.same ∙ ap (λ cells. numbers_in (seats_of c.args.entries.now cells)) c.clear.ensures)
