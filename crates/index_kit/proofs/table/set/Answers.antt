use Rattle.index_kit.proofs.Seated.{key_read, marked_set, table_set, numbers_set}
use Rattle.index_kit.proofs.table.set.Goals as goal

pub returns-clause-marked : goal.returns-clause-marked
returns-clause-marked c =
    let key = key_read c.args.entries.now c.args.number c.index-entries-number.result c.requires.within in
    let seat = rw (← key) at c.seat_and_mark-at.ensures.seat in
    rw c.fill.ensures (marked_set _ _ c.requires.marked c.requires.table _ _ c.requires.within seat _
    (rw (← key) at c.seat_and_mark-at.ensures.mark))

pub returns-clause-table : goal.returns-clause-table
returns-clause-table c =
    let key = key_read c.args.entries.now c.args.number c.index-entries-number.result c.requires.within in
    let seat = rw (← key) at c.seat_and_mark-at.ensures.seat in
    rw c.fill.ensures (table_set _ _ c.requires.marked c.requires.table _ _ c.requires.within seat _
    (rw (← key) at c.seat_and_mark-at.ensures.mark))

pub returns-clause-numbered : goal.returns-clause-numbered
returns-clause-numbered c =
    let key = key_read c.args.entries.now c.args.number c.index-entries-number.result c.requires.within in
    let seat = rw (← key) at c.seat_and_mark-at.ensures.seat in
    rw c.fill.ensures (numbers_set _ _ c.requires.marked c.requires.table _ _ c.requires.within seat _
    (rw (← key) at c.seat_and_mark-at.ensures.mark))
