use Rattle.std.proofs.Common.{◌≡◌, drop}
use Rattle.slots.specs.Rooms.{placed}
use Rattle.slots.proofs.books.place_records.Given as goal

-- the records that are left lead to the same rows
abbrev pub invariant-loop-one : goal.invariant-loop-one
invariant-loop-one l =
    placed l.first l.rows (drop l.one-index l.written) ≡ placed l.first l.initial.rows l.written
