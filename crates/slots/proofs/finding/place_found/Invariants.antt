use Rattle.std.proofs.Common.{◌≡◌, [], drop, map}
use Rattle.slots.specs.Books.{as_written}
use Rattle.slots.specs.Rooms.{placed}
use Rattle.slots.proofs.finding.place_found.Given as goal

-- the records that are left lead to the same rows
abbrev pub invariant-loop-held : goal.invariant-loop-held
invariant-loop-held l =
    placed l.first l.rows (map (as_written []) (drop l.held-index l.records))
    ≡ placed l.first l.initial.rows (map (as_written []) l.records)
