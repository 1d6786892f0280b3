use Rattle.std.proofs.Common.{◌≡◌, drop}
use Rattle.std.specs.Prelude.{max}
use Rattle.std.specs.List.{fold}
use Rattle.slots.specs.Finding.{serials_left}
use Rattle.slots.proofs.finding.greatest_serial.Given as goal

abbrev pub invariant-loop-held : goal.invariant-loop-held
invariant-loop-held l =
    fold max l.most (serials_left l.first l.marks (drop l.held-index l.records)) ≡ fold max 0 (serials_left l.first l.marks l.records)
