use Rattle.std.proofs.Common.{◌≡◌, drop}
use Rattle.std.specs.List.{list_any}
use Rattle.slots.specs.WrittenRecords.{ends_version}
use Rattle.slots.proofs.region.Region.any_ends.Given as goal

-- the changes that are left decide
abbrev pub invariant-loop-change : goal.invariant-loop-change
invariant-loop-change l =
    list_any (ends_version l.self.seat.known.part.records) l.changes
    ≡ list_any (ends_version l.self.seat.known.part.records) (drop l.change-index l.changes)
