use Rattle.std.proofs.Common.{◌≡◌, drop}
use Rattle.std.specs.Prelude.{max}
use Rattle.std.specs.List.{fold}
use Rattle.slots.specs.RegionBeginning.{identities_in}
use Rattle.slots.proofs.finding.greatest_identity.Given as goal

abbrev pub invariant-loop-held : goal.invariant-loop-held
invariant-loop-held l = fold max l.most (identities_in (drop l.held-index l.records)) ≡ fold max 0 (identities_in l.records)
