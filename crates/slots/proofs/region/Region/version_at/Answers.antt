use Rattle.std.proofs.Common.{ap}
use Rattle.slots.specs.WrittenRecords.{version_in}
use Rattle.slots.proofs.Seen.{found_in}
use Rattle.slots.proofs.region.Region.version_at.Goals as goal

pub returns-in-Some : goal.returns-in-Some
returns-in-Some c = ap version_in (found_in _ _ c.self.view_is c.requires c.args.slot _ c.in-Some.ensures)

pub returns-in-None : goal.returns-in-None
returns-in-None c = ap version_in (found_in _ _ c.self.view_is c.requires c.args.slot _ c.in-None.ensures)
