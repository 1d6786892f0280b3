use Rattle.std.proofs.Common.{sym}
use Rattle.slots.proofs.Seen.{ends_is}
use Rattle.slots.proofs.region.Region.ends_version.Goals as goal

pub returns-in-Some : goal.returns-in-Some
returns-in-Some c = ends_is c.args.self.now c.args.change.now c.in-Some.slot _ c.requires.agrees c.requires.named
    (sym c.in-Some.ensures) c.version_at.ensures
