use Rattle.slots.proofs.Seen.{found_in}
use Rattle.slots.proofs.region.Region.find_record.Goals as goal

pub returns : goal.returns
returns c = found_in _ _ c.self.view_is c.requires c.args.slot _ c.find.ensures
