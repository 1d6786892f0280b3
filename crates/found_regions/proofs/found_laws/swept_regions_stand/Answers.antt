use Rattle.found_regions.proofs.SweptRegions.{swept_regions_stand}
use Rattle.found_regions.proofs.found_laws.swept_regions_stand.Goals as goal

pub returns : goal.returns
returns c = swept_regions_stand
