use Rattle.found_regions.proofs.FoundRegions.{regions_are_found}
use Rattle.found_regions.proofs.found_laws.regions_are_found.Goals as goal

pub returns : goal.returns
returns c = regions_are_found
