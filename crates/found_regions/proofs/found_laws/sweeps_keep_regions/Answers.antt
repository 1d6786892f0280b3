use Rattle.found_regions.proofs.FoundRegions.{sweeps_keep_regions}
use Rattle.found_regions.proofs.found_laws.sweeps_keep_regions.Goals as goal

pub returns : goal.returns
returns c = sweeps_keep_regions
