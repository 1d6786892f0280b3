use Rattle.std.proofs.Common.{sym, subst}
use Rattle.core_steps.specs.Places.{EachAt}
use Rattle.found_regions.specs.FoundRegion.{IsRegionFound}
use Rattle.recover.proofs.clean_notes.carry_notes.Goals as goal

pub show_all-requires-clause-found : goal.show_all-requires-clause-found
show_all-requires-clause-found c = subst (EachAt (IsRegionFound c.args.heap.now)) (sym c.hear_all.ensures.regions) c.requires.found
