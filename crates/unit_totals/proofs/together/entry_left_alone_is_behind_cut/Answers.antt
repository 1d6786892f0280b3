use Rattle.unit_totals.proofs.Standing.{entry_left_alone_is_behind_cut}
use Rattle.unit_totals.proofs.together.entry_left_alone_is_behind_cut.Goals as goal

pub returns : goal.returns
returns c = entry_left_alone_is_behind_cut
