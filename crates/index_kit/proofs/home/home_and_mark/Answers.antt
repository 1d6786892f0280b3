use Rattle.std.proofs.Common.{rules}
use Rattle.index_kit.specs.Home.{home_of, mark_of}
use Rattle.index_kit.proofs.home.home_and_mark.Goals as goal

pub returns-clause-home : goal.returns-clause-home
unfolding home_of
returns-clause-home c = search rules

pub returns-clause-mark : goal.returns-clause-mark
unfolding mark_of
returns-clause-mark c = search rules
