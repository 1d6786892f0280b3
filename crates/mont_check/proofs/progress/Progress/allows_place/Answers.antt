use Rattle.mont_check.proofs.ProgressLaws.{place_allowed}
use Rattle.mont_check.proofs.progress.Progress.allows_place.Goals as goal

pub returns-in-Some : goal.returns-in-Some
returns-in-Some c =
    place_allowed c.args.self.now c.args.place c.in-Some.unit c.in-Some.place c.last_place.result c.is_below.result c.in-Some.is
    c.last_place.ensures c.is_below.ensures
