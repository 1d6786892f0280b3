use Rattle.std.proofs.Common.{ℕ, ◌≤◌}
use Rattle.core_answer.proofs.NewestRecords.{each_live, all_live}
use Rattle.replay.proofs.newest_kept.NewestKept.is_least_serial.Goals as goal

pub returns : goal.returns
returns c =
    let m = c.args.self.now.records in
    let own = c.args.self.now.keyed in
    let From : ℕ → Type 0 = λ other. c.args.serial ≤ other in (
      λ t. each_live m c.len-records.ensures.ordered own From (c.all_are_from.ensures.0 t),
      λ least. c.all_are_from.ensures.1 (all_live m c.len-records.ensures.ordered own From least),
    )
