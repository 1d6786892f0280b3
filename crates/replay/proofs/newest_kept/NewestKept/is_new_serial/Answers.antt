use Rattle.std.proofs.Common.{ℕ, ◌<◌, rules}
use Rattle.core_answer.proofs.NewestRecords.{each_live, all_live}
use Rattle.replay.proofs.newest_kept.NewestKept.is_new_serial.Goals as goal

pub returns-then-contains : goal.returns-then-contains
returns-then-contains c =
    let m = c.args.self.now.records in
    let own = c.args.self.now.keyed in
    let Below : ℕ → Type 0 = λ other. other < c.args.serial in (
      λ t. record {
        some = search rules;
        last = search rules;
        above = each_live m c.len-records.ensures.ordered own Below (c.all_are_below.ensures.0 t);
      },
      λ new. c.all_are_below.ensures.1 (all_live m c.len-records.ensures.ordered own Below new.above),
    )
