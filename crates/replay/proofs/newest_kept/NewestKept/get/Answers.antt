use Rattle.std.proofs.Common.{sym, ◌∙◌}
use Rattle.core_answer.proofs.NewestRecords.{newest_kept}
use Rattle.replay.proofs.newest_kept.NewestKept.get.Goals as goal

pub returns : goal.returns
returns c =
    c.copied.ensures ∙ c.get.ensures.value
    ∙ sym (newest_kept c.args.self.now.records c.len-records.ensures.ordered c.args.self.now.keyed c.args.identity)
