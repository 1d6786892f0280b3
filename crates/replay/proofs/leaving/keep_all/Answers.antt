use Rattle.std.proofs.Common.{get_or, sym, ap, ◌∙◌}
use Rattle.std.specs.Prelude.{Option}
use Rattle.mont_base.specs.declared.record.Held.{Held}
use Rattle.mont_base.specs.Versions.{later_of, only_of}
use Rattle.core_answer.proofs.NewestRecords.{no_record}
use Rattle.replay.proofs.NewestBehind.{newest_behind}
use Rattle.replay.proofs.leaving.keep_all.Goals as goal

pub loop-held-preserved : goal.loop-held-preserved
loop-held-preserved c =
    λ records same q.
    let more = newest_behind q records c.args.written.now c.loop-held.held-index no_record c.loop-held-test.true in
    c.in_ok-keep.ensures q
    ∙ ap (λ (o : Option Held). later_of o (only_of q (get_or c.args.written.now c.loop-held.held-index no_record)))
    (c.loop-held.invariant records same q)
    ∙ sym more
