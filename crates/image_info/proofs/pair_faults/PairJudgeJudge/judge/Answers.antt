use Rattle.std.proofs.Common.{sym}
use Rattle.mont_base.specs.Structure.{pair_at}
use Rattle.plain.proofs.Maps.{keys_total}
use Rattle.image_info.proofs.Names.{named}
use Rattle.image_info.proofs.pair_faults.PairJudgeJudge.judge.Goals as goal

pub returns-then-not-keeps-clause-known : goal.returns-then-not-keeps-clause-known
returns-then-not-keeps-clause-known c lower h = named keys_total pair_at _ _ lower c.args.object.now _ _ _ h
    (sym c.in-Some.ensures.exact) c.in_ok-insert.ensures.updates.0

pub returns-clause-known : goal.returns-clause-known
returns-clause-known c lower h = named keys_total pair_at _ _ lower c.args.object.now _ _ _ h
    (sym c.in-Some.ensures.exact) c.in_ok-insert.ensures.updates.0
