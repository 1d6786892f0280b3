use Rattle.std.proofs.Common.{arith}
use Rattle.slots.proofs.Recoverings.{serials_on}
use Rattle.slots.proofs.finding.greatest_serial.Goals as goal

pub loop-held-preserved : goal.loop-held-preserved
loop-held-preserved c =
    serials_on c.args.first c.args.marks.now c.args.records.now c.loop-held.held-index _ c.loop-held.most _ _ _
    (omega (arith, c.loop-held-test.true)) c.or_greater-most.ensures c.has_mark.ensures c.loop-held.invariant
