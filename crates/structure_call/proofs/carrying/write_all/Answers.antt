use Rattle.std.proofs.Common.{rules}
use Rattle.structure_call.proofs.WrittenChanges.{next_written}
use Rattle.structure_call.proofs.carrying.write_all.Goals as goal

pub loop-one-preserved : goal.loop-one-preserved
loop-one-preserved g c = record {
  gate = search rules;
  receipts = search rules;
  written =
      next_written c.args.heap.now c.args.region.now c.args.guard c.args.changes.now c.loop-one.region c.change.new.region
      c.loop-one.guard c.change.new.guard c.loop-one.slot c.loop-one.one-index c.in-Ok.written _ c.loop-one-test.true
      c.loop-one.invariant.written c.in-Ok.ensures.changed;
  caller = search rules;
}
