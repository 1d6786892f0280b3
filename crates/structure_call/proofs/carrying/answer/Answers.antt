use Rattle.std.proofs.Common.{[], refl, ap}
use Rattle.mont_base.specs.declared.operation.Receipt.{Receipt}
use Rattle.structure_call.proofs.CarriedOut.{may_read, answered_read, carried_read}
use Rattle.structure_call.proofs.carrying.answer.Goals as goal

pub keep_read-requires-clause-may : goal.keep_read-requires-clause-may
keep_read-requires-clause-may g c = may_read c.args.heap.now c.args.region.now c.args.pass.now.ticket c.args.op.now c.args.reply.now []
    c.requires.ready c.requires.plan c.requires.numbers refl

pub returns-in-Ok-clause-carried : goal.returns-in-Ok-clause-carried
returns-in-Ok-clause-carried g c =
    let heap = c.args.heap.now in
    let old = c.args.region.now in
    let q = c.args.pass.now.ticket in
    let new = c.keep_read.new.region in
    let r = c.keep_read.new.pass.ticket in
    let kept = c.in-Ok.ensures.read in
    let receipt = kept.receipt in
    let read = kept.holds in
    record {
      receipt = receipt;
      kept = kept.kept;
      holds = record {
        answered = answered_read heap old q c.args.op.now c.args.reply.now [] c.requires.ready c.requires.plan c.requires.numbers refl
            new r receipt read;
        replied = ap (λ (x : Receipt). x.entry.reply) read.answered.receipt_is;
        carried = carried_read heap old q c.args.op.now c.args.reply.now [] c.requires.ready c.requires.plan c.requires.numbers refl
            new r receipt read;
      };
    }
