use Rattle.montage.proofs.ClocksAsked.{tick_keeps}
use Rattle.montage.proofs.asking.AskedStoreAsksPass.tick.Goals as goal

pub returns-clause-keeps : goal.returns-clause-keeps
returns-clause-keeps g c =
    tick_keeps g.N.HeapName.heap c.args.pass.now.ticket c.tick.new.pass.ticket c.tick.result c.tick.ensures.ticked
