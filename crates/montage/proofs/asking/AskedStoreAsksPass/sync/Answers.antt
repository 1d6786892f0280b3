use Rattle.montage.proofs.ClocksAsked.{keeps_answers}
use Rattle.montage.proofs.asking.AskedStoreAsksPass.sync.Goals as goal

pub returns-clause-keeps : goal.returns-clause-keeps
returns-clause-keeps g c = keeps_answers c.args.pass.now.ticket c.sync.new.pass.ticket c.sync.ensures.seen
