use Rattle.std.proofs.Common.{sym, subst}
use Rattle.heap.specs.HeapShown.{CallerShown}
use Rattle.caller.specs.Telling.{TakesGreater}
use Rattle.caller.proofs.TakenNotes.{takes_greater}
use Rattle.caller.proofs.telling.hear.Goals as goal

pub returns-clause-greater : goal.returns-clause-greater
returns-clause-greater g c =
    let old = c.args.pass.now.ticket.known.part in
    let news = c.args.news.known.note in
    subst (λ (v : CallerShown). TakesGreater old news v.known.part) (sym c.hear_news.ensures.caller) (takes_greater old news)
