use Rattle.std.proofs.lemmas.Result.{err_from_is_err_and}
use Rattle.write_back.proofs.AskedTimes.{asks_more}
use Rattle.advance.proofs.advancer.Advancer.settle.Goals as goal

pub returns-in_err-move_clock-clause-asked : goal.returns-in_err-move_clock-clause-asked
returns-in_err-move_clock-clause-asked g c =
    let p = err_from_is_err_and c.from_residual-in_err-move_clock.result c.from_residual-in_err-move_clock.ensures.1 in
    rw p.1 (asks_more g.G.Gate.asked _ _ _ _ _ _ _ c.in_ok-write_back.ensures.asked c.in_err-move_clock.ensures.asked)

pub returns-clause-asked : goal.returns-clause-asked
returns-clause-asked g c =
    asks_more g.G.Gate.asked _ _ _ _ _ _ _
    (asks_more g.G.Gate.asked _ _ _ _ _ _ _ c.in_ok-write_back.ensures.asked c.in_ok-move_clock.ensures.asked) c.persist_clock.ensures.asked
