use Rattle.std.proofs.lemmas.Result.{err_from_is_err_and}
use Rattle.write_back.proofs.AskedTimes.{asks_more}
use Rattle.advance.proofs.advancer.Advancer.advance.Goals as goal

pub returns-in_err-settle-clause-asked : goal.returns-in_err-settle-clause-asked
returns-in_err-settle-clause-asked g c =
    let p = err_from_is_err_and c.from_residual-in_err-settle.result c.from_residual-in_err-settle.ensures.1 in
    rw (p.1, p.2) (asks_more g.G.Gate.asked _ _ _ _ _ _ _ c.in_ok-pass_units.ensures.asked c.in_err-settle.ensures.asked)

pub returns-clause-asked : goal.returns-clause-asked
returns-clause-asked g c =
    asks_more g.G.Gate.asked _ _ _ _ _ _ _ c.in_ok-pass_units.ensures.asked c.in_ok-settle.ensures.asked
