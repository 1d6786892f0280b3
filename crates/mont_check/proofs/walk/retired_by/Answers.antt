use Rattle.std.proofs.Common.{arith}
use Rattle.std.proofs.lemmas.Result.{err_from_is_err_and}
use Rattle.mont_check.proofs.WalkLaws.{retired_kinds}
use Rattle.mont_check.proofs.walk.retired_by.Goals as goal

pub returns-in_err-both : goal.returns-in_err-both
returns-in_err-both c =
    let failed = err_from_is_err_and c.from_residual.result c.from_residual.ensures.1 in
    let kinds = retired_kinds c.args.effects.now in rw failed.1 (omega (arith, c.in_err-both.ensures))

pub returns-in_err-retired : goal.returns-in_err-retired
returns-in_err-retired c =
    let failed = err_from_is_err_and c.from_residual-in_err-retired.result c.from_residual-in_err-retired.ensures.1 in
    let kinds = retired_kinds c.args.effects.now in rw failed.1 (omega (arith, c.in_ok-both.ensures, c.in_err-retired.ensures))

pub returns : goal.returns
returns c = let kinds = retired_kinds c.args.effects.now in omega (arith, c.in_ok-both.ensures, c.in_ok-retired.ensures)
