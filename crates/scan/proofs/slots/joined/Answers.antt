use Rattle.std.proofs.Common.{subst}
use Rattle.std.proofs.lemmas.Result.{err_from_is_err_and}
use Rattle.scan.specs.Scanned.{IsAnswer}
use Rattle.scan.proofs.Among.{refusal_behind, scan_joined}
use Rattle.scan.proofs.slots.joined.Goals as goal

pub returns-in_err-back : goal.returns-in_err-back
returns-in_err-back c s image xs ys front back =
    let failed = err_from_is_err_and c.from_residual-in_err-back.result c.from_residual-in_err-back.ensures.1 in
    let found = subst (IsAnswer s image xs) c.in_ok-front.was front in
    rw (failed.1, failed.2)
    (refusal_behind s image xs ys c.in_err-back.field-0.0 found.readable (subst (IsAnswer s image ys) c.in_err-back.was back))

pub returns : goal.returns
returns c s image xs ys front back =
    scan_joined s image xs ys c.in_ok-front.front c.in_ok-back.back _
    (subst (IsAnswer s image xs) c.in_ok-front.was front) (subst (IsAnswer s image ys) c.in_ok-back.was back)
    c.in_ok-both.ensures c.in_ok-both-2.ensures
