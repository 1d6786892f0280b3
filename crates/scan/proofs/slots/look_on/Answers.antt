use Rattle.std.proofs.Common.{◌≡◌, ◌-◌, ◌++◌, ℕ, subst, arith}
use Rattle.std.proofs.lemmas.Result.{err_from_is_err_and}
use Rattle.std.specs.List.{range_with_len}
use Rattle.scan.specs.Scanned.{IsAnswer, IsScanOf}
use Rattle.scan.proofs.Among.{range_grows, range_refused}
use Rattle.scan.proofs.slots.look_on.Goals as goal

pub returns-in_err-look_at : goal.returns-in_err-look_at
returns-in_err-look_at c slots so_far =
    let s = c.args.layout.now in
    let image = c.args.image.now in
    let failed = err_from_is_err_and c.from_residual-in_err-look_at.result c.from_residual-in_err-look_at.ensures.1 in
    let begun = subst (IsAnswer s image slots) c.in_ok-scan.was so_far in
    let before = slots ++ range_with_len c.args.first (c.loop-slot.slot - c.args.first) in
    rw (failed.1, failed.2)
    (range_refused s image slots c.args.first c.loop-slot.slot c.args.end c.in_err-look_at.field-0.0 c.loop-slot.auto.slot
    c.loop-slot-test.true
    (c.in_err-look_at.ensures before (c.loop-slot.invariant slots begun)))

pub loop-slot-preserved : goal.loop-slot-preserved
loop-slot-preserved c slots begun =
    let before = slots ++ range_with_len c.args.first (c.loop-slot.slot - c.args.first) in
    range_grows c.args.layout.now c.args.image.now slots c.args.first c.loop-slot.slot c.look_at.new.scan c.loop-slot.auto.slot
    (c.in_ok-look_at.ensures before (c.loop-slot.invariant slots begun))

pub returns : goal.returns
returns c slots so_far =
    let s = c.args.layout.now in
    let image = c.args.image.now in
    let begun = subst (IsAnswer s image slots) c.in_ok-scan.was so_far in
    let same : c.loop-slot.slot ≡ c.args.end = omega (arith, c.loop-slot.auto.slot-end c.requires.rising, c.loop-slot-test.false) in
    subst (λ (end : ℕ). IsScanOf s image (slots ++ range_with_len c.args.first (end - c.args.first)) c.loop-slot.scan) same
    (c.loop-slot.invariant slots begun)
