use Rattle.std.proofs.Common.{◌≡◌, ℕ, ◌+◌, ◌*◌, ◌<◌, ◌≤◌, true, false, Some, None, List, get_or, sym, ap, subst, arith, append-nil}
use Rattle.mont_base.specs.Image.{epoch_at}
use Rattle.scan.proofs.Among.{outside, scan_more, slot_beyond, slot_closed, slot_within}
use Rattle.scan.proofs.slots.look_at.Goals as goal

first_word : (image : List ℕ) (slot : ℕ) → get_or image (1 + 12 * slot) 0 ≡ epoch_at image slot
first_word image slot = ap (λ (w : ℕ). get_or image w 0) (omega arith)

pub returns-in_ok-push : goal.returns-in_ok-push
returns-in_ok-push c slots so_far =
    let s = c.args.layout.now in
    let image = c.args.image.now in
    let slot = c.args.slot in
    let epoch = get_or image (1 + 12 * slot) 0 in
    let late = subst (λ (cut : ℕ). cut < epoch) c.saturating_sub.ensures c.if-epoch-saturating_sub.true in
    let is = slot_beyond s image slot epoch (first_word image slot) late in
    let out = outside s image slot is.0 in
    scan_more s image slots slot c.args.scan.now _ None true so_far out.0 is.1 out.1
    (sym (append-nil c.args.scan.now.records)) c.in_ok-push.ensures.ok

pub returns-in_ok-push-in-Ok : goal.returns-in_ok-push-in-Ok
returns-in_ok-push-in-Ok c slots so_far =
    let s = c.args.layout.now in
    let image = c.args.image.now in
    let slot = c.args.slot in
    let epoch = get_or image (1 + 12 * slot) 0 in
    let early = subst (λ (cut : ℕ). epoch ≤ cut) c.saturating_sub.ensures c.if-epoch-saturating_sub.false in
    let is = slot_within s image slot epoch (first_word image slot) (omega (arith, c.if-epoch-gt0.true)) early in
    scan_more s image slots slot c.args.scan.now _ (Some c.in-Ok.held) false so_far c.in-Ok.ensures.0 is.1 c.in-Ok.ensures.1
    c.in_ok-push-in-Ok.ensures.ok (sym (append-nil c.args.scan.now.lost))

pub returns-else-epoch-gt0 : goal.returns-else-epoch-gt0
returns-else-epoch-gt0 c slots so_far =
    let s = c.args.layout.now in
    let image = c.args.image.now in
    let slot = c.args.slot in
    let epoch = get_or image (1 + 12 * slot) 0 in
    let none : epoch ≡ 0 = omega (arith, c.if-epoch-gt0.false) in
    let is = slot_closed s image slot epoch (first_word image slot) none in
    let out = outside s image slot is.0 in
    scan_more s image slots slot c.args.scan.now _ None false so_far out.0 is.1 out.1 (sym (append-nil c.args.scan.now.records))
    (sym (append-nil c.args.scan.now.lost))
