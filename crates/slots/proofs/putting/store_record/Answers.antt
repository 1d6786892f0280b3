use Rattle.std.proofs.Common.{◌≡◌, ◌+◌, refl, ap, ◌∙◌, arith}
use Rattle.slots.proofs.Gates.{asks_none, asks_more}
use Rattle.slots.proofs.Seen.{on_err, kind_may, kind_stored, identity_may, identity_stored, version_may, version_stored, field_may, field_stored, body_word, label_may, label_end, cut_stored, cut_end}
use Rattle.slots.proofs.Stores.{seat_begun}
use Rattle.slots.proofs.putting.store_record.Goals as goal

pub store_word-requires-clause-may : goal.store_word-requires-clause-may
store_word-requires-clause-may g c = kind_may _ c.args.seat.now c.args.held.now c.requires.may _ c.kind_word.ensures

pub store_word-requires-2-clause-may : goal.store_word-requires-2-clause-may
store_word-requires-2-clause-may g c =
    identity_may _ _ _ c.requires.may _ c.kind_word.ensures _ c.in_ok-store_word.ensures.ok

pub store_word-requires-3-clause-may : goal.store_word-requires-3-clause-may
store_word-requires-3-clause-may g c =
    version_may _ _ _ c.requires.may _ c.kind_word.ensures _ c.in_ok-store_word.ensures.ok _ c.in_ok-store_word-2.ensures.ok

pub returns-in_err-store_word-2-clause-cut : goal.returns-in_err-store_word-2-clause-cut
returns-in_err-store_word-2-clause-cut g c = on_err _ _
    (cut_stored _ _ _ _ c.requires.may 1 (kind_stored _ _ _ c.requires.may _ c.kind_word.ensures _ c.in_ok-store_word.ensures.ok) _
    (omega arith) c.in_err-store_word-2.ensures.cut)

pub returns-in_err-store_word-3-clause-cut : goal.returns-in_err-store_word-3-clause-cut
returns-in_err-store_word-3-clause-cut g c = on_err _ _
    (cut_stored _ _ _ _ c.requires.may 2 (identity_stored _ _ _ c.requires.may _ c.kind_word.ensures _ c.in_ok-store_word.ensures.ok _
    c.in_ok-store_word-2.ensures.ok) _ (omega arith) c.in_err-store_word-3.ensures.cut)

pub loop-at-init : goal.loop-at-init
loop-at-init g c =
    let asks = asks_more g.G.Gate.cuts g.G.Gate.endless g.G.Gate.asked in (
      version_stored _ _ _ c.requires.may _ c.kind_word.ensures _ c.in_ok-store_word.ensures.ok _ c.in_ok-store_word-2.ensures.ok _
          c.in_ok-store_word-3.ensures.ok,
      asks _ _ _ _ (asks _ _ _ _ (asks _ _ _ _ (asks_none g.G.Gate.cuts g.G.Gate.endless g.G.Gate.asked _)
          c.in_ok-store_word.ensures.gate) c.in_ok-store_word-2.ensures.gate) c.in_ok-store_word-3.ensures.gate,
    )

pub store_word-requires-in-loop-at-clause-may : goal.store_word-requires-in-loop-at-clause-may
store_word-requires-in-loop-at-clause-may g c =
    field_may _ _ _ _ c.requires.may (3 + c.loop-at.at) c.loop-at.invariant.0 (4 + c.loop-at.at) _ (omega arith)
    (omega arith) (body_word c.args.held.now c.loop-at.at)

pub loop-at-preserved : goal.loop-at-preserved
loop-at-preserved g c =
    let next : 4 + c.loop-at.at ≡ 3 + (c.loop-at.at + 1) = omega arith in (
      field_stored _ _ _ _ c.requires.may (3 + c.loop-at.at) c.loop-at.invariant.0 _ (4 + c.loop-at.at) _ (omega arith) (omega arith)
          (body_word c.args.held.now c.loop-at.at) c.in_ok-store_word-4.ensures.ok
          ∙ ap (seat_begun c.args.seat.now c.args.held.now) next,
      asks_more g.G.Gate.cuts g.G.Gate.endless g.G.Gate.asked _ _ _ _ c.loop-at.invariant.1 c.in_ok-store_word-4.ensures.gate,
    )

pub returns-in_err-store_word-4-clause-cut : goal.returns-in_err-store_word-4-clause-cut
returns-in_err-store_word-4-clause-cut g c = on_err _ _
    (cut_stored _ _ _ _ c.requires.may (3 + c.loop-at.at) c.loop-at.invariant.0 _ (omega arith) c.in_err-store_word-4.ensures.cut)

pub store_word-requires-4-clause-may : goal.store_word-requires-4-clause-may
store_word-requires-4-clause-may g c =
    label_may _ _ _ _ c.requires.may (3 + c.loop-at.at) c.loop-at.invariant.0 _ (omega arith) refl

pub returns-clause-ok : goal.returns-clause-ok
returns-clause-ok g c =
    label_end _ c.args.seat.now _ c.args.held.now c.requires.may (3 + c.loop-at.at) c.loop-at.invariant.0 c.store_word-4.result
    c.store_word-4.new.seat c.args.held.now.label.epoch (omega arith) c.store_word-4.ensures.ok

pub returns-clause-cut : goal.returns-clause-cut
returns-clause-cut g c =
    cut_end _ c.args.seat.now _ c.args.held.now c.requires.may (3 + c.loop-at.at) c.loop-at.invariant.0 c.store_word-4.result
    c.store_word-4.new.seat (omega arith) c.store_word-4.ensures.cut
