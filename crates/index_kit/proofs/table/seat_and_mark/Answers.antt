use Rattle.std.proofs.Common.{refl, subst, sym, ◌∙◌}
use Rattle.index_kit.specs.Ring.{place_behind}
use Rattle.index_kit.specs.Table.{seats_of}
use Rattle.index_kit.proofs.Seated.{length-seats}
use Rattle.index_kit.proofs.Walk.{IsWalked, walk_home, walked_past, nearer_past}
use Rattle.index_kit.proofs.table.seat_and_mark.Goals as goal

pub loop-key-init : goal.loop-key-init
loop-key-init c =
    let size = c.len-size.ensures ∙ sym (length-seats c.args.entries.now c.args.cells.now) in
    walk_home (seats_of c.args.entries.now c.args.cells.now) c.args.key _ _ c.home_and_mark-at.ensures.home size c.requires.room

pub loop-key-smaller : goal.loop-key-smaller
loop-key-smaller c =
    let seats = seats_of c.args.entries.now c.args.cells.now in
    let size = c.len-size.ensures ∙ sym (length-seats c.args.entries.now c.args.cells.now) in
    rw (c.place_behind-at.ensures.value, size) (nearer_past seats c.args.key _ c.loop-key.invariant _ refl
    c.loop-key-test.ensures.another c.requires.room)

pub loop-key-preserved : goal.loop-key-preserved
loop-key-preserved c =
    let seats = seats_of c.args.entries.now c.args.cells.now in
    let size = c.len-size.ensures ∙ sym (length-seats c.args.entries.now c.args.cells.now) in
    subst (IsWalked seats c.args.key) (sym (c.place_behind-at.ensures.value ∙ (λ i. place_behind (size i) c.loop-key.at)))
    (walked_past seats c.args.key _ c.loop-key.invariant _ refl c.loop-key-test.ensures.another)
