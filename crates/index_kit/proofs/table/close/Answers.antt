use Rattle.std.proofs.Common.{[], set, Some, refl, sym, ap, ◌∙◌}
use Rattle.index_kit.specs.Home.{home_of}
use Rattle.index_kit.specs.Cells.{Cells}
use Rattle.index_kit.specs.Table.{seats_of}
use Rattle.index_kit.proofs.Walk.{distance_counted}
use Rattle.index_kit.proofs.Close.{closing_begins, closing_ends, closing_nearer, closing_stays}
use Rattle.index_kit.proofs.Seated.{length-seats, seat_read, no_seat, key_read, number_within, held_here, marked_moved, walk_moved, numbers_moved_over, length_moved}
use Rattle.index_kit.proofs.table.close.Goals as goal
use Rattle.index_kit.proofs.table.close.Goals.{then-steps, else-steps}

pub loop-number-init : goal.loop-number-init
loop-number-init c =
    let size = c.len-size.ensures ∙ sym (length-seats c.args.entries.now c.args.cells.now) in
    rw (c.place_behind-at.ensures.value, size)
    (record {
      marked = c.requires.marked;
      walk = closing_begins (seats_of c.args.entries.now c.args.cells.now) c.args.start
          c.requires.table;
      same = refl;
      len = refl;
    })

pub bounds-entries-number : goal.bounds-entries-number
bounds-entries-number c = number_within _ _ c.loop-number.invariant.marked c.loop-number.at [] _ _ refl c.in-Some.ensures

pub loop-number-smaller : goal.loop-number-smaller
loop-number-smaller c =
    let kept = c.loop-number.invariant in
    let held = held_here _ _ kept.marked _ _ _ _ kept.walk _ c.in-Some.ensures in
    rw c.place_behind-at-in-Some.ensures.value (closing_nearer _ _ _ _ _ kept.walk _ held)

pub loop-number-preserved : goal.loop-number-preserved
loop-number-preserved c =
    let kept = c.loop-number.invariant in
    let held = held_here _ _ kept.marked _ _ _ _ kept.walk _ c.in-Some.ensures in
    let within = number_within _ _ kept.marked c.loop-number.at [] _ _ refl c.in-Some.ensures in
    let key = key_read c.args.entries.now c.in-Some.number c.index-entries-number.result within in
    let home = c.home_and_mark-from.ensures.home ∙ (λ i. home_of c.len-size.result (sym key i)) in
    let to_hole = distance_counted _ _ _ home _ _ c.steps.ensures in
    let to_cell = distance_counted _ _ _ home _ _ c.steps-in-Some.ensures in
    elim c.if-steps.branch [
      | then-steps w ↦
          let mark = rw (← key) at c.home_and_mark-from.ensures.mark in
          let cells = w.cells-is ∙ w.fill.ensures ∙ ap (λ (cs : Cells). set cs c.loop-number.hole (Some
          (c.home_and_mark-from.result.1, c.in-Some.number))) w.clear.ensures in
          rw (cells, w.hole-is, c.place_behind-at-in-Some.ensures.value) (record {
            marked = marked_moved _ _ kept.marked _ _ _ _ kept.walk _ c.in-Some.ensures _ mark;
            walk = walk_moved _ _ kept.marked _ _ _ _ kept.walk _ c.in-Some.ensures _ mark (rw (← to_hole, ← to_cell) w.if-steps.true);
            same = numbers_moved_over _ _ kept.marked _ _ _ _ kept.walk _ c.in-Some.ensures _ mark ∙ kept.same;
            len = length_moved _ _ kept.marked _ _ _ _ kept.walk _ c.in-Some.ensures _ mark ∙ kept.len;
          })
      | else-steps w ↦ rw (w.cells-is, w.hole-is, c.place_behind-at-in-Some.ensures.value) (record {
        marked = kept.marked;
        walk = closing_stays _ _ _ _ _ kept.walk _ held (rw (← to_hole, ← to_cell) w.if-steps.false);
        same = kept.same;
        len = kept.len;
      })
    ]

pub returns-clause-table : goal.returns-clause-table
returns-clause-table c =
    let kept = c.loop-number.invariant in
    closing_ends _ _ _ _ _ kept.walk (seat_read c.args.entries.now c.loop-number.cells c.loop-number.at ∙ no_seat _ _
    (sym c.in_default.ensures))
