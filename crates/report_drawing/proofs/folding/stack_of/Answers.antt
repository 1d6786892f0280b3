use Rattle.std.proofs.Common.{◌∙◌, take, map, sym, arith}
use Rattle.std.proofs.lemmas.List.{length-map}
use Rattle.report_drawing.specs.Lanes.{shown_of}
use Rattle.report_drawing.specs.Folding.{drawn_of, drawn_all, in_column, most_of}
use Rattle.report_drawing.proofs.Stacks.{one_drawn, one_counted, held_one, held_none, label_pushed, stack_ends}
use Rattle.report_drawing.proofs.folding.stack_of.Goals as goal
use Rattle.report_drawing.proofs.folding.stack_of.Goals.{then-holds+then-len-most+in_ok-label_of+in_ok-push, then-holds+else-len-most, else-holds}

pub loop-cell-preserved : goal.loop-cell-preserved
loop-cell-preserved c =
    let column = c.args.column.now in
    let cells = c.args.cells.now in
    let i = c.loop-cell.cell-index in
    let x = c.cell-item.result in
    let held = in_column column (take i (map shown_of cells)) in
    let long = length-map c.loop-cell.labels.items drawn_of in
    let sized = c.loop-cell.labels.ok.0 in
    let before = c.loop-cell.invariant.1 in
    elim c.if-holds.branch [
      | then-holds+then-len-most+in_ok-label_of+in_ok-push w ↦ (
        omega (arith, c.loop-cell.invariant.0, w.more-is),
        let there = held_one column cells i x (omega arith) c.cell-item.is (sym c.holds.ensures ∙ w.if-holds.true) in
            let pushed = label_pushed c.loop-cell.labels.items w.push.new.self.items w.in_ok-label_of.field-0 (shown_of x)
            w.in_ok-push.ensures.items w.in_ok-label_of.ensures in
            rw (there, w.labels-is, w.more-is) (one_drawn (most_of column) held
            (drawn_all c.loop-cell.labels) _ c.loop-cell.more (shown_of x)
            before (omega (arith, long, sized, w.len.ensures, w.if-len-most.true, c.most_of-most.ensures)) pushed),
      )
      | then-holds+else-len-most w ↦ (
        omega (arith, c.loop-cell.invariant.0, w.more-is),
        let there = held_one column cells i x (omega arith) c.cell-item.is (sym c.holds.ensures ∙ w.if-holds.true) in
            rw (there, w.labels-is, w.more-is) (one_counted (most_of column) held
            (drawn_all c.loop-cell.labels) c.loop-cell.more (shown_of x)
            before (omega (arith, long, sized, w.len.ensures, w.if-len-most.false, c.most_of-most.ensures))),
      )
      | else-holds w ↦ (
        omega (arith, c.loop-cell.invariant.0, w.more-is),
        let there = held_none column cells i x (omega arith) c.cell-item.is (sym c.holds.ensures ∙ w.if-holds.false) in
            rw (there, w.labels-is, w.more-is) before,
      )
    ]

pub returns : goal.returns
returns c = stack_ends c.args.column.now (map shown_of c.args.cells.now) c.loop-cell.cell-index (drawn_all c.loop-cell.labels) _
    c.loop-cell.more (omega (arith, length-map c.args.cells.now shown_of)) c.loop-cell.invariant.1 c.in_ok-push_more.ensures
