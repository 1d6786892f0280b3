use Rattle.std.proofs.Common.{◌++◌, List, ℕ, string_bytes, ap, ◌∙◌, arith}
use Rattle.job_text.proofs.Written.{written_more}
use Rattle.report_drawing.specs.declared.folding.Label.{Label}
use Rattle.report_drawing.specs.Svg.{row_svg}
use Rattle.report_drawing.proofs.Rows.{label_svg, rows_written}
use Rattle.report_drawing.proofs.svg.push_rows.Goals as goal

pub loop-label-preserved : goal.loop-label-preserved
loop-label-preserved c =
    let label = c.label-item.result in
    let was = string_bytes c.loop-label.svg in
    written_more (label_svg c.args.x) c.args.labels.now c.loop-label.label-index label _ was _ (omega arith) c.loop-label.invariant
    (c.in_ok-push_row.ensures
    ∙ ap (λ (t : List ℕ). was ++ row_svg c.args.x label.lost t) c.as_str.ensures.value
    ∙ ap (λ (l : Label). was ++ label_svg c.args.x l) c.label-item.is)

pub returns : goal.returns
returns c = rows_written c.args.x c.args.labels.now c.loop-label.label-index _ _ (omega arith) c.loop-label.invariant
