use Rattle.std.proofs.Common.{string_bytes, false}
use Rattle.std.proofs.lemmas.Result.{MatchResult-weaker}
use Rattle.report_drawing.specs.Svg.{text_svg, row_svg, end_svg}
use Rattle.report_drawing.proofs.Rows.{three_written}
use Rattle.report_drawing.proofs.svg.push_name.Goals as goal

pub returns : goal.returns
returns c = MatchResult-weaker c.push_end.result c.push_end.ensures
    (λ done ended.
    three_written (string_bytes c.args.svg.now) (text_svg 10 c.args.top) (row_svg 10 false c.args.name.now) end_svg _ _ _
    c.in_ok-push_text.ensures c.in_ok-push_row.ensures ended)
    (λ e t. t)
