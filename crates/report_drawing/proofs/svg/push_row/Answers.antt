use Rattle.std.proofs.Common.{string_bytes}
use Rattle.std.proofs.lemmas.Result.{MatchResult-weaker}
use Rattle.report_drawing.specs.Svg.{row_start, escaped, row_end}
use Rattle.report_drawing.proofs.Rows.{three_written}
use Rattle.report_drawing.proofs.svg.push_row.Goals as goal

pub returns : goal.returns
returns c = MatchResult-weaker c.push_row_end.result c.push_row_end.ensures
    (λ done ended.
    three_written (string_bytes c.args.svg.now) (row_start c.args.x c.args.lost) (escaped c.args.text.now) row_end _ _ _
    c.in_ok-push_row_start.ensures c.in_ok-push_escaped.ensures ended)
    (λ e t. t)
