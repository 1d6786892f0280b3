use Rattle.std.proofs.Common.{◌++◌, ℕ, List, map, string_bytes, sym, ap, ◌∙◌, arith}
use Rattle.std.proofs.lemmas.Bool.{eqb-true, eqb-false}
use Rattle.std.proofs.lemmas.List.{length-map}
use Rattle.std.proofs.lemmas.Result.{MatchResult-weaker}
use Rattle.report_drawing.specs.Folding.{drawn_of}
use Rattle.report_drawing.specs.Svg.{text_svg, rows_svg, end_svg}
use Rattle.report_drawing.proofs.Rows.{three_written, stack_some, stack_none}
use Rattle.report_drawing.proofs.svg.push_stack.Goals as goal

pub returns-then-is_empty : goal.returns-then-is_empty
returns-then-is_empty c = stack_none c.args.x c.args.top c.args.labels.now (string_bytes c.args.svg.now)
    (eqb-true _ 0 (sym c.is_empty.ensures ∙ c.if-is_empty.true))

pub returns : goal.returns
returns c =
    let labels = map drawn_of c.args.labels.now in
    let some = eqb-false _ 0 (sym c.is_empty.ensures ∙ c.if-is_empty.false) in
    MatchResult-weaker c.push_end.result c.push_end.ensures
    (λ done ended.
    three_written (string_bytes c.args.svg.now) (text_svg c.args.x c.args.top) (rows_svg c.args.x labels) end_svg _ _ _
    c.in_ok-push_text.ensures c.in_ok-push_rows.ensures ended
    ∙ ap (λ (bs : List ℕ). string_bytes c.args.svg.now ++ bs)
    (sym (stack_some c.args.x c.args.top labels (omega (arith, some, length-map c.args.labels.now drawn_of)))))
    (λ e t. t)
