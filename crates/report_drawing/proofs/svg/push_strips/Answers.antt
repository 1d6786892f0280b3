use Rattle.std.proofs.Common.{◌++◌, ℕ, List, string_bytes, sym, ap, ◌∙◌, arith}
use Rattle.std.proofs.lemmas.List.{append-nil, at_drop_all}
use Rattle.report_drawing.specs.declared.folding.Strip.{Strip}
use Rattle.report_drawing.specs.Folding.{stacks_drawn}
use Rattle.report_drawing.specs.Svg.{below, strip_svg, strips_svg}
use Rattle.report_drawing.proofs.Rows.{strip_written}
use Rattle.report_drawing.proofs.svg.push_strips.Goals as goal

pub loop-strip-preserved : goal.loop-strip-preserved
loop-strip-preserved c =
    let starts = c.args.starts.now in
    let at = c.loop-strip.at in
    let was = string_bytes c.loop-strip.svg in
    strip_written starts at _ c.args.strips.now c.loop-strip.strip-index c.strip-item.result was _ _ (omega arith)
    (c.in_ok-push_strip.ensures ∙ ap (λ (strip : Strip). was ++ strip_svg starts at strip) c.strip-item.is)
    (c.below-at.ensures ∙ ap (λ (strip : Strip). below at (stacks_drawn strip)) c.strip-item.is) c.loop-strip.invariant

pub returns : goal.returns
returns c =
    let was = string_bytes c.loop-strip.svg in
    sym (append-nil was)
    ∙ ap (λ (bs : List ℕ). was ++ bs) (sym (at_drop_all (strips_svg c.args.starts.now c.loop-strip.at) c.args.strips.now
    c.loop-strip.strip-index (omega arith)))
    ∙ c.loop-strip.invariant
