use Rattle.std.proofs.Common.{◌++◌, ℕ, List, [], map, string_bytes, sym, ap, ◌∙◌, arith}
use Rattle.std.specs.List.{enumerate_from, flat_map}
use Rattle.std.proofs.lemmas.List.{get_or-map, length-map, take_all}
use Rattle.job_text.proofs.Written.{numbered_item, numbered_past}
use Rattle.report_drawing.specs.Folding.{Drawn, drawn_of, drawn_all}
use Rattle.report_drawing.specs.Svg.{stack_svg, start_of}
use Rattle.report_drawing.proofs.svg.push_stacks.Goals as goal

pub loop-place-preserved : goal.loop-place-preserved
loop-place-preserved c =
    let stacks = c.args.stacks.now in
    let place = c.loop-place.place in
    let starts = c.args.starts.now in
    let top = c.args.top in
    let labels = map drawn_of c.as_slice.result.now in
    numbered_item (λ (p : ℕ × List Drawn). stack_svg (start_of starts p.0) top p.1) (map drawn_all stacks) place [] labels _ _ _
    (omega (arith, length-map stacks drawn_all))
    (ap (map drawn_of) c.as_slice.ensures.value ∙ ap drawn_all c.index-stacks-place.is
    ∙ sym (get_or-map drawn_all stacks place _ [] (omega arith))) c.loop-place.invariant
    (c.in_ok-push_stack.ensures ∙ ap (λ (x : ℕ). string_bytes c.loop-place.svg ++ stack_svg x top labels) c.start_at.ensures)

pub returns : goal.returns
returns c =
    let drawn = map drawn_all c.args.stacks.now in
    c.loop-place.invariant
    ∙ ap (λ (ps : List (ℕ × List Drawn)). string_bytes c.args.svg.now
    ++ flat_map (λ (p : ℕ × List Drawn). stack_svg (start_of c.args.starts.now p.0) c.args.top p.1) ps)
    (take_all c.loop-place.place (enumerate_from 0 drawn)
    (numbered_past drawn c.loop-place.place (omega (arith, length-map c.args.stacks.now drawn_all))))
