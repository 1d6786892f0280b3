use Rattle.std.proofs.Common.{◌++◌, ℕ, List, map, string_bytes, ap, ◌∙◌}
use Rattle.std.specs.Global.{Vec}
use Rattle.std.proofs.lemmas.List.{append_assoc}
use Rattle.std.proofs.lemmas.Result.{MatchResult-weaker}
use Rattle.report_drawing.specs.declared.folding.Label.{Label}
use Rattle.report_drawing.specs.Folding.{drawn_all}
use Rattle.report_drawing.specs.Svg.{name_svg, stacks_svg}
use Rattle.report_drawing.proofs.svg.push_strip.Goals as goal

pub returns : goal.returns
returns c = MatchResult-weaker c.push_stacks.result c.push_stacks.ensures
    (λ done written.
    written
    ∙ ap (λ (stacks : List (Vec Label)). string_bytes c.push_name.new.svg
    ++ stacks_svg c.args.starts.now c.args.top (map drawn_all stacks)) c.as_slice.ensures.value
    ∙ ap (λ (bs : List ℕ). bs ++ stacks_svg c.args.starts.now c.args.top (map drawn_all c.args.strip.now.stacks.items))
    (c.in_ok-push_name.ensures
    ∙ ap (λ (t : List ℕ). string_bytes c.args.svg.now ++ name_svg c.args.top t) c.as_str.ensures.value)
    ∙ append_assoc (string_bytes c.args.svg.now) (name_svg c.args.top (string_bytes c.args.strip.now.name))
    (stacks_svg c.args.starts.now c.args.top (map drawn_all c.args.strip.now.stacks.items)))
    (λ e t. t)
