use Rattle.std.proofs.Common.{◌++◌, ◌∙◌}
use Rattle.std.specs.Prelude.{codes}
use Rattle.std.specs.List.{enumerate_from, flat_map}
use Rattle.std.specs.String.{string_bytes}
use Rattle.image_info.specs.ToldLines.{unit_words}
use Rattle.image_info.proofs.Written.{between_marks}
use Rattle.image_info.proofs.told_lines.push_layout.Goals as goal

pub returns : goal.returns
returns c =
    let s = c.args.layout.now in
    between_marks (string_bytes c.args.text.now) (codes "layout ") (flat_map (unit_words s.slots) (enumerate_from 0 s.kinds))
    (codes "\n") _ _ _ c.in_ok-push_str.ensures.bytes
    (c.in_ok-push_kinds.ensures
    ∙ (λ i. string_bytes c.push_str.new.self ++ flat_map (unit_words (c.slots.ensures.value i))
    (enumerate_from 0 ((c.as_slice.ensures.value ∙ c.kinds.ensures.value) i))))
    c.in_ok-push_str-2.ensures.bytes
