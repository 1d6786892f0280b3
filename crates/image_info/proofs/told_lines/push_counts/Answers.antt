use Rattle.std.proofs.Common.{◌++◌, ◌∙◌, append_assoc}
use Rattle.std.specs.String.{string_bytes}
use Rattle.image_info.specs.ToldLines.{first_counts, other_counts}
use Rattle.image_info.proofs.told_lines.push_counts.Goals as goal

pub returns : goal.returns
returns c =
    let counts = c.args.counts.now in
    c.in_ok-push_other_counts.ensures
    ∙ (λ i. c.in_ok-push_first_counts.ensures i ++ other_counts counts)
    ∙ append_assoc (string_bytes c.args.text.now) (first_counts c.args.unit c.args.kind counts) (other_counts counts)
