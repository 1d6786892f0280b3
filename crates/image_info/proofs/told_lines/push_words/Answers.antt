use Rattle.std.proofs.Common.{◌++◌, ℕ, arith}
use Rattle.std.specs.Prelude.{codes, decimal}
use Rattle.std.specs.List.{flat_map}
use Rattle.std.specs.String.{string_bytes}
use Rattle.image_info.proofs.Written.{all_written, behind_mark}
use Rattle.image_info.proofs.told_lines.push_words.Goals as goal

pub returns : goal.returns
returns c =
    let words = c.args.words.now in
    behind_mark (string_bytes c.args.text.now) (codes ":") (flat_map (λ (w : ℕ). codes " " ++ decimal w) words) _ _
    c.in_ok-push_str.ensures.bytes
    (all_written (λ (w : ℕ). codes " " ++ decimal w) words c.loop-word.word-index _ _ (omega arith) c.loop-word.invariant)
