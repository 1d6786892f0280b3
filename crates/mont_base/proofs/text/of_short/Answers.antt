use Rattle.std.proofs.Common.{◌++◌, drop, length, replicate, ap, refl, ◌∙◌}
use Rattle.std.proofs.Math.Seq.{drop-append_seam}
use Rattle.mont_base.specs.declared.constants.TheConstants.{TEXT_BYTES}
use Rattle.mont_base.specs.Texts.{are_zero}
use Rattle.mont_base.proofs.Texts.{are_zero-drop}
use Rattle.mont_base.proofs.text.of_short.Goals as goal

pub of_held-requires-clause-clean : goal.of_held-requires-clause-clean
of_held-requires-clause-clean c =
    let bytes = c.args.bytes.now in
    let behind = drop (length bytes) (replicate TEXT_BYTES 0) in
    ap (λ front. are_zero (drop (length bytes) (front ++ behind))) c.copy_from_slice.ensures.after
    ∙ ap are_zero (drop-append_seam bytes behind)
    ∙ are_zero-drop (length bytes) (replicate TEXT_BYTES 0) refl
