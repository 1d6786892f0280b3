use Rattle.std.proofs.Common.{◌∙◌}
use Rattle.mont_base.proofs.Texts.{put_together}
use Rattle.mont_base.proofs.text.bytes_in.Goals as goal

pub returns : goal.returns
returns c =
    put_together c.args.first c.args.second c.args.third _ _ _
    (c.copy_from_slice.ensures.after ∙ c.to_le_bytes.ensures)
    (c.copy_from_slice-2.ensures.after ∙ c.to_le_bytes-2.ensures)
    (c.copy_from_slice-3.ensures.after ∙ c.to_le_bytes-3.ensures)
