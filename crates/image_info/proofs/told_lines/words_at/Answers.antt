use Rattle.std.proofs.Common.{◌*◌, arith}
use Rattle.image_info.proofs.SlotPieces.{slot_piece}
use Rattle.image_info.proofs.told_lines.words_at.Goals as goal

pub returns : goal.returns
returns c =
    slot_piece c.args.fields (c.args.fields * c.args.slot) c.saturating_mul.result c.saturating_add-first.result c.min.result
    c.min-2.result c.args.words.now (omega arith) c.saturating_mul.ensures c.saturating_add-first.ensures c.min.ensures c.min-2.ensures
