use Rattle.std.proofs.Common.{arith}
use Rattle.image_info.specs.ToldLines.{epoch_line}
use Rattle.image_info.proofs.Written.{lines_written}
use Rattle.image_info.proofs.told_lines.push_epochs.Goals as goal

pub returns : goal.returns
returns c = lines_written epoch_line c.args.epochs.now c.loop-count.count-index _ _ (omega arith) c.loop-count.invariant
