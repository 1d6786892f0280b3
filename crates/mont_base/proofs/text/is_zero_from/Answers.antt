use Rattle.mont_base.proofs.ZeroBytes.{zero_from}
use Rattle.mont_base.proofs.text.is_zero_from.Goals as goal
use Rattle.std.proofs.Common.{arith}

pub returns-else-place-ge8 : goal.returns-else-place-ge8
returns-else-place-ge8 c = zero_from c.args.place c.args.word (omega arith) c.ranges.word.fits
