use Rattle.std.proofs.Common.{◌-◌, drop}
use Rattle.std.proofs.lemmas.Str.{IsUtf8-from_ascii, IsAscii-take}
use Rattle.job_text.proofs.number_row.text_from.Goals as goal

pub from_utf8_unchecked-requires : goal.from_utf8_unchecked-requires
from_utf8_unchecked-requires c =
    IsUtf8-from_ascii _ (IsAscii-take (drop c.args.at c.args.held.now) (84 - c.args.at) c.requires.ascii)
