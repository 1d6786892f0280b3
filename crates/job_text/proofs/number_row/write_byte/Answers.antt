use Rattle.std.proofs.Common.{drop, arith}
use Rattle.job_text.proofs.NumberRows.{ascii_more, byte_written}
use Rattle.job_text.proofs.number_row.write_byte.Goals as goal

pub returns-clause-ascii : goal.returns-clause-ascii
returns-clause-ascii c =
    rw (byte_written c.args.held.now c.args.end c.args.byte (omega arith) (omega (arith, c.told-held)))
    (ascii_more c.args.byte (drop c.args.end c.args.held.now) c.requires.byte c.requires.ascii)
