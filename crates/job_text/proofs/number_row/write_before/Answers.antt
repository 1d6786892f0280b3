use Rattle.std.proofs.Common.{◌++◌, drop, decimal, ap, ◌∙◌, arith, rules}
use Rattle.std.proofs.lemmas.Fmt.{length-decimal-le}
use Rattle.job_text.proofs.NumberRows.{ascii_before}
use Rattle.job_text.proofs.number_row.write_before.Goals as goal

pub write_digits-requires : goal.write_digits-requires
write_digits-requires c =
    let short = length-decimal-le 20 c.args.number (omega arith) (omega arith) (omega arith) in
    (omega (arith, short), search rules)

pub returns-clause-begin : goal.returns-clause-begin
returns-clause-begin c =
    omega (arith, c.write_digits.ensures.start, length-decimal-le 20 c.args.number (omega arith) (omega arith) (omega arith))

pub returns-clause-ascii : goal.returns-clause-ascii
returns-clause-ascii c =
    ascii_before c.args.number c.args.behind (drop c.args.end c.args.held.now) _ (omega arith) c.requires.byte c.requires.ascii
    (c.write_digits.ensures.written ∙ ap (λ t. decimal c.args.number ++ t) c.write_byte-at.ensures.written)
