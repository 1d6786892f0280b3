use Rattle.std.proofs.Common.{ap, arith, length, length-append}
use Rattle.job_text.specs.Lines.{line_at}
use Rattle.job_text.proofs.Parted.{line_lacking, line_split}
use Rattle.job_text.proofs.lines.next_line.Goals as goal

pub returns-then-text-gt-LINE_BYTES : goal.returns-then-text-gt-LINE_BYTES
returns-then-text-gt-LINE_BYTES c = (
  omega arith,
  λ more.
      let whole = line_lacking c.args.text.now more c.in_default.ensures in
      omega (arith, ap length whole, length-append c.args.text.now (line_at more 0)),
)

pub returns-then-line-gt-LINE_BYTES : goal.returns-then-line-gt-LINE_BYTES
returns-then-line-gt-LINE_BYTES c = (
  omega arith,
  λ more.
      let same = line_split c.args.text.now c.in-Some.line.now c.in-Some.after.now more c.in-Some.ensures in
      omega (arith, ap length same),
)
