use Rattle.std.proofs.Common.{sym, ◌∙◌, arith, rules}
use Rattle.job_text.proofs.TextWords.{hex_of_byte}
use Rattle.report_drawing.proofs.label_spelling.ByteWordDisplay.fmt.Goals as goal

pub returns-else-is_bare-clause-writes : goal.returns-else-is_bare-clause-writes
returns-else-is_bare-clause-writes g c =
    let marked = sym c.is_bare.ensures ∙ c.if-is_bare.false in
    let hex = hex_of_byte c.args.self.now.0 (omega arith) in
    rw marked (rw (← hex) (search rules))
