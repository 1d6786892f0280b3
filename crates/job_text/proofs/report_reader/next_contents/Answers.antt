use Rattle.std.proofs.Common.{ℕ}
use Rattle.job_text.specs.Operations.{IsNumber}
use Rattle.job_text.specs.Readings.{Refuses}
use Rattle.job_text.specs.ReportText.{contents_lines}
use Rattle.job_text.specs.ReportRanges.{AreContents}
use Rattle.job_text.specs.ReportRows.{line_of_row, clock_words, IsStart, start_rows}
use Rattle.job_text.proofs.ReadLines.{at_exit, line_once, refuses_first, refuses_second}
use Rattle.job_text.proofs.RowParts.{clock_part}
use Rattle.job_text.proofs.ContentsParts.{some_contents}
use Rattle.job_text.proofs.report_reader.next_contents.Goals as goal

pub returns-in_err-clock : goal.returns-in_err-clock
returns-in_err-clock c =
    let ks = c.args.layout.now.kinds in
    at_exit c.from_residual.result c.in_err-clock.field-0.0 _ (Refuses (IsStart ks) (start_rows ks c.args.word.now) c.args.lines.now)
    c.from_residual.ensures.1
    (refuses_first IsNumber (line_of_row (clock_words c.args.word.now)) (λ (n : ℕ). AreContents ks) (λ (n : ℕ). contents_lines ks)
    (λ n is. some_contents ks) c.args.lines.now _ c.in_err-clock.ensures)

pub returns-in_err-contents : goal.returns-in_err-contents
returns-in_err-contents c =
    let ks = c.args.layout.now.kinds in
    at_exit c.from_residual-in_err-contents.result c.in_err-contents.field-0.0 _
    (Refuses (IsStart ks) (start_rows ks c.args.word.now) c.args.lines.now) c.from_residual-in_err-contents.ensures.1
    (refuses_second IsNumber (line_of_row (clock_words c.args.word.now)) (λ (n : ℕ). AreContents ks) (λ (n : ℕ). contents_lines ks)
    (line_once IsNumber (clock_words c.args.word.now) (clock_part c.args.word.now)) c.args.lines.now _ c.in_ok-clock.clock _
    c.in_ok-clock.ensures
    c.in_err-contents.ensures)
