use Rattle.std.proofs.Common.{ℕ, None, length, codes}
use Rattle.std.proofs.lemmas.Result.{MatchResult-weaker}
use Rattle.mont_base.specs.State.{QueueOf}
use Rattle.job_text.specs.Operations.{IsNumber}
use Rattle.job_text.specs.Readings.{Refuses}
use Rattle.job_text.specs.ReportText.{state_lines, item_words}
use Rattle.job_text.specs.ReportRanges.{AreCounted}
use Rattle.job_text.specs.ReportRows.{AllOf, RowsOf, count_words}
use Rattle.job_text.proofs.ReadLines.{at_exit}
use Rattle.job_text.proofs.RowParts.{count_part}
use Rattle.job_text.proofs.ListParts.{sized_reads, sized_refuses_head, sized_refuses_rest}
use Rattle.job_text.proofs.ContentsParts.{some_items, queue_is, queue_back, queue_rows}
use Rattle.job_text.proofs.contents_reader.next_queue.Goals as goal

pub returns-in_err-count : goal.returns-in_err-count
returns-in_err-count c =
    at_exit c.from_residual.result c.in_err-count.field-0.0 _
    (Refuses (AreCounted IsNumber) (λ is. state_lines None c.args.unit (QueueOf is)) c.args.lines.now) c.from_residual.ensures.1
    (sized_refuses_head (count_words (codes "queue") c.args.unit) (count_part (codes "queue") c.args.unit) (AllOf (λ (place : ℕ). IsNumber))
    (RowsOf item_words) length (λ n is h. h.1) (AreCounted IsNumber) (λ is. state_lines None c.args.unit (QueueOf is)) queue_is queue_back
    (queue_rows c.args.unit) some_items c.args.lines.now _ c.in_err-count.ensures)

pub returns : goal.returns
returns c =
    MatchResult-weaker c.next_items.result c.next_items.ensures
    (λ is read.
    sized_reads (count_words (codes "queue") c.args.unit) (count_part (codes "queue") c.args.unit) (AllOf (λ (place : ℕ). IsNumber))
    (RowsOf item_words) length (λ n is h. h.1) (AreCounted IsNumber) (λ is. state_lines None c.args.unit (QueueOf is)) queue_is queue_back
    (queue_rows c.args.unit) _ _ _ c.in_ok-count.count is c.in_ok-count.ensures read)
    (λ e refuses.
    sized_refuses_rest (count_words (codes "queue") c.args.unit) (count_part (codes "queue") c.args.unit) (AllOf (λ (place : ℕ). IsNumber))
    (RowsOf item_words) length (λ n is h. h.1) (AreCounted IsNumber) (λ is. state_lines None c.args.unit (QueueOf is)) queue_is queue_back
    (queue_rows c.args.unit) _ _ c.in_ok-count.count e c.in_ok-count.ensures refuses)
