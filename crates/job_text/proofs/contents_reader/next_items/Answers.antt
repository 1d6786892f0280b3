use Rattle.std.proofs.Common.{ℕ, List, length, ap, sym, subst, arith}
use Rattle.std.proofs.lemmas.List.{length_push}
use Rattle.job_text.specs.Operations.{IsNumber}
use Rattle.job_text.specs.TextParts.{AllFrom}
use Rattle.job_text.specs.Readings.{Reads, Refuses}
use Rattle.job_text.specs.ReportText.{item_words}
use Rattle.job_text.specs.ReportRows.{AllOf, RowsOf}
use Rattle.job_text.proofs.ReadLines.{at_exit}
use Rattle.job_text.proofs.ListParts.{each_item, each_refuses}
use Rattle.job_text.proofs.ContentsParts.{item_rows, items_each_once, some_item}
use Rattle.job_text.proofs.contents_reader.next_items.Goals as goal

pub returns-in_err-item : goal.returns-in_err-item
returns-in_err-item c =
    let i = c.loop-place.invariant in
    at_exit c.from_residual.result c.in_err-item.field-0.0 _ (Refuses (AllOf (λ (place : ℕ). IsNumber) c.args.count)
    (RowsOf item_words) c.args.lines.now)
    c.from_residual.ensures.1
    (each_refuses (λ (place : ℕ). IsNumber) item_rows items_each_once c.args.count
    (some_item c.args.count) c.args.lines.now c.loop-place.lines
    c.loop-place.state c.loop-place._place _ i.0 i.1 c.loop-place-test.true c.in_err-item.ensures)

pub loop-place-preserved : goal.loop-place-preserved
loop-place-preserved c =
    let i = c.loop-place.invariant in
    let whole = each_item (λ (place : ℕ). IsNumber) item_rows items_each_once c.args.lines.now c.loop-place.lines c.next_item.new.lines
    c.loop-place.state c.loop-place._place c.in_ok-item.item i.0 i.1 c.in_ok-item.ensures in (
      subst (λ (xs : List ℕ). Reads (AllFrom (λ (place : ℕ). IsNumber) 0) (RowsOf item_words) c.args.lines.now c.next_item.new.lines xs)
          (sym c.in_ok-push.ensures.ok) whole,
      omega (arith, ap length c.in_ok-push.ensures.ok, length_push c.loop-place.state c.in_ok-item.item, i.1),
    )
