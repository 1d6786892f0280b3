use Rattle.std.proofs.Common.{◌≡◌, ◌++◌, ◌∷◌, [], List, length, ap, sym, subst, ◌∙◌, arith}
use Rattle.std.proofs.lemmas.List.{length_push}
use Rattle.mont_base.specs.declared.operation.Entry.{Entry}
use Rattle.mont_base.specs.State.{Run}
use Rattle.job_text.specs.Runs.{Spelled, spelled, HasRuns}
use Rattle.job_text.specs.TextParts.{rows_from, AllFrom}
use Rattle.job_text.specs.Readings.{Reads, Refuses}
use Rattle.job_text.specs.ReportRows.{AllOf}
use Rattle.job_text.proofs.ReadLines.{at_exit}
use Rattle.job_text.proofs.ListParts.{each_item, each_refuses, all_read}
use Rattle.job_text.proofs.Runs.{spelled_long, spelled_push, has_push, run_suits}
use Rattle.job_text.proofs.HistoryParts.{FewCallers, EntryAt, entry_rows, entry_once, some_entry}
use Rattle.job_text.proofs.entry_reader.next_entries.Goals as goal

pub returns-in_err-entry : goal.returns-in_err-entry
returns-in_err-entry c =
    let few : FewCallers c.args.callers = (c.requires, c.ranges.callers.fits) in
    at_exit c.from_residual.result c.in_err-entry.field-0.0 _
    (Refuses (AllOf (EntryAt c.args.callers few) c.args.count) (rows_from (entry_rows c.args.callers few) 0) c.args.lines.now)
    c.from_residual.ensures.1
    (each_refuses (EntryAt c.args.callers few) (entry_rows c.args.callers few) (entry_once c.args.callers few) c.args.count
    (some_entry c.args.callers few c.args.count) c.args.lines.now c.loop-place.lines (spelled c.loop-place.entries c.loop-place.runs)
    c.loop-place.place _ c.loop-place.invariant.0 (spelled_long c.loop-place.entries c.loop-place.runs ∙ c.loop-place.invariant.1)
    c.loop-place-test.true c.in_err-entry.ensures)

pub loop-place-preserved : goal.loop-place-preserved
loop-place-preserved c =
    let few : FewCallers c.args.callers = (c.requires, c.ranges.callers.fits) in
    let es = c.loop-place.entries in
    let rs = c.loop-place.runs in
    let e = c.in_ok-entry.entry in
    let run = c.in_ok-entry.run' in
    let read = c.in_ok-entry.ensures in
    let whole = each_item (EntryAt c.args.callers few) (entry_rows c.args.callers few) (entry_once c.args.callers few) c.args.lines.now
    c.loop-place.lines c.next_entry.new.lines (spelled es rs) c.loop-place.place (e, run) c.loop-place.invariant.0
    (spelled_long es rs ∙ c.loop-place.invariant.1) read in
    let same : spelled c.push.new.self c.keep_run.new.runs ≡ spelled es rs ++ (e, run) ∷ [] =
    (λ i. spelled (c.in_ok-push.ensures.ok i) (c.in_ok-keep_run.ensures i))
    ∙ spelled_push es rs e run c.loop-place.invariant.2 (run_suits e.reply run read.is.1) in (
      subst (λ (xs : List Spelled). Reads (AllFrom (EntryAt c.args.callers few) 0) (rows_from
          (entry_rows c.args.callers few) 0) c.args.lines.now
          c.next_entry.new.lines xs) (sym same) whole,
      omega (arith, ap length c.in_ok-push.ensures.ok, length_push es e, c.loop-place.invariant.1),
      subst (λ (xs : List Entry). HasRuns xs c.keep_run.new.runs) (sym c.in_ok-push.ensures.ok)
          (subst (λ (xs : List Run). HasRuns (es ++ e ∷ []) xs) (sym c.in_ok-keep_run.ensures)
          (has_push es rs e run c.loop-place.invariant.2)),
    )

pub returns : goal.returns
returns c =
    let few : FewCallers c.args.callers = (c.requires, c.ranges.callers.fits) in
    let es = c.loop-place.entries in
    let rs = c.loop-place.runs in
    let i = c.loop-place.invariant in (
      i.2,
      all_read (AllFrom (EntryAt c.args.callers few) 0) (rows_from (entry_rows c.args.callers few) 0) c.args.count c.args.lines.now
          c.loop-place.lines (spelled es rs) i.0 (omega (arith, spelled_long es rs, i.1)),
    )
