use Rattle.std.proofs.Common.{◌≡◌, ◌++◌, ◌∷◌, [], List, length, ap, sym, subst, ◌∙◌, arith}
use Rattle.std.proofs.lemmas.List.{length_push}
use Rattle.mont_base.specs.declared.operation.Entry.{Entry}
use Rattle.mont_base.specs.State.{Run}
use Rattle.job_text.specs.Runs.{Spelled, spelled, spelled_all, HaveRuns}
use Rattle.job_text.proofs.Runs.{spelled_all_long, spelled_all_push, have_push}
use Rattle.job_text.specs.TextParts.{AllFrom}
use Rattle.job_text.specs.Readings.{Reads, Refuses}
use Rattle.job_text.specs.ReportText.{history_lines, histories_lines}
use Rattle.job_text.specs.ReportRanges.{IsSpelled, AreCounted}
use Rattle.job_text.specs.ReportRows.{AllOf}
use Rattle.job_text.proofs.ReadLines.{at_exit}
use Rattle.job_text.proofs.ListParts.{each_item, each_refuses, all_read}
use Rattle.job_text.proofs.HistoryParts.{FewCallers, history_once, some_history}
use Rattle.job_text.proofs.history_reader.next_histories.Goals as goal

pub returns-in_err-history : goal.returns-in_err-history
returns-in_err-history c =
    let few : FewCallers c.args.callers = (c.requires, c.ranges.callers.fits) in
    at_exit c.from_residual.result c.in_err-history.field-0.0 _
    (Refuses (AllOf (λ unit h. AreCounted (IsSpelled c.args.callers) h) c.args.units) histories_lines c.args.lines.now)
    c.from_residual.ensures.1
    (each_refuses (λ unit h. AreCounted (IsSpelled c.args.callers) h) history_lines (history_once c.args.callers few) c.args.units
    (some_history c.args.callers few c.args.units) c.args.lines.now c.loop-unit.lines
    (spelled_all c.loop-unit.histories c.loop-unit.runs) c.loop-unit.unit _
    c.loop-unit.invariant.0 (spelled_all_long c.loop-unit.histories c.loop-unit.runs ∙ c.loop-unit.invariant.1) c.loop-unit-test.true
    c.in_err-history.ensures)

pub loop-unit-preserved : goal.loop-unit-preserved
loop-unit-preserved c =
    let few : FewCallers c.args.callers = (c.requires, c.ranges.callers.fits) in
    let hs = c.loop-unit.histories in
    let rss = c.loop-unit.runs in
    let own = c.in_ok-history.ensures in
    let whole = each_item (λ unit h. AreCounted (IsSpelled c.args.callers) h) history_lines
    (history_once c.args.callers few) c.args.lines.now
    c.loop-unit.lines c.next_history.new.lines (spelled_all hs rss) c.loop-unit.unit
    (spelled c.in_ok-history.history c.in_ok-history.own) c.loop-unit.invariant.0
    (spelled_all_long hs rss ∙ c.loop-unit.invariant.1) own.1 in
    let same : spelled_all c.push.new.self c.push-in-loop-unit.new.self ≡ spelled_all hs rss
    ++ spelled c.in_ok-history.history c.in_ok-history.own ∷ [] =
    (λ i. spelled_all (c.in_ok-push.ensures.ok i) (c.in_ok-push-2.ensures.ok i))
    ∙ spelled_all_push hs rss c.in_ok-history.history c.in_ok-history.own c.loop-unit.invariant.2 in (
      subst (λ (xs : List (List Spelled)). Reads (AllFrom (λ unit h. AreCounted
          (IsSpelled c.args.callers) h) 0) histories_lines c.args.lines.now
          c.next_history.new.lines xs) (sym same) whole,
      omega (
        arith,
        ap length c.in_ok-push.ensures.ok,
        length_push c.loop-unit.histories c.in_ok-history.history,
        c.loop-unit.invariant.1,
      ),
      subst (λ (xs : List (List Entry)). HaveRuns xs c.push-in-loop-unit.new.self) (sym c.in_ok-push.ensures.ok)
          (subst (λ (xs : List (List Run)). HaveRuns (hs ++ c.in_ok-history.history ∷ []) xs) (sym c.in_ok-push-2.ensures.ok)
          (have_push hs rss c.in_ok-history.history c.in_ok-history.own c.loop-unit.invariant.2 own.0)),
    )

pub returns : goal.returns
returns c =
    let hs = c.loop-unit.histories in
    let rss = c.loop-unit.runs in
    let i = c.loop-unit.invariant in (
      i.2,
      all_read (AllFrom (λ unit h. AreCounted (IsSpelled c.args.callers) h) 0) histories_lines c.args.units c.args.lines.now
          c.loop-unit.lines (spelled_all hs rss) i.0 (omega (arith, spelled_all_long hs rss, i.1)),
    )
