use Rattle.std.proofs.Common.{◌<◌, ◌^◌, List, length, ap, sym, ◌∙◌, subst}
use Rattle.std.specs.Prelude.{sum_by}
use Rattle.job_text.specs.declared.outcome.Outcome.{Outcome}
use Rattle.job_text.specs.PlainReport.{report_of}
use Rattle.big_job.specs.Generated.{generated_head}
use Rattle.job_store.specs.Base.{nothing}
use Rattle.job_store.specs.BigRun.{answered_in, met_clock_end}
use Rattle.job_store.proofs.Summaries.{Tells, by_lines, by_sync, few_outcomes, summarised}
use Rattle.job_store.proofs.big_run.summary_of.Goals.{then-is_err, else-is_err}
use Rattle.job_store.proofs.big_run.summary_of.Goals as goal

pub count_answered-answered-requires : goal.count_answered-answered-requires
count_answered-answered-requires c =
    let run = c.args.run.now in
    record {
      few = subst (λ (os : List (List Outcome)). sum_by (λ (o : List Outcome). length o) os < 2 ^ 64) (sym c.as_slice-outcomes.ensures)
          (few_outcomes c.args.number _ (report_of run.report) run.image.words c.requires.run.run);
    }

pub returns : goal.returns
returns c =
    let number = c.args.number in
    let run = c.args.run.now in
    let report = report_of run.report in
    let base = nothing generated_head.layout in
    let tells : Tells number base report run.image.words c.requires.run.run c.args.synced c.requires.synced c.if-is_err.clock_end =
    elim c.if-is_err.branch [
      | then-is_err w ↦ by_sync number base report run.image.words c.requires.run.run c.args.synced c.requires.synced
          c.if-is_err.clock_end (sym c.is_err.ensures.value ∙ w.if-is_err.true)
          (w.clock_end-is ∙ w.if-is_err.true)
      | else-is_err w ↦ by_lines number base report run.image.words c.requires.run.run c.args.synced c.requires.synced
          c.if-is_err.clock_end (sym c.is_err.ensures.value ∙ w.if-is_err.false)
          (w.clock_end-is ∙ w.has_clock_end-clock_end.ensures ∙ ap met_clock_end c.as_slice-outcomes.ensures)
    ] in
    summarised number base report run.image.words c.requires.run.run c.args.synced c.requires.synced c.if-is_err.clock_end
    (λ bytes. bytes.items) c.big_summary.result c.count_answered-answered.result
    (c.count_answered-answered.ensures ∙ ap answered_in c.as_slice-outcomes.ensures) tells c.big_summary.ensures
