use Rattle.std.proofs.Common.{map, subst}
use Rattle.std.specs.FinMap as finite
use Rattle.job_text.specs.declared.job.Job.{Job}
use Rattle.job_text.specs.PlainReport.{report_of}
use Rattle.store.specs.MapBoxes.{HaveEmptyBoxes}
use Rattle.job_store.specs.Base.{nothing}
use Rattle.job_store.specs.WholeRun.{IsRunOn}
use Rattle.job_store.proofs.big_run.run_big.Goals as goal

pub returns-clause-summary : goal.returns-clause-summary
returns-clause-summary g c =
    let run = c.in_ok-run.field-0.run in
    record {
      report = report_of run.report;
      image = run.image.words;
      run = (subst (λ (j : Job). IsRunOn j (nothing j.layout) run) c.in_ok-job.ensures.value c.in_ok-run.ensures.run).run;
      summary = c.in_ok-summary_of.ensures;
    }

pub returns-clause-boxes : goal.returns-clause-boxes
returns-clause-boxes g c =
    subst (λ (j : Job). HaveEmptyBoxes j.layout (map (λ b. finite.len (g.I.Index.places b)) c.args.indexes.items))
    c.in_ok-job.ensures.value c.in_ok-run.ensures.boxes
