use Rattle.std.proofs.Common.{refl, List, subst}
use Rattle.mont_base.specs.declared.operation.Entry.{Entry}
use Rattle.plain.specs.States.{states_of}
use Rattle.job_report.specs.FoundRuns.{AreRuns}
use Rattle.job_report.proofs.Telling.{faithful as tells}
use Rattle.job_report.proofs.reported.make_report.Goals as goal

pub returns : goal.returns
returns c =
    let runs : AreRuns (states_of c.args.stopped.base) c.args.stopped.histories c.in_ok-runs.runs =
    subst (λ (histories : List (List Entry)). AreRuns (states_of c.args.stopped.base) histories c.in_ok-runs.runs) c.as_slice.ensures
    c.in_ok-runs.ensures in record {
      made = refl;
      runs = runs;
      faithful = λ o callers image w.
          tells c.args.job.now o callers c.args.outcomes c.args.stopped image c.args.image_clock (states_of c.args.contents) w
          c.in_ok-runs.runs runs;
    }
