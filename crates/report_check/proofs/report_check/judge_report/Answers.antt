use Rattle.std.proofs.Common.{Ok, refl, subst}
use Rattle.job_text.specs.PlainReport.{report_of}
use Rattle.report_check.specs.HeldEntries.{EntryHolds}
use Rattle.report_check.specs.HeldOutcomes.{OutcomeHolds}
use Rattle.report_check.specs.Lowest.{IsFirstPair}
use Rattle.report_check.proofs.Judging.{all_named, first_unnamed}
use Rattle.report_check.proofs.report_check.judge_report.Goals as goal

pub returns-in-Some-first_unmarked : goal.returns-in-Some-first_unmarked
returns-in-Some-first_unmarked c image =
    let r = report_of c.args.report.now in (
      record {
        before = record {
          layout = refl;
          entries = subst (IsFirstPair (EntryHolds r)) c.in_default.is c.in_ok-unit.ensures;
        };
        outcomes = subst (IsFirstPair (OutcomeHolds r)) c.in_default-2.is c.in_ok-caller.ensures.outcomes;
      },
      first_unnamed r c.failing_outcome.new.marks (c.in_ok-caller.ensures.marks (λ i. Ok (c.in_default-2.is i)))
          c.in-Some-first_unmarked.unit c.in-Some-first_unmarked.place c.in-Some-first_unmarked.ensures,
    )

pub returns : goal.returns
returns c =
    let r = report_of c.args.report.now in
    record {
      before = record {
        before = record {
          layout = refl;
          entries = subst (IsFirstPair (EntryHolds r)) c.in_default.is c.in_ok-unit.ensures;
        };
        outcomes = subst (IsFirstPair (OutcomeHolds r)) c.in_default-2.is c.in_ok-caller.ensures.outcomes;
      };
      named = all_named r c.failing_outcome.new.marks (c.in_ok-caller.ensures.marks (λ i. Ok (c.in_default-2.is i))) c.in-None.ensures;
    }
