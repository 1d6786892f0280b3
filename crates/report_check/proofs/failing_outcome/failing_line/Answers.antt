use Rattle.std.proofs.Common.{◌≡◌, ◌∙◌, ◌+◌, ◌<◌, ◌≤◌, Bool, false, true, List, Some, ap, arith, below_more, length, refl, subst, sym, take}
use Rattle.std.specs.Prelude.{slice_get}
use Rattle.std.proofs.lemmas.Option.{slice_get_within}
use Rattle.job_text.specs.declared.outcome.Outcome.TheVariants.{At}
use Rattle.job_text.specs.PlainReport.{report_of}
use Rattle.report_check.specs.declared.shown_names.ShownNames.{ShownNames}
use Rattle.report_check.specs.HeldOutcomes.{times_before}
use Rattle.report_check.specs.Marks.{AreMarks}
use Rattle.report_check.specs.ShownNames.{HaveShown}
use Rattle.report_check.proofs.OutcomeWalk.{line_fails_marked, line_fails_next, line_holds, line_marked, line_shown, marks_end, other_holds, other_marked, other_shown, outcomes_past}
use Rattle.report_check.proofs.failing_outcome.failing_line.Goals as goal
use Rattle.report_check.proofs.failing_outcome.failing_line.Goals.{in-At+in-Some-next_entry+else-is_marked, in_default-outcome}

pub returns-in_default-next_entry-clause-outcomes :
    goal.returns-in_default-next_entry-clause-outcomes
returns-in_default-next_entry-clause-outcomes c =
    let r = report_of c.args.report.now in
    let os = c.as_slice-outcomes.result.now in
    let i = c.loop-line.line in
    let inside : i < length os = omega arith in
    let known : slice_get r.outcomes c.args.caller ≡ Some os = c.in-Some.ensures ∙ ap Some (sym c.as_slice-outcomes.ensures) in
    record {
      before = c.loop-line.invariant.below;
      fails = line_fails_next r c.args.caller os known i inside c.loop-line.shown c.loop-line.invariant.shown c.loop-line.marks
          c.loop-line.invariant.marks (At 0 0) c.in-At.unit c.in-At.place c.in-At.is c.in_default-next_entry.ensures.entry;
    }

pub returns-then-is_marked-clause-outcomes : goal.returns-then-is_marked-clause-outcomes
returns-then-is_marked-clause-outcomes c =
    let r = report_of c.args.report.now in
    let os = c.as_slice-outcomes.result.now in
    let i = c.loop-line.line in
    let inside : i < length os = omega arith in
    let known : slice_get r.outcomes c.args.caller ≡ Some os = c.in-Some.ensures ∙ ap Some (sym c.as_slice-outcomes.ensures) in
    record {
      before = c.loop-line.invariant.below;
      fails = line_fails_marked r c.args.caller os known i inside c.loop-line.shown c.loop-line.invariant.shown c.loop-line.marks
          c.loop-line.invariant.marks (At 0 0) c.in-At.unit c.in-At.place c.in-At.is (c.if-is_marked.ensures.0 refl);
    }

pub add-requires-clause-unit : goal.add-requires-clause-unit
add-requires-clause-unit c =
    slice_get_within c.loop-line.shown.fronts c.in-At.unit c.in-Some-next_entry.ensures.entry.front
    c.in-Some-next_entry.ensures.entry.known

pub loop-line-preserved : goal.loop-line-preserved
loop-line-preserved c =
    let r = report_of c.args.report.now in
    let caller = c.args.caller in
    let os = c.as_slice-outcomes.result.now in
    let i = c.loop-line.line in
    let inside : i < length os = omega arith in
    let known : slice_get r.outcomes caller ≡ Some os = c.in-Some.ensures ∙ ap Some (sym c.as_slice-outcomes.ensures) in
    let Shown : ShownNames → Type 0 = λ n. HaveShown r.histories (take (i + 1) os) n in
    let Marked : List (List Bool) → Type 0 = λ ms. AreMarks r.histories (times_before r caller (take (i + 1) os)) ms in
    elim c.match-outcome.branch [
      | in-At+in-Some-next_entry+else-is_marked w ↦
          let next = w.in-Some-next_entry.ensures.entry in
          record {
            shown = subst Shown (sym w.shown-is)
                (line_shown r caller os known i inside c.loop-line.shown c.loop-line.invariant.shown c.loop-line.marks
                c.loop-line.invariant.marks (At 0 0) w.in-At.unit w.in-At.place w.in-At.is w.in-Some-next_entry.entry.now next
                w.add.new.self w.add.ensures.calls w.add.ensures.newest w.add.ensures.fronts);
            marks = subst Marked (sym w.marks-is)
                (line_marked r caller os known i inside c.loop-line.shown c.loop-line.invariant.shown c.loop-line.marks
                c.loop-line.invariant.marks (At 0 0) w.in-At.unit w.in-At.place w.in-At.is w.mark.new.marks w.mark.ensures);
            below = below_more _ _ c.loop-line.invariant.below
                (line_holds r caller os known i inside c.loop-line.shown c.loop-line.invariant.shown c.loop-line.marks
                c.loop-line.invariant.marks (At 0 0) w.in-At.unit w.in-At.place w.in-At.is w.in-Some-next_entry.entry.now next
                (λ is. absurd (let t : false ≡ true = w.if-is_marked.ensures.1 is in cc)));
          }
      | in_default-outcome w ↦ record {
        shown = subst Shown (sym w.shown-is)
            (other_shown r caller os known i inside c.loop-line.shown c.loop-line.invariant.shown c.loop-line.marks
            c.loop-line.invariant.marks (At 0 0) w.in_default-outcome.not-At);
        marks = subst Marked (sym w.marks-is)
            (other_marked r caller os known i inside c.loop-line.shown c.loop-line.invariant.shown c.loop-line.marks
            c.loop-line.invariant.marks (At 0 0) w.in_default-outcome.not-At);
        below = below_more _ _ c.loop-line.invariant.below
            (other_holds r caller os known i inside c.loop-line.shown c.loop-line.invariant.shown c.loop-line.marks
            c.loop-line.invariant.marks (At 0 0) w.in_default-outcome.not-At);
      }
    ]

pub returns-clause-outcomes : goal.returns-clause-outcomes
returns-clause-outcomes c =
    let r = report_of c.args.report.now in
    let os = c.as_slice-outcomes.result.now in
    let known : slice_get r.outcomes c.args.caller ≡ Some os = c.in-Some.ensures ∙ ap Some (sym c.as_slice-outcomes.ensures) in
    let past : length os ≤ c.loop-line.line = omega arith in
    outcomes_past r c.args.caller os known c.loop-line.line past c.loop-line.invariant.below

pub returns-clause-marks : goal.returns-clause-marks
returns-clause-marks c _ =
    let r = report_of c.args.report.now in
    let os = c.as_slice-outcomes.result.now in
    let known : slice_get r.outcomes c.args.caller ≡ Some os = c.in-Some.ensures ∙ ap Some (sym c.as_slice-outcomes.ensures) in
    let past : length os ≤ c.loop-line.line = omega arith in
    marks_end r c.args.caller os known c.loop-line.line c.loop-line.marks past c.loop-line.invariant.marks
