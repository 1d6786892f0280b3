use Rattle.std.proofs.Common.{ℕ, [], refl, sym, ◌∙◌, subst, arith}
use Rattle.std.specs.Prelude.{AllPairs, None}
use Rattle.std.proofs.lemmas.List.{take_all}
use Rattle.job_text.specs.declared.outcome.Outcome.TheVariants.{At}
use Rattle.job_text.specs.Outcomes.{InOrder}
use Rattle.job_text.specs.PlainReport.{report_of}
use Rattle.mont_check.specs.Ahead.{AreAhead}
use Rattle.mont_check.specs.AnsweredCallers.{AnswersInOrder}
use Rattle.mont_check.proofs.AnswerLaws.{AskFor, adds_never, ask_more, ask_never, asked_for_all, line_found, more_in_order, more_shown, not_allowed}
use Rattle.mont_check.proofs.answered.answer_in_order.Goals as goal

pub returns-then-not-allows : goal.returns-then-not-allows
returns-then-not-allows c =
    let a = c.args in
    let r = report_of c.args.report.now in
    adds_never r (λ records. AnswersInOrder a.job.now r records a.lines.now a.outcomes.now) a.questions.now.items c.loop-at.questions.items
    (λ records answers. absurd
    (let never =
    (not_allowed a.job.now r records a.lines.now a.outcomes.now c.loop-at.at (At 0 0) c.loop-at.progress c.loop-at-test.true
    c.loop-at.invariant.shown c.if-not-allows.ensures.1).1 answers in cc))

pub returns-then-is_wrong : goal.returns-then-is_wrong
returns-then-is_wrong c =
    let a = c.args in
    let r = report_of c.args.report.now in
    ask_never a.job.now r a.lines.now a.outcomes.now a.questions.now.items c.loop-at.at c.loop-at.questions.items c.answers-found.result
    c.loop-at.invariant.asked
    (λ records. line_found a.job.now r records a.lines.now a.outcomes.now c.loop-at.at (At 0 0) c.loop-at.progress c.loop-at-test.true
    c.loop-at.invariant.shown c.index-lines-at.result c.as_slice-ahead.result.now None c.answers-found.result (omega arith)
    c.index-lines-at.is
    (subst (AreAhead a.report.now.layout a.lines.now a.outcomes.now) (sym c.as_slice-ahead.ensures.value) c.in_ok-ahead.ensures)
    c.answers-found.ensures)
    (sym c.is_wrong.ensures ∙ c.if-is_wrong.true)

pub loop-at-preserved : goal.loop-at-preserved
loop-at-preserved c =
    let a = c.args in
    let r = report_of c.args.report.now in
    record {
      shown =
          more_shown a.job.now r [] a.lines.now a.outcomes.now c.loop-at.at (At 0 0) c.loop-at.progress c.loop-at-test.true
          c.loop-at.invariant.shown c.note.new.self c.in_ok-note.ensures;
      asked =
          ask_more a.job.now r a.lines.now a.outcomes.now a.questions.now.items c.loop-at.at c.loop-at.questions.items
          c.answers-found.result
          c.loop-at.invariant.asked
          (λ records. line_found a.job.now r records a.lines.now a.outcomes.now c.loop-at.at (At 0 0) c.loop-at.progress c.loop-at-test.true
          c.loop-at.invariant.shown c.index-lines-at.result c.as_slice-ahead.result.now None c.answers-found.result (omega arith)
          c.index-lines-at.is
          (subst (AreAhead a.report.now.layout a.lines.now a.outcomes.now) (sym c.as_slice-ahead.ensures.value) c.in_ok-ahead.ensures)
          c.answers-found.ensures)
          c.ask.new.questions.items (sym c.is_wrong.ensures ∙ c.if-is_wrong.false) c.in_ok-ask.ensures;
      order =
          more_in_order a.job.now r [] a.lines.now a.outcomes.now c.loop-at.at (At 0 0) c.loop-at.progress c.loop-at-test.true
          c.loop-at.invariant.shown (c.if-not-allows.ensures.0 refl) c.loop-at.invariant.order;
    }

pub returns : goal.returns
returns c =
    let a = c.args in
    let r = report_of c.args.report.now in
    asked_for_all a.job.now r a.lines.now a.outcomes.now a.questions.now.items c.loop-at.questions.items
    (subst (λ (n : ℕ). AskFor a.job.now r a.lines.now a.outcomes.now a.questions.now.items n c.loop-at.questions.items) (omega arith)
    c.loop-at.invariant.asked)
    (subst (AllPairs (InOrder c.args.report.now.histories)) (take_all c.loop-at.at c.args.outcomes.now (omega arith))
    c.loop-at.invariant.order)
