use Rattle.std.proofs.Common.{List, subst, arith}
use Rattle.std.specs.Prelude.{◌↔◌, IsTrue}
use Rattle.std.proofs.lemmas.Option.{slice_get_within}
use Rattle.job_text.specs.PlainReport.{report_of}
use Rattle.mont_check.specs.declared.moments.Question.{Question}
use Rattle.mont_check.specs.AnsweredCallers.{AllMet}
use Rattle.mont_check.proofs.AnswerLaws.{ask_caller, never_caller}
use Rattle.mont_check.proofs.answered.are_answered.Goals as goal

pub returns-then-not-all_cuts_last : goal.returns-then-not-all_cuts_last
returns-then-not-all_cuts_last c = (
  λ yes. absurd cc,
  λ each. c.if-not-all_cuts_last.ensures.1 (λ caller os known i j d before low. ((each caller os known).order i j d before low).uncut),
)

pub returns-then-not-branch : goal.returns-then-not-branch
returns-then-not-branch c =
    never_caller c.args.job.now (report_of c.args.report.now) c.loop-caller.caller c.loop-caller.questions.items
    c.is_answered.new.questions.items
    c.in_ok-is_answered.field-0 c.if-not-branch.true c.loop-caller.invariant c.in_ok-is_answered.ensures c.args.records.now

pub loop-caller-preserved : goal.loop-caller-preserved
loop-caller-preserved c =
    ask_caller c.args.job.now (report_of c.args.report.now) c.loop-caller.caller c.loop-caller.questions.items
    c.is_answered.new.questions.items
    c.in_ok-is_answered.field-0 c.if-not-branch.false c.loop-caller.invariant c.in_ok-is_answered.ensures

pub returns : goal.returns
returns c =
    let records = c.args.records.now in
    let asked = c.loop-caller.invariant c.args.records.now in
    let met = subst (λ (qs : List Question). IsTrue c.in_ok-met.met ↔ AllMet (report_of c.args.report.now) c.args.records.now qs)
    c.as_slice.ensures.value c.in_ok-met.ensures in (
      λ yes caller os there. asked.0 (met.0 yes) caller
          (let low = slice_get_within c.args.report.now.outcomes caller os there in omega arith) os there,
      λ each. met.1 (asked.1 (λ u low. each u)),
    )
