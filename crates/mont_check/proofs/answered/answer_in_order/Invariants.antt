use Rattle.std.proofs.Common.{take}
use Rattle.std.specs.Prelude.{AllPairs}
use Rattle.job_text.specs.Outcomes.{InOrder}
use Rattle.job_text.specs.PlainReport.{report_of}
use Rattle.mont_check.specs.Progress.{HasShown}
use Rattle.mont_check.proofs.AnswerLaws.{AskFor}
use Rattle.mont_check.proofs.answered.answer_in_order.Given as goal

abbrev pub invariant-loop-at : goal.invariant-loop-at
invariant-loop-at l = record {
  shown : HasShown l.report.histories (take l.at l.outcomes) l.progress;
  asked : AskFor l.job (report_of l.report) l.lines l.outcomes l.initial.questions.items l.at l.questions.items;
  order : AllPairs (InOrder l.report.histories) (take l.at l.outcomes);
}
