use Rattle.montage_tool.proofs.SaidLines.{told_or_not}
use Rattle.job_cases.proofs.ended_process.ended.Goals as goal

pub returns : goal.returns
returns g c = record {
  written = c.answer-status.new.out;
  status = c.answer-status.result;
  of_words = c.answer-status.ensures.answered;
  line = told_or_not c.answer-status.new.out c.say.new.out c.say.result c.say.ensures.told c.say.ensures.untold;
  code = c.exit_code.ensures;
}
