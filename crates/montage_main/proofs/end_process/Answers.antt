use Rattle.montage_tool.proofs.SaidLines.{told_or_not}
use Rattle.montage_main.proofs.end_process.Goals as goal

pub returns : goal.returns
returns g c = record {
  written = c.status_of-status.new.out;
  status = c.status_of-status.result;
  of_words = c.status_of-status.ensures;
  line = told_or_not c.status_of-status.new.out c.say.new.out c.say.result c.say.ensures.told c.say.ensures.untold;
  code = c.exit_of.ensures;
}
