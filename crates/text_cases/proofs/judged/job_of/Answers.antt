use Rattle.std.proofs.Common.{sym, ◌∙◌}
use Rattle.text_cases.proofs.judged.job_of.Goals as goal

pub returns-in-Ok : goal.returns-in-Ok
returns-in-Ok c = sym c.in_ok-source.ensures ∙ c.in-Ok.ensures.spelled.1
