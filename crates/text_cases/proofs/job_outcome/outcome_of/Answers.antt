use Rattle.std.proofs.Common.{sym, ◌∙◌}
use Rattle.text_cases.proofs.Told.{told_read}
use Rattle.text_cases.proofs.job_outcome.outcome_of.Goals as goal

pub outcome_of_job-requires-clause-spelled : goal.outcome_of_job-requires-clause-spelled
outcome_of_job-requires-clause-spelled c = sym c.in_ok-source.ensures ∙ c.in-Ok.ensures.spelled.1

pub returns-in-Ok : goal.returns-in-Ok
returns-in-Ok c =
    told_read c.args.text.now c.in-Ok.job c.outcome_of_job.result c.in-Ok.ensures.spelled.0
    (sym c.in_ok-source.ensures ∙ c.in-Ok.ensures.spelled.1) c.outcome_of_job.ensures
