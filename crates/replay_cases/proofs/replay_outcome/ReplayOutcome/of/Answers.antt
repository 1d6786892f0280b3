use Rattle.std.proofs.Common.{Err, sym, ap, ◌∙◌}
use Rattle.replay_cases.proofs.replay_outcome.ReplayOutcome.of.Goals as goal

pub returns-in-Ok-replay : goal.returns-in-Ok-replay
returns-in-Ok-replay c = (
  c.in-Ok.schedule,
  c.in-Ok.ensures.spelled.0,
  sym c.in_ok-source.ensures ∙ c.in-Ok.ensures.spelled.1,
  c.in-Ok-replay.ensures.told,
)

pub returns-in-Err-NotAllowed : goal.returns-in-Err-NotAllowed
returns-in-Err-NotAllowed c = (
  c.in-Ok.schedule,
  c.in-Ok.ensures.spelled.0,
  sym c.in_ok-source.ensures ∙ c.in-Ok.ensures.spelled.1,
  c.in-Err-NotAllowed.ensures.refused c.in-Err-NotAllowed.line (ap Err c.in-Err-NotAllowed.field-0-is),
)
