use Rattle.job_text.proofs.OutcomeWords.{none_stands, it_stands}
use Rattle.job_text.proofs.outcome_reader.outcome_at.Goals as goal

pub returns-else-may_stand : goal.returns-else-may_stand
returns-else-may_stand c =
    none_stands _ c.args.units c.args.callers c.args.count c.args.place c.in_ok-outcome.outcome c.may_stand.result c.in_ok-outcome.ensures.0
    c.in_ok-outcome.ensures.1 c.if-may_stand.false c.may_stand.ensures.1

pub returns-then-may_stand : goal.returns-then-may_stand
returns-then-may_stand c =
    it_stands _ c.args.units c.args.callers c.args.count c.args.place c.in_ok-outcome.outcome c.may_stand.result c.in_ok-outcome.ensures.0
    c.in_ok-outcome.ensures.1 c.if-may_stand.true c.may_stand.ensures.0
