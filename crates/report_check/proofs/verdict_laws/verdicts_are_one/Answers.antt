use Rattle.report_check.proofs.VerdictLaws.{one_verdict}
use Rattle.report_check.proofs.verdict_laws.verdicts_are_one.Goals as goal

pub returns : goal.returns
returns c = one_verdict
