use Rattle.report_check.proofs.AgreementLaws.{yes_where_agreed}
use Rattle.report_check.proofs.verdict_laws.yes_is_agreement.Goals as goal

pub returns : goal.returns
returns c = yes_where_agreed
