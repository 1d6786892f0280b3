use Rattle.report_check.proofs.AgreementLaws.{shape_of_report}
use Rattle.report_check.proofs.verdict_laws.reports_have_shape.Goals as goal

pub returns : goal.returns
returns c = shape_of_report
