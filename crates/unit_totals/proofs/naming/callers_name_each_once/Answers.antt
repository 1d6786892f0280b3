use Rattle.unit_totals.proofs.Named.{callers_name}
use Rattle.unit_totals.proofs.naming.callers_name_each_once.Goals as goal

pub returns : goal.returns
returns c = callers_name
