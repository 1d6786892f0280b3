use Rattle.mont_laws.proofs.Written.{step_retires}
use Rattle.mont_laws.proofs.retiring.written_records_retire.Goals as goal

pub returns : goal.returns
returns c = step_retires
