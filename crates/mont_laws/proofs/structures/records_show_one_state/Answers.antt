use Rattle.mont_laws.proofs.Shown.{one_state}
use Rattle.mont_laws.proofs.structures.records_show_one_state.Goals as goal

pub returns : goal.returns
returns c = one_state
