use Rattle.mont_laws.proofs.Agreement.{as_many}
use Rattle.mont_laws.proofs.structures.records_have_size.Goals as goal

pub returns : goal.returns
returns c = λ s unit rs state apart. as_many s unit rs apart state
