use Rattle.mont_laws.proofs.Written.{effects_count}
use Rattle.mont_laws.proofs.retiring.effects_retire_as_many.Goals as goal

pub returns : goal.returns
returns c = λ unit x epoch rs ws es ts. effects_count unit x epoch rs es ws ts
