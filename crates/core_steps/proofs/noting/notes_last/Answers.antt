use Rattle.core_steps.proofs.GrowthSteps.{notes_last}
use Rattle.core_steps.proofs.noting.notes_last.Goals as goal

pub returns : goal.returns
returns c = λ base core e note sound may is_true. notes_last base core sound e note may is_true
