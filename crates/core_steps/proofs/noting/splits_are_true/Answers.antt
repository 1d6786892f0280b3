use Rattle.core_steps.proofs.SplitLaws.{split_is_true}
use Rattle.core_steps.proofs.noting.splits_are_true.Goals as goal

pub returns : goal.returns
returns c = λ base core part note sound shown. split_is_true base core sound part note shown
