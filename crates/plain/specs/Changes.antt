-- Whether operations change a state that is reached step by step.
use Rattle.std.specs.Prelude.{◌≢◌, ◌⊎◌, List, [], ◌∷◌}
use Rattle.mont_base.specs.declared.operation.Entry.{Entry}
use Rattle.mont_base.specs.State.{State, step}

-- one of these operations inserts, replaces or removes something
abbrev pub SomeChanges : State → List Entry → Type 0
SomeChanges s [] = ⊥
SomeChanges s (e ∷ es) = ((step s e.op).effects ≢ []) ⊎ SomeChanges (step s e.op).state es
