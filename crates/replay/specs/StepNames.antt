-- By which word each kind of event is named.
use Rattle.std.specs.Prelude.{ℕ, List, codes}
use Rattle.replay.specs.declared.step_name.StepName.{StepName}
use Rattle.replay.specs.declared.step_name.StepName.TheVariants as names

abbrev pub step_word : StepName → List ℕ
step_word names.Look = codes "look"
step_word names.Tell = codes "tell"
step_word names.Confirm = codes "confirm"
step_word names.Store = codes "store"
step_word names.Leave = codes "leave"
step_word names.Read = codes "read"
step_word names.Withdraw = codes "withdraw"
step_word names.Freeze = codes "freeze"
step_word names.Durable = codes "durable"
step_word names.Close = codes "close"
step_word names.PersistClose = codes "persistclose"
step_word names.Check = codes "check"
step_word names.LoadWord = codes "loadword"
step_word names.PersistWord = codes "persistword"
step_word names.SetClock = codes "setclock"
step_word names.PersistClock = codes "persistclock"

-- after the word stand numbers alone, and no answer and no part
abbrev pub IsNumbered : StepName → Type 0
IsNumbered names.Leave = ⊥
IsNumbered names.Read = ⊥
IsNumbered names.Durable = ⊥
IsNumbered _ = Unit {0}
