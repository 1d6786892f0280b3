-- What an operation is answered and does on the state that records show.
use Rattle.std.specs.Prelude.{◌≡◌, ℕ, List}
use Rattle.mont_base.specs.declared.record.Held.{Held}
use Rattle.mont_base.specs.declared.effect.Effect.{Effect}
use Rattle.mont_base.specs.declared.operation.Op.{Op}
use Rattle.mont_base.specs.declared.operation.Reply.{Reply}
use Rattle.mont_base.specs.Layout.{Shape}
use Rattle.mont_base.specs.State.{State, step}
use Rattle.mont_laws.specs.Effects.{IsOpOf}
use Rattle.mont_laws.specs.Structures.{HasStructure}

-- The records of a unit show a state on which the operation, which is one of the unit, has this
-- reply and these effects.
pub record Answers
    (s : Shape) (u : ℕ) (records : List Held) (op : Op) (reply : Reply) (effects : List Effect)
    : Type 0 where
  pub of_unit : IsOpOf s u op
  pub state : State
  pub shown : HasStructure s u records state
  pub replies : reply ≡ (step state op).reply
  pub does : effects ≡ (step state op).effects
