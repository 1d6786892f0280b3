-- What an answer needs beside what is judged.
use Rattle.std.specs.Prelude.{◌≡◌, ◌≢◌, ℕ, ◌≤◌, [], None}
use Rattle.core_steps.specs.declared.parts.UnitPart.{UnitPart}
use Rattle.core_steps.specs.declared.parts.CallerPart.{CallerPart}
use Rattle.core_steps.specs.declared.parts.UnitStage.TheVariants.{Idle, Within}
use Rattle.core_steps.specs.CallAnswers.{HasNumbers}

-- the unit has written all that it writes in its epoch, and the caller has seen nothing later
pub record IsReadyToLeave (p : UnitPart) (q : CallerPart) (epoch : ℕ) : Type 0 where
  pub unfrozen : p.frozen ≡ None
  pub stage : p.stage ≡ Within epoch
  pub whole : p.writing ≡ None
  pub some : p.written ≢ []
  pub numbers : HasNumbers p q
  pub newest : q.newest ≤ epoch

-- the unit has nothing announced
pub record IsReadyToRead (p : UnitPart) (q : CallerPart) : Type 0 where
  pub unfrozen : p.frozen ≡ None
  pub stage : p.stage ≡ Idle
  pub numbers : HasNumbers p q
