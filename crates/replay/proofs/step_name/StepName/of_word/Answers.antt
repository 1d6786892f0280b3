use Rattle.std.proofs.Common.{◌≡◌, ℕ, ◌<◌, get_or, sym, ap, ◌∙◌, refl, arith, lit<}
use Rattle.replay.specs.declared.step_name.StepName.{StepName}
use Rattle.replay.specs.declared.step_name.StepName.TheVariants as names
use Rattle.replay.specs.StepNames.{step_word}
use Rattle.replay.specs.declared.step_name.TheConstants.{ALL}
use Rattle.replay.proofs.step_name.StepName.of_word.Goals as goal

-- each name stands at its place
named : (n : StepName) → (k : ℕ) × (k < 16) × (get_or ALL k names.Look ≡ n)
named names.Look = (0, lit< tt, refl)
named names.Tell = (1, lit< tt, refl)
named names.Confirm = (2, lit< tt, refl)
named names.Store = (3, lit< tt, refl)
named names.Leave = (4, lit< tt, refl)
named names.Read = (5, lit< tt, refl)
named names.Withdraw = (6, lit< tt, refl)
named names.Freeze = (7, lit< tt, refl)
named names.Durable = (8, lit< tt, refl)
named names.Close = (9, lit< tt, refl)
named names.PersistClose = (10, lit< tt, refl)
named names.Check = (11, lit< tt, refl)
named names.LoadWord = (12, lit< tt, refl)
named names.PersistWord = (13, lit< tt, refl)
named names.SetClock = (14, lit< tt, refl)
named names.PersistClock = (15, lit< tt, refl)

pub returns : goal.returns
returns c = λ n is.
    let at = named n in
    c.loop-name.invariant at.0 names.Look (omega (arith, at.1)) (is ∙ ap step_word (sym at.2))
