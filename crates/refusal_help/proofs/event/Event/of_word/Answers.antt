use Rattle.std.proofs.Common.{◌≡◌, ℕ, ◌<◌, get_or, sym, ap, ◌∙◌, refl, arith, lit<}
use Rattle.refusal_help.specs.declared.event.Event.{Event}
use Rattle.refusal_help.specs.declared.event.Event.TheVariants as names
use Rattle.refusal_help.specs.declared.event.TheConstants.{EVENTS}
use Rattle.refusal_help.specs.Table.{event_word}
use Rattle.refusal_help.proofs.event.Event.of_word.Goals as goal

-- each name stands at its place
named : (n : Event) → (k : ℕ) × (k < 16) × (get_or EVENTS k names.Look ≡ n)
named names.Look = (0, lit< tt, refl)
named names.Tell = (1, lit< tt, refl)
named names.Confirm = (2, lit< tt, refl)
named names.Store = (3, lit< tt, refl)
named names.Leave = (4, lit< tt, refl)
named names.Read = (5, lit< tt, refl)
named names.Withdraw = (6, lit< tt, refl)
named names.Freeze = (7, lit< tt, refl)
named names.Durable = (8, lit< tt, refl)
named names.Close = (9, lit< tt, refl)
named names.PersistClose = (10, lit< tt, refl)
named names.Check = (11, lit< tt, refl)
named names.LoadWord = (12, lit< tt, refl)
named names.PersistWord = (13, lit< tt, refl)
named names.SetClock = (14, lit< tt, refl)
named names.PersistClock = (15, lit< tt, refl)

pub returns : goal.returns
returns c = λ n is.
    let at = named n in
    c.loop-name.invariant at.0 names.Look (omega (arith, at.1)) (is ∙ ap event_word (sym at.2))
