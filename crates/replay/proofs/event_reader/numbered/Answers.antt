use Rattle.std.proofs.Common.{ℕ, List, Bor, map}
use Rattle.replay.specs.declared.step_name.StepName.TheVariants as names
use Rattle.replay.proofs.StepSpelling.{numbered_alone, no_look, no_tell, no_confirm, no_store, no_withdraw, no_freeze, no_close, no_persistclose, no_check, no_loadword, no_persistword, no_setclock, no_persistclock}
use Rattle.replay.proofs.event_reader.numbered.Goals as goal

abbrev all : List (Bor (List ℕ)) → List (List ℕ)
all words = map (λ word. word.now) words

pub returns-in_err-unit-in-Look : goal.returns-in_err-unit-in-Look
returns-in_err-unit-in-Look c = rw c.from_residual.ensures (numbered_alone c.args.name names.Look (all c.args.args.now) c.in-Look.is
    (no_look _ c.in_err-unit-in-Look.ensures))

pub returns-in_err-unit-in-Tell : goal.returns-in_err-unit-in-Tell
returns-in_err-unit-in-Tell c = rw c.from_residual-in_err-unit-in-Tell.ensures
    (numbered_alone c.args.name names.Tell (all c.args.args.now) c.in-Tell.is
    (no_tell _ c.in_err-unit-in-Tell.ensures))

pub returns-in_err-unit-in-Confirm : goal.returns-in_err-unit-in-Confirm
returns-in_err-unit-in-Confirm c = rw c.from_residual-in_err-unit-in-Confirm.ensures
    (numbered_alone c.args.name names.Confirm (all c.args.args.now) c.in-Confirm.is
    (no_confirm _ c.in_err-unit-in-Confirm.ensures))

pub returns-in_err-unit-in-Store : goal.returns-in_err-unit-in-Store
returns-in_err-unit-in-Store c = rw c.from_residual-in_err-unit-in-Store.ensures
    (numbered_alone c.args.name names.Store (all c.args.args.now) c.in-Store.is
    (no_store _ c.in_err-unit-in-Store.ensures))

pub returns-in_err-unit-in-Withdraw : goal.returns-in_err-unit-in-Withdraw
returns-in_err-unit-in-Withdraw c = rw c.from_residual-in_err-unit-in-Withdraw.ensures
    (numbered_alone c.args.name names.Withdraw (all c.args.args.now) c.in-Withdraw.is
    (no_withdraw _ c.in_err-unit-in-Withdraw.ensures))

pub returns-in_err-unit-in-Freeze : goal.returns-in_err-unit-in-Freeze
returns-in_err-unit-in-Freeze c = rw c.from_residual-in_err-unit-in-Freeze.ensures
    (numbered_alone c.args.name names.Freeze (all c.args.args.now) c.in-Freeze.is
    (no_freeze _ c.in_err-unit-in-Freeze.ensures))

pub returns-in_err-unit-in-Close : goal.returns-in_err-unit-in-Close
returns-in_err-unit-in-Close c = rw c.from_residual-in_err-unit-in-Close.ensures
    (numbered_alone c.args.name names.Close (all c.args.args.now) c.in-Close.is
    (no_close _ c.in_err-unit-in-Close.ensures))

pub returns-in_err-unit-in-PersistClose : goal.returns-in_err-unit-in-PersistClose
returns-in_err-unit-in-PersistClose c = rw c.from_residual-in_err-unit-in-PersistClose.ensures
    (numbered_alone c.args.name names.PersistClose (all c.args.args.now) c.in-PersistClose.is
    (no_persistclose _ c.in_err-unit-in-PersistClose.ensures))

pub returns-in_err-numbers-in-Check : goal.returns-in_err-numbers-in-Check
returns-in_err-numbers-in-Check c = rw c.from_residual-in_err-numbers-in-Check.ensures
    (numbered_alone c.args.name names.Check (all c.args.args.now) c.in-Check.is
    (no_check _ c.in_err-numbers-in-Check.ensures))

pub returns-in_err-numbers-in-LoadWord : goal.returns-in_err-numbers-in-LoadWord
returns-in_err-numbers-in-LoadWord c = rw c.from_residual-in_err-numbers-in-LoadWord.ensures
    (numbered_alone c.args.name names.LoadWord (all c.args.args.now) c.in-LoadWord.is
    (no_loadword _ c.in_err-numbers-in-LoadWord.ensures))

pub returns-in_err-numbers-in-PersistWord : goal.returns-in_err-numbers-in-PersistWord
returns-in_err-numbers-in-PersistWord c =
    rw c.from_residual-in_err-numbers-in-PersistWord.ensures
    (numbered_alone c.args.name names.PersistWord (all c.args.args.now) c.in-PersistWord.is
    (no_persistword _ c.in_err-numbers-in-PersistWord.ensures))

pub returns-in_err-numbers-in-SetClock : goal.returns-in_err-numbers-in-SetClock
returns-in_err-numbers-in-SetClock c = rw c.from_residual-in_err-numbers-in-SetClock.ensures
    (numbered_alone c.args.name names.SetClock (all c.args.args.now) c.in-SetClock.is
    (no_setclock _ c.in_err-numbers-in-SetClock.ensures))

pub returns-in_err-numbers-in-PersistClock : goal.returns-in_err-numbers-in-PersistClock
returns-in_err-numbers-in-PersistClock c =
    rw c.from_residual-in_err-numbers-in-PersistClock.ensures
    (numbered_alone c.args.name names.PersistClock (all c.args.args.now) c.in-PersistClock.is
    (no_persistclock _ c.in_err-numbers-in-PersistClock.ensures))
