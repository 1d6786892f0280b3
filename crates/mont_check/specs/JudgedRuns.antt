-- Ranges whose runs have room in memory.
use Rattle.std.specs.Prelude.{◌≡◌, ℕ, List, All, slice_get, Some}
use Rattle.mont_base.specs.declared.operation.Entry.{Entry}
use Rattle.mont_base.specs.History.{IsShort}
use Rattle.mont_base.specs.State.{State}

-- all in the histories of units that have a state
abbrev pub AreShort : List State → List (List Entry) → Type 0
AreShort base histories =
    (unit : ℕ) (state : State) (h : List Entry) → slice_get base unit ≡ Some state
    → slice_get histories unit ≡ Some h → All IsShort h
