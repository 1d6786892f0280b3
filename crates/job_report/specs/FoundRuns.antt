-- The runs of the ranges in histories.
use Rattle.std.specs.Prelude.{◌≡◌, ℕ, Bool, true, false, List, All, length, slice_get, Some}
use Rattle.mont_base.specs.declared.operation.Entry.{Entry}
use Rattle.mont_base.specs.declared.operation.Op.{Op}
use Rattle.mont_base.specs.declared.operation.Op.TheVariants as ops
use Rattle.mont_base.specs.History.{runs_of, IsShort}
use Rattle.mont_base.specs.State.{State, Run}

-- whether an operation is a range
abbrev pub asks_range : Op → Bool
asks_range (ops.ORange unit from to most) = true
asks_range _ = false

-- each unit whose ranges are short has the runs of its history
pub record AreRuns (base : List State) (histories : List (List Entry)) (runs : List (List Run))
    : Type 0 where
  pub units : length runs ≡ length histories
  pub each :
      (unit : ℕ) (state : State) (h : List Entry) → slice_get base unit ≡ Some state
      → slice_get histories unit ≡ Some h → All IsShort h
      → slice_get runs unit ≡ Some (runs_of state h)
