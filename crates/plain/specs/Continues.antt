-- The next entry of a legal history.
use Rattle.std.specs.Prelude.{◌≡◌, ℕ, ◌≤◌, Some}
use Rattle.mont_base.specs.declared.constants.TheConstants.{LAST}
use Rattle.mont_base.specs.declared.operation.Entry.{Entry}
use Rattle.mont_base.specs.declared.operation.Reply.{Reply}
use Rattle.mont_base.specs.Layout.{Shape}
use Rattle.mont_base.specs.State.{unit_of_op}

-- the entry is of the unit, has this reply, and its epoch is no earlier than the newest one
pub record ContinuesHistory (s : Shape) (unit newest : ℕ) (reply : Reply) (e : Entry) : Type 0 where
  pub of_unit : unit_of_op s e.op ≡ Some unit
  pub replied : e.reply ≡ reply
  pub later : newest ≤ e.epoch
  pub last : e.epoch ≤ LAST
