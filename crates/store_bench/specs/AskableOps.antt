-- What a store of a layout can be asked.
use Rattle.std.specs.Prelude.{IsSome}
use Rattle.mont_base.specs.declared.operation.Op.{Op}
use Rattle.mont_base.specs.Layout.{Shape}
use Rattle.mont_base.specs.State.{unit_of_op}

-- the layout has a unit for the operation
abbrev pub CanBeAsked : Shape → Op → Type 0
CanBeAsked s op = IsSome (unit_of_op s op)
