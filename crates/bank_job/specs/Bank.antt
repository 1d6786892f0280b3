-- The store of the generated bank, and what its accounts hold at first.
use Rattle.std.specs.Prelude.{ℕ, List, map, decimal}
use Rattle.std.specs.List.{range_with_len}
use Rattle.mont_base.specs.declared.operation.Op.{Op}
use Rattle.mont_base.specs.declared.operation.Op.TheVariants.{Put}
use Rattle.mont_base.specs.Kinds.{old_kinds}
use Rattle.mont_base.specs.Layout.{Shape}

-- four maps, a queue and a graph
abbrev pub bank_layout : Shape
bank_layout = record { kinds = old_kinds 4; slots = 2048 }

-- the keys of the eight accounts, and what each holds at first
abbrev pub account : ℕ → List ℕ
account number = decimal number

abbrev pub opening_put : ℕ → Op
opening_put number = Put (account number) (decimal 1000)

-- the puts of the first accounts, of eight
unfoldable pub first_puts : ℕ → List Op
first_puts count = map opening_put (range_with_len 0 count)
