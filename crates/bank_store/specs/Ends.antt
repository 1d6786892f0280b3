-- What came of the shifts of a caller, one after the other: of each the receipts of its two
-- entries, or none.
use Rattle.std.specs.Prelude.{◌≡◌, List, [], ◌∷◌, ◌++◌, Option, Some, None}
use Rattle.std.specs.List.{flat_map}
use Rattle.mont_base.specs.declared.operation.Receipt.{Receipt}
use Rattle.bank_job.specs.declared.shifts.Shift.{Shift}
use Rattle.shard_map.specs.MapShift.{IsMove}
use Rattle.store.specs.Shifting.{higher_of, lower_of}

-- the receipt of the entry that takes the amount out, and that of the one which adds it
abbrev pub End : Type 0
End = Option (Receipt × Receipt)

-- a caller is given that of the lower unit first
abbrev pub receipts_given : End → List Receipt
receipts_given None = []
receipts_given (Some pair) = lower_of pair ∷ higher_of pair ∷ []

abbrev pub all_given : List End → List Receipt
all_given ends = flat_map receipts_given ends

-- The amount goes from the one account to the other, by two entries of one epoch.
pub record HasGone (shift : Shift) (pair : Receipt × Receipt) : Type 0 where
  pub moved : IsMove shift.from shift.to shift.amount pair.0.entry.op pair.0.entry.reply
      pair.1.entry.op pair.1.entry.reply
  pub epoch : pair.0.entry.epoch ≡ pair.1.entry.epoch

-- This holds of each shift and its end, with the receipts that its caller was given before it and
-- after it. Those before the first shift are the earlier ones.
abbrev pub HoldsOfEach :
    (Shift → End → List Receipt → List Receipt → Type 0) → List Receipt → List Shift → List End
    → Type 0
HoldsOfEach Holds earlier [] [] = Unit {0}
HoldsOfEach Holds earlier (shift ∷ shifts) (end ∷ ends) =
    Holds shift end earlier (all_given ends)
    × HoldsOfEach Holds (earlier ++ receipts_given end) shifts ends
HoldsOfEach Holds earlier _ _ = ⊥
