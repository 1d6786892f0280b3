-- The receipt of an answered call is the last that the pass keeps.
use Rattle.std.specs.Prelude.{◌≡◌, List, [], ◌∷◌, ◌++◌}
use Rattle.mont_base.specs.declared.operation.Receipt.{Receipt}

-- One receipt more is kept, after those that were, and this holds of it.
pub record KeepsReceipt (old new : List Receipt) (Holds : Receipt → Type 0) : Type 0 where
  pub receipt : Receipt
  pub kept : new ≡ old ++ receipt ∷ []
  pub holds : Holds receipt
