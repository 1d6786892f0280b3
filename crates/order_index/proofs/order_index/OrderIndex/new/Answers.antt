use Rattle.std.proofs.Common.{ap}
use Rattle.index_kit.specs.Index.{Places}
use Rattle.order_index.proofs.Listed.{made_of_none}
use Rattle.order_index.proofs.order_index.OrderIndex.new.Goals as goal

pub returns : goal.returns
returns c = rw (c.new.ensures, c.new-2.ensures) (ap (λ (m : Places). record { places = m; spare = 0 }) made_of_none)
