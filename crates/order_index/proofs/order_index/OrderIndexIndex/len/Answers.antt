use Rattle.std.proofs.Common.{◌∙◌, sym, ap, length}
use Rattle.std.specs.FinMap as finite
use Rattle.order_index.proofs.Kept.{entries_of}
use Rattle.order_index.proofs.order_index.OrderIndexIndex.len.Goals as goal

pub returns : goal.returns
returns c = c.len.ensures ∙ sym (finite.len-entries _ ∙ ap length (entries_of _ _ _ c.self.invariant c.self.view_is))
