use Rattle.std.proofs.Common.{ℕ, ap, ◌∙◌}
use Rattle.std.specs.FinMap as finite
use Rattle.mont_base.specs.State.{key_cmp}
use Rattle.index_kit.specs.Index.{IndexView}
use Rattle.pordered.proofs.pordered.POrdered.rebuild.Goals as goal

pub rebuild-requires-clause-empty : goal.rebuild-requires-clause-empty
rebuild-requires-clause-empty c = ap (λ (v : IndexView). finite.len v.places) c.new.ensures ∙ finite.len-empty key_cmp ℕ
