use Rattle.std.proofs.Common.{sym, ap, ◌∙◌}
use Rattle.std.specs.Prelude.{slice_get}
use Rattle.index_kit.specs.Index.{Entries}
use Rattle.order_index.proofs.Kept.{entries_of}
use Rattle.order_index.proofs.Listed.{copied}
use Rattle.order_index.proofs.order_index.OrderIndex.entry_at.Goals as goal

pub returns : goal.returns
returns c =
    let is = entries_of _ _ _ c.self.invariant c.self.view_is in
    c.copied.ensures ∙ copied _ _ c.get.ensures ∙ ap (λ (l : Entries). slice_get l c.args.place) (sym is)
