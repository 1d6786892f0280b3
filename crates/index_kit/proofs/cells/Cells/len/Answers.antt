use Rattle.std.proofs.Common.{◌∙◌}
use Rattle.index_kit.proofs.Marks.{len_kept}
use Rattle.index_kit.proofs.cells.Cells.len.Goals as goal

pub returns : goal.returns
returns c = c.len.ensures ∙ c.self.inside.marks.ok.0 ∙ len_kept c.self.inside.marks.items c.self.inside.numbers.items _ c.self.invariant
    c.self.view_is
