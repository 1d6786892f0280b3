use Rattle.std.proofs.Common.{arith}
use Rattle.index_kit.proofs.Marks.{len_kept, mark_read}
use Rattle.index_kit.proofs.cells.Cells.mark.Goals as goal

pub index-requires : goal.index-requires
index-requires c =
    let size = len_kept c.self.inside.marks.items c.self.inside.numbers.items _ c.self.invariant c.self.view_is in
    omega (arith, size, c.requires, c.self.inside.marks.ok.0)

pub returns : goal.returns
returns c = mark_read c.self.inside.marks.items c.self.inside.numbers.items _ c.self.invariant c.self.view_is _ _ c.requires c.index.ensures
