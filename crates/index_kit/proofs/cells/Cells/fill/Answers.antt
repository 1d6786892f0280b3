use Rattle.std.proofs.Common.{arith}
use Rattle.index_kit.proofs.Marks.{len_kept, filled}
use Rattle.index_kit.proofs.cells.Cells.fill.Goals as goal

pub index_mut-requires : goal.index_mut-requires
index_mut-requires c =
    let size = len_kept c.self.inside.marks.items c.self.inside.numbers.items _ c.self.invariant c.self.view_is in
    omega (arith, size, c.requires.within, c.self.inside.marks.ok.0)

pub index_mut-requires-2 : goal.index_mut-requires-2
index_mut-requires-2 c =
    let size = len_kept c.self.inside.marks.items c.self.inside.numbers.items _ c.self.invariant c.self.view_is in
    omega (arith, size, c.requires.within, c.self.invariant, c.self.inside.numbers.ok.0)

pub returns : goal.returns
returns c =
    filled c.self.inside.marks.items c.self.inside.numbers.items _ c.self.invariant c.self.view_is c.args.at c.args.mark c.args.number
    c.requires.marked
