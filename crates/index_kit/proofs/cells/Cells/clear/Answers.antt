use Rattle.std.proofs.Common.{arith}
use Rattle.index_kit.proofs.Marks.{len_kept, cleared}
use Rattle.index_kit.proofs.cells.Cells.clear.Goals as goal

pub index_mut-requires : goal.index_mut-requires
index_mut-requires c =
    let size = len_kept c.self.inside.marks.items c.self.inside.numbers.items _ c.self.invariant c.self.view_is in
    omega (arith, size, c.requires, c.self.inside.marks.ok.0)

pub returns : goal.returns
returns c = cleared c.self.inside.marks.items c.self.inside.numbers.items _ c.self.invariant c.self.view_is c.args.at
