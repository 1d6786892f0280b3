use Rattle.std.proofs.Common.{arith}
use Rattle.index_kit.proofs.Marks.{len_kept, no_number_read, number_read}
use Rattle.index_kit.proofs.cells.Cells.number.Goals as goal

pub index-requires : goal.index-requires
index-requires c =
    let size = len_kept c.self.inside.marks.items c.self.inside.numbers.items _ c.self.invariant c.self.view_is in
    omega (arith, size, c.requires, c.self.inside.marks.ok.0)

pub index-requires-2 : goal.index-requires-2
index-requires-2 c =
    let size = len_kept c.self.inside.marks.items c.self.inside.numbers.items _ c.self.invariant c.self.view_is in
    omega (arith, size, c.requires, c.self.invariant, c.self.inside.numbers.ok.0)

pub returns-then-index-eq-FREE : goal.returns-then-index-eq-FREE
returns-then-index-eq-FREE c =
    no_number_read c.self.inside.marks.items c.self.inside.numbers.items _ c.self.invariant c.self.view_is _ _ c.requires c.index.ensures
    c.if-index-eq-FREE.true

pub returns : goal.returns
returns c =
    number_read c.self.inside.marks.items c.self.inside.numbers.items _ c.self.invariant c.self.view_is _ _ _ c.requires c.index.ensures
    c.index-2.ensures c.if-index-eq-FREE.false
