use Rattle.std.proofs.Common.{arith}
use Rattle.std.proofs.lemmas.Bool.{lt-ltb, ltb-true}
use Rattle.index_kit.proofs.Marks.{len_kept, gap_read}
use Rattle.index_kit.proofs.cells.Cells.has_gap.Goals as goal

pub index-requires : goal.index-requires
index-requires c =
    let size = len_kept c.self.inside.marks.items c.self.inside.numbers.items _ c.self.invariant c.self.view_is in
    omega (arith, size, c.requires, c.self.inside.marks.ok.0)

pub overflow_add-at : goal.overflow_add-at
overflow_add-at c =
    let size = len_kept c.self.inside.marks.items c.self.inside.numbers.items _ c.self.invariant c.self.view_is in
    omega (arith, size, c.requires, c.self.inside.marks.ok.0, c.self.inside.marks.ok.1)

pub index-requires-2 : goal.index-requires-2
index-requires-2 c =
    let size = len_kept c.self.inside.marks.items c.self.inside.numbers.items _ c.self.invariant c.self.view_is in
    omega (arith, size, c.requires, c.self.inside.marks.ok.0)

pub returns : goal.returns
returns c =
    let told = gap_read c.self.inside.marks.items c.self.inside.numbers.items _ c.self.invariant c.self.view_is c.args.at _ _ c.requires
    (omega arith) (omega arith) c.index.ensures c.index-2.ensures in (
      λ low. told.0 (ltb-true _ _ low),
      λ gap. lt-ltb _ _ (told.1 gap),
    )
