use Rattle.std.proofs.Common.{◌∙◌}
use Rattle.index_kit.specs.Cells.{cells_of}
use Rattle.index_kit.proofs.Marks.{cells_of-free}
use Rattle.index_kit.proofs.cells.Cells.with_len.Goals as goal

pub returns : goal.returns
returns c =
    let marks = c.in_ok-vec.ensures.items_if_clones_equal (λ y h. h) in
    let numbers = c.in_ok-vec-2.ensures.items_if_clones_equal (λ y h. h) in
    (λ i. cells_of (marks i) (numbers i)) ∙ cells_of-free c.args.len
