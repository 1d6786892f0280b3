use Rattle.std.proofs.Common.{ℕ, ◌*◌, ap}
use Rattle.heap.proofs.FirstWords.{words_laid}
use Rattle.heap.proofs.opening.table_words.Goals as goal

pub returns : goal.returns
returns c =
    words_laid c.args.words.now _ _ _ _ _ _ _ _ c.in_ok-all.ensures.items c.in_ok-extend_from_slice.ensures.items
    c.in_ok-extend_from_slice-2.ensures.items c.in_ok-extend_from_slice-3.ensures.items c.as_slice.ensures c.in_ok-told.ensures
    (ap (λ (n : ℕ). 8 * n) c.units.ensures.value)
