use Rattle.std.proofs.Common.{ℕ, ◌+◌, ◌*◌, List, ap, ◌∙◌}
use Rattle.std.specs.Prelude.{slice_set}
use Rattle.mont_base.specs.declared.constants.TheConstants.{FIRST_CLOCK}
use Rattle.heap.proofs.FirstWords.{fresh_laid}
use Rattle.heap.proofs.fresh_heap.fresh_table.Goals as goal

pub returns-clause-laid : goal.returns-clause-laid
returns-clause-laid c =
    fresh_laid c.args.layout _ (2 * c.words.result + 8 * c.units.result) c.words-2.result
    (λ i. 2 * c.words.ensures.value i + 8 * c.units.ensures.value i) c.words-2.ensures.value
    (c.set-2.ensures
    ∙ ap (λ (l : List ℕ). slice_set l c.words-2.result FIRST_CLOCK)
    (c.set.ensures ∙ ap (λ (l : List ℕ). slice_set l 0 FIRST_CLOCK) c.in_ok-all.ensures))
