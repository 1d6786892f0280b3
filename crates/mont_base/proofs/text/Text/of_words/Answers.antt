use Rattle.std.proofs.Common.{sym, ◌∙◌, arith, slice_index_or}
use Rattle.mont_base.proofs.Texts.{words_are_text, text_of_clean}
use Rattle.mont_base.proofs.text.Text.of_words.Goals as goal

pub invariant_of-result : goal.invariant_of-result
invariant_of-result c =
    let words = c.args.words in
    let clean = sym c.are_zero_from.ensures ∙ c.if-not-are_zero_from.false in
    words_are_text (slice_index_or words 0 0) (slice_index_or words 1 0) (slice_index_or words 2 0) (slice_index_or words 3 0)
    (omega arith) clean c.element_fits2.fits c.element_fits3.fits c.element_fits4.fits

pub returns : goal.returns
returns c =
    let words = c.args.words in
    let clean = sym c.are_zero_from.ensures ∙ c.if-not-are_zero_from.false in
    sym (text_of_clean (slice_index_or words 0 0) (slice_index_or words 1 0) (slice_index_or words 2 0) (slice_index_or words 3 0)
    (omega arith) clean)
