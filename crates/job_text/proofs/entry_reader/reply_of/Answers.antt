use Rattle.std.proofs.Common.{◌∷◌, sym, ◌∙◌, arith}
use Rattle.std.proofs.lemmas.Slice.Eq.{slice_eq-Decides}
use Rattle.std.proofs.lemmas.Bool.Decides.{Decides-eqb}
use Rattle.job_text.proofs.AnswerWords.{pairs_told}
use Rattle.job_text.proofs.RunWords.{two_off}
use Rattle.job_text.proofs.entry_reader.reply_of.Goals as goal

pub returns-then-len-number : goal.returns-then-len-number
returns-then-len-number c =
    let tells = slice_eq-Decides Decides-eqb _ c.as_slice.result.now c.eq.result c.eq.ensures in
    let name = tells.0 c.if-eq.true ∙ c.as_slice.ensures in
    let read = c.in_ok-run-in-len2-up.ensures in
    let count = c.in_ok-number-in-len2-up.ensures in
    let long = sym c.len.ensures.value ∙ c.if-len-number.true in (
      omega (arith, long, read.1),
      (read.0, long),
      two_off c.args.words.now _ _ c.in-len2-up.len_at_least ∙ (λ i. name i ∷ count.1 i ∷ read.2 i),
    )

pub returns-else-len-number : goal.returns-else-len-number
returns-else-len-number c = λ r run is of e.
    let tells = slice_eq-Decides Decides-eqb _ c.as_slice.result.now c.eq.result c.eq.ensures in
    let name = tells.0 c.if-eq.true ∙ c.as_slice.ensures in
    let read = c.in_ok-run-in-len2-up.ensures in
    let count = c.in_ok-number-in-len2-up.ensures in
    let words = two_off c.args.words.now _ _ c.in-len2-up.len_at_least ∙ (λ i. name i ∷ count.1 i ∷ read.2 i) in
    c.if-len-number.false (c.len.ensures.value
    ∙ pairs_told c.args.of_key r run c.in_ok-number-in-len2-up.number c.in_ok-run-in-len2-up.run' is of count.0 read.0 (sym words ∙ e))
