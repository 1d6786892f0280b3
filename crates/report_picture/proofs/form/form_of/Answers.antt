use Rattle.std.proofs.Common.{string_bytes, codes, refl, sym, ◌∙◌}
use Rattle.std.proofs.lemmas.Slice.Eq.{bytes_eq-Decides}
use Rattle.report_picture.proofs.Words.{one_word}
use Rattle.report_picture.proofs.form.form_of.Goals as goal

pub returns-in-len1-clause-text : goal.returns-in-len1-clause-text
returns-in-len1-clause-text c =
    let spelled = (bytes_eq-Decides c.as_str.result.now (codes "text")).0 (sym c.eq.ensures ∙ c.if-eq.true) in (
      λ _. one_word string_bytes c.args.words.now c.word-item.result (codes "text") c.in-len1.len_at_least c.in-len1.len_below
          c.word-item.is (sym c.as_str.ensures.value ∙ spelled),
      λ _. refl,
    )
