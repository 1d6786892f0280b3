use Rattle.std.proofs.Common.{string_bytes, codes, refl, sym, ◌∙◌}
use Rattle.std.proofs.lemmas.Slice.Eq.{bytes_eq-Decides}
use Rattle.montage_tool.proofs.Words.{one_word}
use Rattle.montage_tool.proofs.about.question_of.Goals as goal

pub returns-in-len1-clause-help : goal.returns-in-len1-clause-help
returns-in-len1-clause-help c =
    let spelled = (bytes_eq-Decides c.as_str.result.now (codes "--help")).0 (sym c.eq.ensures ∙ c.if-eq.true) in (
      λ _. one_word string_bytes c.args.words.now c.word-item.result (codes "--help") c.in-len1.len_at_least c.in-len1.len_below
          c.word-item.is (sym c.as_str.ensures.value ∙ spelled),
      λ _. refl,
    )

pub returns-in-len1-2-clause-version : goal.returns-in-len1-2-clause-version
returns-in-len1-2-clause-version c =
    let spelled =
    (bytes_eq-Decides c.as_str-then-words-lt2.result.now (codes "--version")).0 (sym c.eq-then-words-lt2.ensures ∙ c.if-eq-2.true) in (
      λ _. one_word string_bytes c.args.words.now c.word-item-then-words-lt2.result (codes "--version") c.in-len1.len_at_least
          c.in-len1.len_below
          c.word-item-then-words-lt2.is (sym c.as_str-then-words-lt2.ensures.value ∙ spelled),
      λ _. refl,
    )
