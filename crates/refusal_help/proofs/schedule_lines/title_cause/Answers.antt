use Rattle.std.proofs.Common.{ap, map, ◌∙◌, Bor, List, ℕ}
use Rattle.refusal_help.specs.Lines.{AreWords, IsWordCause}
use Rattle.refusal_help.specs.Words.{nothing_given}
use Rattle.refusal_help.specs.Judged.{title_wants}
use Rattle.refusal_help.proofs.Judging.{judged_words}
use Rattle.refusal_help.proofs.schedule_lines.title_cause.Goals as goal

pub returns : goal.returns
returns c =
    let now : Bor (List ℕ) → List ℕ = λ w. w.now in
    judged_words (AreWords nothing_given title_wants) (IsWordCause nothing_given title_wants) c.args.line.now _ c.title_words_cause.result
    c.in_default.ensures (ap (map now) c.as_slice.ensures.value ∙ c.in_ok-words.ensures) c.title_words_cause.ensures
