use Rattle.std.proofs.Common.{ap, map, ◌∙◌, Bor, List, ℕ}
use Rattle.refusal_help.specs.Lines.{AreWords, IsWordCause}
use Rattle.refusal_help.specs.Words.{nothing_given}
use Rattle.refusal_help.specs.Judged.{job_header_wants}
use Rattle.refusal_help.proofs.Judging.{judged_words}
use Rattle.refusal_help.proofs.job_lines.header_cause.Goals as goal

pub returns : goal.returns
returns c =
    let now : Bor (List ℕ) → List ℕ = λ w. w.now in
    judged_words (AreWords nothing_given job_header_wants) (IsWordCause nothing_given job_header_wants) c.args.line.now _ c.header_words_cause.result
    c.in_default.ensures (ap (map now) c.as_slice.ensures.value ∙ c.in_ok-words.ensures) c.header_words_cause.ensures
