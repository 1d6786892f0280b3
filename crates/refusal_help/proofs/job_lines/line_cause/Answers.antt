use Rattle.std.proofs.Common.{ap, map, ◌∙◌, Bor, List, ℕ}
use Rattle.refusal_help.specs.Judged.{AreJobWords, IsJobWordCause}
use Rattle.refusal_help.proofs.Judging.{judged_line}
use Rattle.refusal_help.proofs.job_lines.line_cause.Goals as goal

pub returns : goal.returns
returns c =
    let now : Bor (List ℕ) → List ℕ = λ w. w.now in
    judged_line (AreJobWords c.args.given.now) (IsJobWordCause c.args.given.now) c.args.line.now _ c.words_cause.result
    c.in_default.ensures (ap (map now) c.as_slice.ensures.value ∙ c.in_ok-words.ensures) c.words_cause.ensures
