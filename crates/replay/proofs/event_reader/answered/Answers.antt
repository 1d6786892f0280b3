use Rattle.std.proofs.Common.{ℕ, List, Bor, map, ◌∷◌, decimal, sym, ◌∙◌}
use Rattle.job_text.specs.ReportText.{answer_words}
use Rattle.job_text.proofs.OpSpelling.{first_words}
use Rattle.replay.proofs.event_reader.answered.Goals as goal

pub returns-in_err-caller : goal.returns-in_err-caller
returns-in_err-caller c = rw c.from_residual-in_err-caller.ensures (λ u k o r run own other is fits of same.
    let behind = map (λ (word : Bor (List ℕ)). word.now) c.in_ok-unit.behind_unit.now in
    c.in_err-caller.ensures k (answer_words o r run) other
    (first_words (decimal c.in_ok-unit.unit) (decimal u) behind (decimal k ∷ answer_words o r run) (sym c.in_ok-unit.ensures.1 ∙ same)).1)
