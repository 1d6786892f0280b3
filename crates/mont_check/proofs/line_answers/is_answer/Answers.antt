use Rattle.mont_check.proofs.line_answers.is_answer.Goals as goal

pub returns-in-None : goal.returns-in-None
returns-in-None c = (λ yes. absurd cc, λ answer. absurd (c.in-None.ensures answer.entry answer.there))
