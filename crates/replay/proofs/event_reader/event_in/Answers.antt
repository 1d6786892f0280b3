use Rattle.std.proofs.Common.{ℕ, List, Bor, map, ap}
use Rattle.replay.proofs.StepSpelling.{no_name}
use Rattle.replay.proofs.event_reader.event_in.Goals as goal

abbrev all : List (Bor (List ℕ)) → List (List ℕ)
all words = map (λ word. word.now) words

pub returns-in_err-name : goal.returns-in_err-name
returns-in_err-name c = rw c.from_residual-in_err-name.ensures (λ m h beside.
    no_name (all c.args.words.now) _ _ (ap all c.in_ok-first.ensures.cases.0) c.in_err-name.ensures m.0 m.1 h)
