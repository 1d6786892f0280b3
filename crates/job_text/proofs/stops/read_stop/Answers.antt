use Rattle.std.proofs.Common.{◌≡◌, ℕ, ◌∷◌, [], ◌++◌, List, Some, length, map, get_or, codes, decimal, sym, ap, ◌∙◌, refl, arith}
use Rattle.std.proofs.lemmas.Slice.Eq.{strip_prefix_is}
use Rattle.std.proofs.lemmas.Bool.Decides.{Decides-eqb}
use Rattle.std.proofs.lemmas.List.{append_cancel_left}
use Rattle.job_text.specs.declared.job.Stop.{Stop}
use Rattle.job_text.specs.Lines.{spaced}
use Rattle.job_text.specs.LineWords.{words_of}
use Rattle.job_text.specs.Operations.{IsNumber}
use Rattle.job_text.specs.JobText.{stop_words}
use Rattle.job_text.proofs.LineWords.{words_from_line, line_from_words}
use Rattle.job_text.proofs.OpSpelling.{two}
use Rattle.job_text.proofs.SeenWords.{words_lack, decimal_seen, two_words}
use Rattle.job_text.proofs.stops.read_stop.Goals as goal

-- the words after `stop`
stop_tail : (line rest : List ℕ) (s : Stop) → line ≡ codes "stop " ++ rest → IsNumber s.who → IsNumber s.steps
    → line ≡ spaced (stop_words s) → words_of rest ≡ decimal s.who ∷ decimal s.steps ∷ []
stop_tail line rest s front who steps is =
    words_from_line rest (decimal s.who) (decimal s.steps ∷ [])
    (words_lack 32 (omega arith) (decimal s.who ∷ decimal s.steps ∷ [])
    (two_words (decimal s.who) (decimal s.steps) (decimal_seen s.who who) (decimal_seen s.steps steps)))
    (append_cancel_left (codes "stop ") rest (spaced (decimal s.who ∷ decimal s.steps ∷ [])) (sym front ∙ is))

pub returns-in_err-words : goal.returns-in_err-words
returns-in_err-words c =
    let rest = c.in_ok-strip_prefix.field-0 in
    let front = strip_prefix_is Decides-eqb c.args.line.now (codes "stop ") (Some rest) c.in_ok-strip_prefix.ensures.cases in
    rw c.from_residual-in_err-words.ensures (λ s who steps is.
    omega (arith, ap length (stop_tail c.args.line.now rest.now s front who steps is), c.in_err-words.ensures))

pub returns-in_err-who : goal.returns-in_err-who
returns-in_err-who c =
    let rest = c.in_ok-strip_prefix.field-0 in
    let front = strip_prefix_is Decides-eqb c.args.line.now (codes "stop ") (Some rest) c.in_ok-strip_prefix.ensures.cases in
    rw c.from_residual-in_err-who.ensures (λ s who steps is.
    c.in_err-who.ensures (s.who ∷ s.steps ∷ []) refl (two s.who s.steps who steps)
    (rw c.as_slice.ensures.value (c.in_ok-words.ensures ∙ stop_tail c.args.line.now rest.now s front who steps is)))

two_numbers : (ns : List ℕ) → length ns ≡ 2 → map decimal ns ≡ decimal (get_or ns 0 0) ∷ decimal (get_or ns 1 0) ∷ []
two_numbers [] e = absurd (omega arith)
two_numbers (a ∷ []) e = absurd (omega arith)
two_numbers (a ∷ b ∷ []) e = refl
two_numbers (a ∷ b ∷ d ∷ ds) e = absurd (omega arith)

pub returns : goal.returns
returns c =
    let rest = c.in_ok-strip_prefix.field-0 in
    let ns = c.in_ok-who.field-0 in
    let long : length ns ≡ 2 = c.in_ok-who.ensures.0 in
    let front = strip_prefix_is Decides-eqb c.args.line.now (codes "stop ") (Some rest) c.in_ok-strip_prefix.ensures.cases in
    let words : words_of rest.now ≡ decimal (get_or ns 0 0) ∷ decimal (get_or ns 1 0) ∷ [] =
    sym c.in_ok-words.ensures ∙ rw c.as_slice.ensures.value at c.in_ok-who.ensures.2 ∙ two_numbers ns long in (
      c.in_ok-who.ensures.1 0 0 (omega arith),
      c.in_ok-who.ensures.1 1 0 (omega arith),
      front ∙ ap (λ (bs : List ℕ). codes "stop " ++ bs)
          (line_from_words rest.now (decimal (get_or ns 0 0) ∷ decimal (get_or ns 1 0) ∷ []) words),
    )
