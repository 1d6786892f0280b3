use Rattle.std.proofs.Common.{◌≡◌, ℕ, List, Bor, map, true, length, sym, ap, ◌∙◌, subst, arith}
use Rattle.core_steps.specs.declared.event.Event.{Event}
use Rattle.job_text.specs.LineWords.{words_of}
use Rattle.job_text.proofs.LineWords.{line_from_words}
use Rattle.replay.specs.EventWords.{event_words, IsEventIn}
use Rattle.replay.proofs.MoveWords.{words_are, few_event_words, event_once}
use Rattle.replay.proofs.event_reader.read_event.Goals as goal

abbrev all : List (Bor (List ℕ)) → List (List ℕ)
all words = map (λ word. word.now) words

pub returns-in_err-words : goal.returns-in_err-words
returns-in_err-words c = rw c.from_residual.ensures (λ m is same.
    omega (
      arith,
      ap length (words_are c.args.line.now m.0 m.1 is.named is.run same),
      few_event_words m.0 m.1 is.named is.run,
      c.in_err-words.ensures,
    ))

pub returns-in_err-event : goal.returns-in_err-event
returns-in_err-event c =
    let own : all c.as_slice.result.now ≡ words_of c.args.line.now = ap all c.as_slice.ensures.value ∙ c.in_ok-words.ensures in
    rw c.from_residual-in_err-event.ensures (λ m is same.
    c.in_err-event.ensures m is.named is.run (own ∙ words_are c.args.line.now m.0 m.1 is.named is.run same))

pub returns-then-is_event_in : goal.returns-then-is_event_in
returns-then-is_event_in c =
    let own : all c.as_slice.result.now ≡ words_of c.args.line.now = ap all c.as_slice.ensures.value ∙ c.in_ok-words.ensures in
    let told = c.in_ok-event.ensures in (
      record { named = told.0; within = c.is_event_in.ensures.0 c.if-is_event_in.true; run = told.1 },
      line_from_words c.args.line.now (event_words c.in_ok-event.event c.in_ok-event.run') (sym own ∙ told.2),
    )

pub returns-else-is_event_in : goal.returns-else-is_event_in
returns-else-is_event_in c =
    let own : all c.as_slice.result.now ≡ words_of c.args.line.now = ap all c.as_slice.ensures.value ∙ c.in_ok-words.ensures in
    let told = c.in_ok-event.ensures in
    λ m is same.
    let once = event_once m.0 c.in_ok-event.event m.1 c.in_ok-event.run' is.named told.0 is.run told.1
    (sym (words_are c.args.line.now m.0 m.1 is.named is.run same) ∙ sym own ∙ told.2) in
    let yes : c.is_event_in.result ≡ true =
    c.is_event_in.ensures.1 (subst (λ (e : Event). IsEventIn c.args.layout c.args.callers e) once.0 is.within) in
    let both = sym yes ∙ c.if-is_event_in.false in
    absurd (cc)
