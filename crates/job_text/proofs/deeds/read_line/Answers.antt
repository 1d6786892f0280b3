use Rattle.std.proofs.Common.{◌≡◌, ℕ, ◌∷◌, List, length, map, Bor, decimal, sym, ap, ◌∙◌, arith}
use Rattle.std.proofs.lemmas.List.{length-map}
use Rattle.job_text.specs.declared.job.Line.{Line}
use Rattle.job_text.specs.Lines.{spaced}
use Rattle.job_text.specs.LineWords.{words_of}
use Rattle.job_text.specs.Operations.{IsNumber}
use Rattle.job_text.specs.Grammar.{IsAsked}
use Rattle.job_text.specs.JobText.{line_words, deed_words}
use Rattle.job_text.proofs.LineWords.{words_from_line, line_from_words, some_word}
use Rattle.job_text.proofs.OpSpelling.{first_words}
use Rattle.job_text.proofs.SeenWords.{words_lack, line_seen, few_deed_words}
use Rattle.job_text.proofs.deeds.read_line.Goals as goal

abbrev all : List (Bor (List ℕ)) → List (List ℕ)
all words = map (λ word. word.now) words

-- the words of a line that spells this
words_are : (bytes : List ℕ) (l : Line) → IsNumber l.caller → IsAsked l.deed → bytes ≡ spaced (line_words l)
    → words_of bytes ≡ decimal l.caller ∷ deed_words l.deed
words_are bytes l small asked is =
    words_from_line bytes (decimal l.caller) (deed_words l.deed) (words_lack 32 (omega arith) (line_words l) (line_seen l small asked)) is

parts_are : (bytes word : List ℕ) (ws : List (List ℕ)) (l : Line) → word ∷ ws ≡ words_of bytes → IsNumber l.caller → IsAsked l.deed
    → bytes ≡ spaced (line_words l) → (word ≡ decimal l.caller) × (ws ≡ deed_words l.deed)
parts_are bytes word ws l own small asked is =
    first_words word (decimal l.caller) ws (deed_words l.deed) (own ∙ words_are bytes l small asked is)

pub returns-in_err-words : goal.returns-in_err-words
returns-in_err-words c = rw c.from_residual.ensures (λ l small asked is.
    omega (arith, ap length (words_are c.args.bytes.now l small asked is), few_deed_words l.deed, c.in_err-words.ensures))

pub returns-in_err-caller : goal.returns-in_err-caller
returns-in_err-caller c = rw c.from_residual-in_err-caller.ensures (λ l small asked is.
    omega (
      arith,
      some_word c.args.bytes.now,
      ap length c.in_ok-words.ensures,
      length-map c.in_ok-words.words.items (λ word. word.now),
      ap length c.as_slice.ensures.value,
      c.in_err-caller.ensures.cases,
    ))

pub returns-in_err-number : goal.returns-in_err-number
returns-in_err-number c =
    let own = ap all (sym c.in_ok-caller.ensures.cases.0 ∙ c.as_slice.ensures.value) ∙ c.in_ok-words.ensures in
    rw c.from_residual-in_err-number.ensures (λ l small asked is.
    c.in_err-number.ensures l.caller small (parts_are c.args.bytes.now _ _ l own small asked is).0)

pub returns-in_err-deed : goal.returns-in_err-deed
returns-in_err-deed c =
    let own = ap all (sym c.in_ok-caller.ensures.cases.0 ∙ c.as_slice.ensures.value) ∙ c.in_ok-words.ensures in
    rw c.from_residual-in_err-deed.ensures (λ l small asked is.
    c.in_err-deed.ensures l.deed asked (parts_are c.args.bytes.now _ _ l own small asked is).1)

pub returns : goal.returns
returns c =
    let own = ap all (sym c.in_ok-caller.ensures.cases.0 ∙ c.as_slice.ensures.value) ∙ c.in_ok-words.ensures in (
      c.in_ok-number.ensures.0,
      c.in_ok-deed.ensures.0,
      line_from_words c.args.bytes.now (decimal c.in_ok-number.field-0 ∷ deed_words c.in_ok-deed.field-0)
          (sym own ∙ (λ i. c.in_ok-number.ensures.1 i ∷ c.in_ok-deed.ensures.1 i)),
    )
