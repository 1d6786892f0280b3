use Rattle.std.proofs.Common.{◌≡◌, ℕ, ◌<◌, ◌≤◌, ◌++◌, ◌∷◌, [], List, length, map, Bor, sym, ap, ◌∙◌, arith}
use Rattle.std.proofs.lemmas.List.{map-append, length-append, length-map}
use Rattle.job_text.specs.LineWords.{words_of}
use Rattle.job_text.proofs.LineWords.{one_word_more, words_lacking, when_ok, when_full, some_word}
use Rattle.job_text.proofs.split_words.words.Goals as goal

abbrev bytes : Bor (List ℕ) → List ℕ
bytes word = word.now

abbrev all : List (Bor (List ℕ)) → List (List ℕ)
all ws = map bytes ws

-- more words than there is room for
more_words : (line : List ℕ) (ws : List (Bor (List ℕ))) (rest : List ℕ) (most : ℕ)
    → words_of line ≡ all ws ++ words_of rest → most ≤ length ws → most < length (words_of line)
more_words line ws rest most are full =
    omega (arith, ap length are, length-append (all ws) (words_of rest), length-map ws bytes, some_word rest, full)

pub returns-in_err-ok : goal.returns-in_err-ok
returns-in_err-ok g c =
    rw c.from_residual.ensures (more_words c.args.line.now c.loop-word.words.items c.loop-word.rest.now g.row.MOST c.loop-word.invariant
    (when_full c.try_push.result c.ok.result _ g.row.MOST c.try_push.ensures.variant c.ok.ensures.value c.in_err-ok.was))

pub returns-in_err-ok-2 : goal.returns-in_err-ok-2
returns-in_err-ok-2 g c =
    rw c.from_residual-in_err-ok-2.ensures (more_words c.args.line.now c.loop-word.words.items c.loop-word.rest.now g.row.MOST
    c.loop-word.invariant
    (when_full c.try_push-2.result c.ok-2.result _ g.row.MOST c.try_push-2.ensures.variant c.ok-2.ensures.value c.in_err-ok-2.was))

pub loop-word-preserved : goal.loop-word-preserved
loop-word-preserved g c =
    let pushed : c.try_push.new.self.items ≡ c.loop-word.words.items ++ c.in-Some.word ∷ [] =
    when_ok c.try_push.result c.ok.result c.in_ok-ok.field-0 c.try_push.ensures.ok c.ok.ensures.value c.in_ok-ok.was in
    one_word_more c.args.line.now c.loop-word.rest.now c.in-Some.word.now c.in-Some.after.now (all c.loop-word.words.items)
    c.loop-word.invariant c.in-Some.ensures
    ∙ ap (λ (ws : List (List ℕ)). ws ++ words_of c.in-Some.after.now)
    (sym (ap all pushed ∙ map-append bytes c.loop-word.words.items (c.in-Some.word ∷ [])))

pub returns : goal.returns
returns g c =
    let pushed : c.try_push-2.new.self.items ≡ c.loop-word.words.items ++ c.loop-word.rest ∷ [] =
    when_ok c.try_push-2.result c.ok-2.result c.in_ok-ok-2.field-0 c.try_push-2.ensures.ok c.ok-2.ensures.value c.in_ok-ok-2.was in
    ap all pushed
    ∙ map-append bytes c.loop-word.words.items (c.loop-word.rest ∷ [])
    ∙ ap (λ (ws : List (List ℕ)). all c.loop-word.words.items ++ ws) (sym (words_lacking c.loop-word.rest.now c.in_default.ensures))
    ∙ sym c.loop-word.invariant
