use Rattle.std.proofs.Common.{◌≡◌, ◌≢◌, ℕ, zero, suc, ◌+◌, ◌<◌, ◌∷◌, [], ◌++◌, List, length, map, take, get_or, All, Bor, decimal, slice_set, sym, ap, ◌∙◌, refl, subst, arith}
use Rattle.std.proofs.Math.ListN.{get_or-map, length-set}
use Rattle.std.proofs.lemmas.List.{length-map, map-append, take_more, take_more_set, take_all}
use Rattle.std.proofs.lemmas.List.Elements.{All-push}
use Rattle.job_text.specs.Operations.{IsNumber}
use Rattle.job_text.proofs.number_words.numbers.Goals as goal

abbrev bytes : Bor (List ℕ) → List ℕ
bytes word = word.now

other_default : {A : Type 0} (xs : List A) (i : ℕ) (d e : A) → i < length xs → get_or xs i d ≡ get_or xs i e
other_default [] i d e h = absurd (omega arith)
other_default (x ∷ xs) zero d e h = refl
other_default (x ∷ xs) (suc i) d e h = other_default xs i d e (omega arith)

-- a word that spells no number is among the words of no numbers
none_at : (words : List (Bor (List ℕ))) (i : ℕ) (d : Bor (List ℕ)) → i < length words
    → ((n : ℕ) → IsNumber n → (get_or words i d).now ≢ decimal n) → (ns : List ℕ) → All IsNumber ns → map bytes words ≢ map decimal ns
none_at words i d within none ns small e =
    let long : length ns ≡ length words = omega (arith, ap length e, length-map words bytes, length-map ns decimal) in
    let here : bytes (get_or words i d) ≡ decimal (get_or ns i 0) =
    sym (get_or-map bytes words i d)
    ∙ other_default (map bytes words) i (bytes d) (decimal 0) (omega (arith, length-map words bytes))
    ∙ ap (λ (ws : List (List ℕ)). get_or ws i (decimal 0)) e
    ∙ get_or-map decimal ns i 0 in
    none (get_or ns i 0) (small i 0 (omega arith)) here

one_more : (words : List (Bor (List ℕ))) (numbers : List ℕ) (at n : ℕ) (d : Bor (List ℕ)) → at < length words → at < length numbers
    → IsNumber n → (get_or words at d).now ≡ decimal n → All IsNumber (take at numbers)
    → map bytes (take at words) ≡ map decimal (take at numbers)
    → All IsNumber (take (at + 1) (slice_set numbers at n))
    × (map bytes (take (at + 1) words) ≡ map decimal (take (at + 1) (slice_set numbers at n)))
one_more words numbers at n d within room small spelled all so_far =
    let set : take (at + 1) (slice_set numbers at n) ≡ take at numbers ++ n ∷ [] = take_more_set numbers at n room in (
      subst (All IsNumber) (sym set) (All-push IsNumber (take at numbers) n all small),
      ap (map bytes) (take_more words at d within)
          ∙ map-append bytes (take at words) (get_or words at d ∷ [])
          ∙ ap (λ (ws : List (List ℕ)). ws ++ bytes (get_or words at d) ∷ []) so_far
          ∙ ap (λ (w : List ℕ). map decimal (take at numbers) ++ w ∷ []) spelled
          ∙ sym (map-append decimal (take at numbers) (n ∷ []))
          ∙ ap (map decimal) (sym set),
    )

pub returns-in_err-numbers : goal.returns-in_err-numbers
returns-in_err-numbers g c = rw c.from_residual.ensures (λ ns long small.
    none_at c.args.words.now c.loop-at.at _ c.loop-at-test.true c.in_err-numbers.ensures ns small)

pub loop-at-preserved : goal.loop-at-preserved
loop-at-preserved g c =
    let i = c.loop-at.invariant in
    let more = one_more c.args.words.now c.loop-at.numbers c.loop-at.at c.in_ok-numbers.field-0 _ c.loop-at-test.true (omega arith)
    c.in_ok-numbers.ensures.0 c.in_ok-numbers.ensures.1 i.1 i.2 in
    (length-set c.loop-at.numbers c.loop-at.at c.in_ok-numbers.field-0 ∙ i.0, more.0, more.1)

pub returns : goal.returns
returns g c =
    let i = c.loop-at.invariant in
    let words : take c.loop-at.at c.args.words.now ≡ c.args.words.now = take_all c.loop-at.at c.args.words.now c.loop-at-test.false in
    let numbers : take c.loop-at.at c.loop-at.numbers ≡ c.loop-at.numbers = take_all c.loop-at.at c.loop-at.numbers (omega arith) in (
      i.0,
      subst (All IsNumber) numbers i.1,
      ap (map bytes) (sym words) ∙ i.2 ∙ ap (map decimal) numbers,
    )
