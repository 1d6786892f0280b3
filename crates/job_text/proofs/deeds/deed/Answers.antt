use Rattle.std.proofs.Common.{◌≡◌, ℕ, ◌<◌, ◌≤◌, ◌∷◌, [], List, length, map, get_or, Bor, codes, ap, ◌∙◌, arith}
use Rattle.std.proofs.lemmas.Slice.Eq.{slice_eq-Decides}
use Rattle.std.proofs.lemmas.Bool.Decides.{Decides-eqb}
use Rattle.job_text.proofs.deeds.deed.Goals as goal

abbrev bytes : Bor (List ℕ) → List ℕ
bytes word = word.now

-- one word is all there is
one_word : (words : List (Bor (List ℕ))) (d : Bor (List ℕ)) (w : List ℕ) → 1 ≤ length words → length words < 2 → (get_or words 0 d).now ≡ w
    → map bytes words ≡ w ∷ []
one_word [] d w some few is = absurd (omega arith)
one_word (x ∷ []) d w some few is = ap (λ (v : List ℕ). v ∷ []) is
one_word (x ∷ y ∷ ys) d w some few is = absurd (omega arith)

pub returns-then-eq : goal.returns-then-eq
returns-then-eq c =
    let tells = slice_eq-Decides Decides-eqb (get_or c.args.words.now 0 _).now c.as_slice.result.now c.eq.result c.eq.ensures in
    (tt, one_word c.args.words.now _ (codes "tick") c.in-len1.len_at_least c.in-len1.len_below (tells.0 c.if-eq.true ∙ c.as_slice.ensures))

pub returns-then-eq-2 : goal.returns-then-eq-2
returns-then-eq-2 c =
    let tells = slice_eq-Decides Decides-eqb (get_or c.args.words.now 0 _).now c.as_slice-in-len1.result.now c.eq-in-len1.result
    c.eq-in-len1.ensures in (
      tt,
      one_word c.args.words.now _ (codes "sync") c.in-len1.len_at_least c.in-len1.len_below
          (tells.0 c.if-eq-2.true ∙ c.as_slice-in-len1.ensures),
    )
