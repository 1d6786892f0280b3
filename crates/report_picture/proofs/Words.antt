-- A command line of one word.
use Rattle.std.proofs.Common.{◌≡◌, ℕ, ◌≤◌, ◌<◌, List, [], ◌∷◌, length, get_or, map, sym, ap, ◌∙◌, arith}

-- where the only word is spelled so
pub one_word : {A : Type 0} (f : A → List ℕ) (xs : List A) (x : A) (text : List ℕ) → 1 ≤ length xs → length xs < 2
    → x ≡ get_or xs 0 x → f x ≡ text → map f xs ≡ text ∷ []
one_word f [] x text some few is spelled = absurd (omega arith)
one_word f (y ∷ []) x text some few is spelled = ap (λ z. f z ∷ []) (sym is) ∙ ap (λ (t : List ℕ). t ∷ []) spelled
one_word f (y ∷ z ∷ xs) x text some few is spelled = absurd (omega arith)
