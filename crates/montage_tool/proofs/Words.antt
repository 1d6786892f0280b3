-- A command line of one word.
use Rattle.std.proofs.Common.{◌≡◌, ℕ, ◌≤◌, ◌<◌, List, [], ◌∷◌, length, get_or, map, sym, ap, ◌∙◌, subst, arith}

-- where the only word is spelled so
pub one_word : {A : Type 0} (f : A → List ℕ) (xs : List A) (x : A) (text : List ℕ) → 1 ≤ length xs → length xs < 2
    → x ≡ get_or xs 0 x → f x ≡ text → map f xs ≡ text ∷ []
one_word f [] x text some few is spelled = absurd (omega arith)
one_word f (y ∷ []) x text some few is spelled = ap (λ z. f z ∷ []) (sym is) ∙ ap (λ (t : List ℕ). t ∷ []) spelled
one_word f (y ∷ z ∷ xs) x text some few is spelled = absurd (omega arith)

-- what holds of two words, or of three, whatever the second of three is, holds of a command line of so many
pub two_words : {A : Type 0} (f : A → List ℕ) (xs : List A) (x y : A) → 2 ≤ length xs → length xs < 3 → x ≡ get_or xs 0 x
    → y ≡ get_or xs 1 y → (P : List (List ℕ) → Type 0) → P (f x ∷ f y ∷ []) → P (map f xs)
two_words f [] x y some few is last P has = absurd (omega arith)
two_words f (a ∷ []) x y some few is last P has = absurd (omega arith)
two_words f (a ∷ b ∷ []) x y some few is last P has =
    subst (λ (v : _). P (f v ∷ f b ∷ [])) is (subst (λ (w : _). P (f x ∷ f w ∷ [])) last has)
two_words f (a ∷ b ∷ c ∷ xs) x y some few is last P has = absurd (omega arith)

pub three_words : {A : Type 0} (f : A → List ℕ) (xs : List A) (x y : A) → 3 ≤ length xs → length xs < 4 → x ≡ get_or xs 0 x
    → y ≡ get_or xs 2 y → (P : List (List ℕ) → Type 0) → ((file : List ℕ) → P (f x ∷ file ∷ f y ∷ [])) → P (map f xs)
three_words f [] x y some few is last P has = absurd (omega arith)
three_words f (a ∷ []) x y some few is last P has = absurd (omega arith)
three_words f (a ∷ b ∷ []) x y some few is last P has = absurd (omega arith)
three_words f (a ∷ b ∷ c ∷ []) x y some few is last P has =
    subst (λ (v : _). P (f v ∷ f b ∷ f c ∷ [])) is (subst (λ (w : _). P (f x ∷ f b ∷ f w ∷ [])) last (has (f b)))
three_words f (a ∷ b ∷ c ∷ d ∷ xs) x y some few is last P has = absurd (omega arith)
