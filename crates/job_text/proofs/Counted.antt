-- Lists of few numbers.
use Rattle.std.proofs.Common.{◌≡◌, ℕ, List, [], ◌∷◌, map, get_or, decimal, Bor, sym, ◌∙◌}
use Rattle.std.specs.List.{All}
use Rattle.std.proofs.lemmas.Fmt.{decimal_injective}
use Rattle.std.proofs.lemmas.List.Elements.{All-cons, All-nil, All-head}
use Rattle.job_text.specs.Operations.{IsNumber}

pub one_number : (a : ℕ) → IsNumber a → All IsNumber (a ∷ [])
one_number a is = All-cons IsNumber a [] is (All-nil IsNumber)

pub two_numbers : (a b : ℕ) → IsNumber a → IsNumber b → All IsNumber (a ∷ b ∷ [])
two_numbers a b is are = All-cons IsNumber a (b ∷ []) is (one_number b are)

pub three_numbers : (a b d : ℕ) → IsNumber a → IsNumber b → IsNumber d → All IsNumber (a ∷ b ∷ d ∷ [])
three_numbers a b d is are too = All-cons IsNumber a (b ∷ d ∷ []) is (two_numbers b d are too)

-- the first number after a word is told by the words
pub first_number : (ns : List ℕ) (ws : List (List ℕ)) (word other : List ℕ) (n : ℕ) {rest : List (List ℕ)} → ws ≡ word ∷ map decimal ns
    → All IsNumber ns → ws ≡ other ∷ decimal n ∷ rest → IsNumber n → get_or ns 0 0 ≡ n
first_number [] ws word other n spelled all is small = absurd (cc)
first_number (m ∷ ns) ws word other n spelled all is small =
    decimal_injective m n (All-head IsNumber m ns all) small (let same : decimal m ≡ decimal n = cc in same)

-- ---- words after words
pub behind_two : (ws us vs : List (List ℕ)) (a b x y : List ℕ) (rest : List (List ℕ)) → ws ≡ a ∷ us → us ≡ b ∷ vs → ws ≡ x ∷ y ∷ rest
    → vs ≡ rest
behind_two ws us vs a b x y rest first second whole =
    let one : us ≡ y ∷ rest = (let both : a ∷ us ≡ x ∷ y ∷ rest = sym first ∙ whole in cc) in
    let two : b ∷ vs ≡ y ∷ rest = sym second ∙ one in
    cc

pub third_word : (ws : List (Bor (List ℕ))) (a b d : List ℕ) (x : Bor (List ℕ)) → map (λ word. word.now) ws ≡ a ∷ b ∷ d ∷ []
    → (get_or ws 2 x).now ≡ d
third_word [] a b d x e = absurd (cc)
third_word (u ∷ []) a b d x e = absurd (cc)
third_word (u ∷ v ∷ []) a b d x e = absurd (cc)
third_word (u ∷ v ∷ w ∷ ws) a b d x e = cc
