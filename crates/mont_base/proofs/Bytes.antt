-- A piece of a list, read into the front of a buffer.
use Rattle.std.proofs.Common.{◌≡◌, ℕ, ◌+◌, ◌-◌, ◌≤◌, List, [], ◌∷◌, ◌++◌, length, take, drop, sym, refl, ap, ◌∙◌, subst, arith, length-take, length-drop}
use Rattle.std.proofs.lemmas.List.{take-append-drop, drop-drop, take_all}
use Rattle.std.proofs.Math.Seq.{take-append_seam}

-- what is left before a read is what was read, and then what is left after it
pub left_before :
    (bytes : List ℕ) (at count : ℕ) (copied tail whole : List ℕ) → whole ≡ bytes
    → copied ≡ take count (take (length whole - at) (drop at whole)) → count ≤ length (drop at bytes)
    → drop at bytes ≡ take count (copied ++ tail) ++ drop (at + count) bytes
left_before bytes at count copied tail whole same was fits =
    let all : take (length bytes - at) (drop at bytes) ≡ drop at bytes =
    take_all (length bytes - at) (drop at bytes) (omega (arith, length-drop at bytes)) in
    let is : copied ≡ take count (drop at bytes) =
    was ∙ ap (λ (xs : List ℕ). take count (take (length xs - at) (drop at xs))) same ∙ ap (λ (xs : List ℕ). take count xs) all in
    let long : length copied ≡ count = ap length is ∙ omega (arith, length-take count (drop at bytes)) in
    let front : take count (copied ++ tail) ≡ copied =
    subst (λ (n : ℕ). take n (copied ++ tail) ≡ copied) long (take-append_seam copied tail) in
    sym (take-append-drop count (drop at bytes))
    ∙ ap (λ (xs : List ℕ). xs ++ drop count (drop at bytes)) (sym is ∙ sym front)
    ∙ ap (λ (ys : List ℕ). take count (copied ++ tail) ++ ys) (drop-drop count at bytes)

-- a list of no length is empty
pub empty_of_length : {A : Type 0} (xs : List A) → length xs ≡ 0 → xs ≡ []
empty_of_length [] e = refl
empty_of_length (x ∷ xs) e = absurd (omega arith)
