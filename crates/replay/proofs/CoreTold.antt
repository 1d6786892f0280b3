-- The lines that tell cores.
use Rattle.std.proofs.Common.{◌≡◌, ℕ, List, [], ◌∷◌, ◌++◌, decimal, refl, sym, ap, ◌∙◌}
use Rattle.std.specs.List.{flat_map, enumerate_from}
use Rattle.std.proofs.lemmas.List.{append_assoc, append-nil}
use Rattle.std.proofs.lemmas.Grind.{flat_map-append}
use Rattle.core_steps.specs.declared.parts.Core.{Core}
use Rattle.core_steps.specs.declared.parts.UnitPart.{UnitPart}
use Rattle.core_steps.specs.Clock.{clock, durable_clock}
use Rattle.job_text.specs.Lines.{spaced, line_of}
use Rattle.job_text.proofs.RunWords.{spaced_behind}
use Rattle.replay.specs.Replays.{unit_words, core_words}

-- the words of a unit, after a space each
pub shown : (was : List ℕ) (a b : ℕ) (s t : List ℕ) → a ≡ b → s ≡ t
    → was ++ (32 ∷ (decimal a ++ 32 ∷ s)) ≡ was ++ ((32 ∷ decimal b) ++ ((32 ∷ t) ++ []))
shown was a b s t e f = (λ i. was ++ (32 ∷ (decimal (e i) ++ 32 ∷ f i))) ∙ ap (λ (bs : List ℕ). was ++ (32 ∷ (decimal b ++ 32 ∷ bs)))
    (sym (append-nil t))

nested : {X : Type 0} (f : X → List (List ℕ)) (xs : List X)
    → flat_map (λ (word : List ℕ). 32 ∷ word) (flat_map f xs) ≡ flat_map (λ (x : X). flat_map (λ (word : List ℕ). 32 ∷ word) (f x)) xs
nested f [] = refl
nested {X} f (x ∷ xs) =
    flat_map-append (λ (word : List ℕ). 32 ∷ word) (f x) (flat_map f xs)
    ∙ ap (λ (bs : List ℕ). flat_map (λ (word : List ℕ). 32 ∷ word) (f x) ++ bs) (nested f xs)

regroup : (old s f e : List ℕ) → ((old ++ s) ++ f) ++ e ≡ old ++ ((s ++ f) ++ e)
regroup old s f e = simp append_assoc

-- the clocks, what each unit shows, and a line feed
pub core_line : (old begun told now : List ℕ) (n : ℕ) (c : Core)
    → begun ≡ old ++ (decimal n ++ 32 ∷ (decimal (clock c) ++ 32 ∷ decimal (durable_clock c)))
    → told ≡ begun ++ flat_map (λ (p : ℕ × UnitPart). flat_map (λ (word : List ℕ). 32 ∷ word) (unit_words c.told p))
    (enumerate_from 0 c.units)
    → now ≡ told ++ 10 ∷ [] → now ≡ old ++ line_of (core_words (n, c))
core_line old begun told now n c e f g =
    let front : List ℕ = decimal n ++ 32 ∷ (decimal (clock c) ++ 32 ∷ decimal (durable_clock c)) in
    let units : List ℕ =
    flat_map (λ (p : ℕ × UnitPart). flat_map (λ (word : List ℕ). 32 ∷ word) (unit_words c.told p)) (enumerate_from 0 c.units) in
    let whole : spaced (core_words (n, c)) ≡ front ++ units =
    spaced_behind (decimal n) (decimal (clock c) ∷ decimal (durable_clock c) ∷ []) (flat_map (unit_words c.told) (enumerate_from 0 c.units))
    ∙ ap (λ (bs : List ℕ). front ++ bs) (nested (unit_words c.told) (enumerate_from 0 c.units)) in
    g ∙ ap (λ (bs : List ℕ). bs ++ 10 ∷ []) (f ∙ ap (λ (bs : List ℕ). bs ++ units) e) ∙ regroup old front units (10 ∷ [])
    ∙ ap (λ (bs : List ℕ). old ++ (bs ++ 10 ∷ [])) (sym whole)
