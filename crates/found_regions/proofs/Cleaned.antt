-- How clean units become known to all.
use Rattle.std.proofs.Common.{◌≡◌, ℕ, zero, suc, ◌+◌, ◌<◌, List, [], ◌∷◌, ◌++◌, Bool, true, false, cond, ap, ◌∙◌, subst, refl, arith, eq-eqb}
use Rattle.std.specs.Prelude.{◌&&◌, ◌||◌, ◌==◌, filter}
use Rattle.std.specs.List.{range_with_len}
use Rattle.std.proofs.Math.Bool.{or-true}
use Rattle.std.proofs.lemmas.Bool.Decides.{nat_tests}
use Rattle.std.proofs.lemmas.List.Folds.{list_any-append}
use Rattle.core_steps.proofs.Decisions.{both}
use Rattle.heap_rule.specs.Views.{is_among, are_clean}
use Rattle.heap_pass.proofs.Cleanness.{are_clean-append}

-- ---- members
among_behind : (clean more : List ℕ) (u : ℕ) → is_among more u ≡ true → is_among (clean ++ more) u ≡ true
among_behind clean more u e =
    list_any-append (λ v. v == u) clean more
    ∙ (ap (λ (b : Bool). is_among clean u || b) e ∙ or-true (is_among clean u))

pub among_front : (clean more : List ℕ) (u : ℕ) → is_among clean u ≡ true → is_among (clean ++ more) u ≡ true
among_front clean more u e =
    list_any-append (λ v. v == u) clean more ∙ ap (λ (b : Bool). b || is_among more u) e

pub among_first : (u : ℕ) (clean : List ℕ) → is_among (u ∷ clean) u ≡ true
among_first u clean = ap (λ (b : Bool). b || is_among clean u) (eq-eqb u u refl)

among_rest : (v u : ℕ) (clean : List ℕ) → is_among clean u ≡ true → is_among (v ∷ clean) u ≡ true
among_rest v u clean e = ap (λ (b : Bool). (v == u) || b) e ∙ or-true (v == u)

-- what passes a test stays
pub kept_among : (P : ℕ → Bool) (xs : List ℕ) (u : ℕ) → is_among xs u ≡ true → P u ≡ true → is_among (filter P xs) u ≡ true
kept_among P [] u e p = absurd (cc)
kept_among P (x ∷ xs) u e p = by (x == u) (P x) refl refl e (λ f. kept_among P xs u f p)
  where
    same : (x == u) ≡ true → P x ≡ P u
    same f = let e : x ≡ u = grind (arith, nat_tests) in ap P e

    by : (t k : Bool) → (x == u) ≡ t → P x ≡ k → (t || is_among xs u) ≡ true
        → (is_among xs u ≡ true → is_among (filter P xs) u ≡ true) → is_among (cond k (x ∷ filter P xs) (filter P xs)) u ≡ true
    by true true f g e rest = ap (λ (b : Bool). b || is_among (filter P xs) u) f
    by true false f g e rest = absurd (let s = same f in cc (s, g, p))
    by false true f g e rest = among_rest x u (filter P xs) (rest e)
    by false false f g e rest = rest e

pub in_range : (n from k : ℕ) → k < n → is_among (range_with_len from n) (from + k) ≡ true
in_range zero from k low = absurd (omega arith)
in_range (suc n) from zero low =
    let same : from ≡ from + 0 = omega arith in
    ap (λ (b : Bool). b || is_among (range_with_len (from + 1) n) (from + 0)) (eq-eqb from (from + 0) same)
in_range (suc n) from (suc k) low =
    let same : from + 1 + k ≡ from + suc k = omega arith in
    among_rest from (from + suc k) (range_with_len (from + 1) n)
    (subst (λ (u : ℕ). is_among (range_with_len (from + 1) n) u ≡ true) same (in_range n (from + 1) k (omega arith)))

-- ---- the first so many units
-- those that were known, and one more
pub one_more_known : (n : ℕ) (clean more : List ℕ) → are_clean n clean ≡ true → is_among more n ≡ true
    → are_clean (n + 1) (clean ++ more) ≡ true
one_more_known n clean more all one = let next : n + 1 ≡ suc n = omega arith in ap (λ (m : ℕ). are_clean m (clean ++ more)) next ∙ two
  where
    two : are_clean (suc n) (clean ++ more) ≡ true
    two = ap (λ (b : Bool). b && are_clean n (clean ++ more)) (among_behind clean more n one) ∙ are_clean-append n clean more all

pub known_behind : (n : ℕ) (clean more : List ℕ) → are_clean n more ≡ true → are_clean n (clean ++ more) ≡ true
known_behind zero clean more all = refl
known_behind (suc n) clean more all =
    let parts = both (is_among more n) (are_clean n more) all in
    ap (λ (b : Bool). b && are_clean n (clean ++ more)) (among_behind clean more n parts.0) ∙ known_behind n clean more parts.1
