-- What holds at each place of a list, and what lists have in common.
use Rattle.std.proofs.Common.{◌≡◌, ℕ, ◌+◌, ◌<◌, ◌≤◌, Bool, false, List, length, get_or, take, map, sym, ap, ◌∙◌, subst, arith, length-take}
use Rattle.std.specs.Prelude.{◌↔◌, IsTrue, All, AllPairs, slice_get, Some}
use Rattle.std.proofs.lemmas.Option.{slice_get_within, slice_get-get_or}
use Rattle.std.proofs.lemmas.List.{get_or-map, get_or-take, length-map, take_more, take_more_same}
use Rattle.std.proofs.lemmas.List.Quantifiers.{all_pairs_push}

-- the fact holds of what a list has at a place, if it has something there
abbrev pub IfAt : {A : Type 0} → (A → Type 0) → List A → ℕ → Type 0
IfAt {A} P xs i = (x : A) → slice_get xs i ≡ Some x → P x

-- the fact holds of what two lists have at a place, if both have something there
abbrev pub IfBothAt : {A B : Type 0} → (A → B → Type 0) → List A → List B → ℕ → Type 0
IfBothAt {A} {B} P xs ys i =
    (x : A) (y : B) → slice_get xs i ≡ Some x → slice_get ys i ≡ Some y → P x y

-- a fact that fails at one number doesn't hold of all
pub fails_at : (P : ℕ → Type 0) (i : ℕ) (b : Bool) → b ≡ false → (IsTrue b ↔ P i) → IsTrue false ↔ ((u : ℕ) → P u)
fails_at P i b fails says = (λ yes. absurd cc, λ all. subst (λ (v : Bool). IsTrue v) fails (says.1 (all i)))

-- after the end of a list there is nothing
pub all_at :
    {A : Type 0} (P : ℕ → A → Type 0) (xs : List A) (i : ℕ) → length xs ≤ i → ((u : ℕ) → u < i → IfAt (P u) xs u) → (u : ℕ)
    → IfAt (P u) xs u
all_at P xs i past below u x there = below u (omega (arith, slice_get_within xs u x there)) x there

pub all_both_at :
    {A B : Type 0} (P : ℕ → A → B → Type 0) (xs : List A) (ys : List B) (i : ℕ) → length ys ≤ i → ((u : ℕ) → u < i → IfBothAt (P u) xs ys u)
    → (u : ℕ) → IfBothAt (P u) xs ys u
all_both_at P xs ys i past below u x y one other = below u (omega (arith, slice_get_within ys u y other)) x y one other

-- two lists that agree at one place more
pub same_more :
    {X Y : Type 0} (f : X → Y) (xs ys : List X) (i : ℕ) (x y : X) → i < length xs → length xs ≡ length ys → x ≡ get_or xs i x
    → y ≡ get_or ys i y → f x ≡ f y → take i (map f xs) ≡ take i (map f ys) → take (i + 1) (map f xs) ≡ take (i + 1) (map f ys)
same_more f xs ys i x y within long one other same before =
    take_more_same (map f xs) (map f ys) i (f x) (omega (arith, length-map xs f)) (omega (arith, length-map ys f)) before
    (get_or-map f xs i x (f x) within ∙ ap f (sym one) ∙ same ∙ ap f other ∙ sym (get_or-map f ys i y (f x) (omega arith)))

-- lists that are the same agree at each place
pub same_there :
    {X Y : Type 0} (f : X → Y) (xs ys : List X) (i : ℕ) (x y : X) → i < length xs → length xs ≡ length ys → x ≡ get_or xs i x
    → y ≡ get_or ys i y → map f xs ≡ map f ys → f x ≡ f y
same_there f xs ys i x y within long one other same =
    ap f one ∙ sym (get_or-map f xs i x (f x) within) ∙ ap (λ zs. get_or zs i (f x)) same ∙ get_or-map f ys i y (f x) (omega arith)
    ∙ ap f (sym other)

-- a fact of what a list is known to have at a place
pub known_at :
    {A : Type 0} (P : A → Type 0) (xs : List A) (i : ℕ) (b : Bool) (x y : A) → slice_get xs i ≡ Some x → y ≡ x → (IsTrue b ↔ P y)
    → IsTrue b ↔ IfAt P xs i
known_at P xs i b x y there same says = (
  λ yes z other. subst P (same ∙ (let e : x ≡ z = cc (there, other) in e)) (says.0 yes),
  λ all. says.1
      (subst P (sym same) (all x there)),
)

-- one item more that goes with all before it
pub pairs_more :
    {A : Type 0} (R : A → A → Type 0) (xs : List A) (i : ℕ) (d : A) → i < length xs → AllPairs R (take i xs)
    → All (λ x. R x (get_or xs i d)) (take i xs) → AllPairs R (take (i + 1) xs)
pairs_more R xs i d within before last =
    subst (λ ys. AllPairs R ys) (sym (take_more xs i d within)) (all_pairs_push R (take i xs) (get_or xs i d) before last)

pub pairs_at :
    {A : Type 0} (R : A → A → Type 0) (xs : List A) (i : ℕ) (d : A) → i < length xs → AllPairs R xs
    → All (λ x. R x (get_or xs i d)) (take i xs)
pairs_at R xs i d within pairs k e below =
    let low : k < i = omega (arith, length-take i xs) in
    let same : get_or xs i e ≡ get_or xs i d = cc (slice_get-get_or xs i e within, slice_get-get_or xs i d within) in
    subst (λ y. R (get_or (take i xs) k e) y) same
    (subst (λ x. R x (get_or xs i e)) (sym (get_or-take i xs k e low)) (pairs k i e low within))
