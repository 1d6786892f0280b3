-- Lists by the items at their places.
use Rattle.std.proofs.Common.{◌≡◌, ℕ, suc, ◌+◌, ◌<◌, List, [], ◌∷◌, ◌++◌, length, take, get_or, ap, sym, ◌∙◌, refl, subst, arith}
use Rattle.std.specs.Prelude.{slice_get, Some, All}
use Rattle.std.proofs.Math.Seq.{take-suc}
use Rattle.std.proofs.lemmas.List.Elements.{All-get_or, All-nil, All-cons, All-head, All-tail}
use Rattle.std.proofs.lemmas.Option.{get_or_from_slice_get, slice_get_read, slice_get_within}

-- lists with the same item at each place
pub same_items : {A : Type 0} (xs ys : List A) → length xs ≡ length ys
    → ((i : ℕ) (a b : A) → slice_get xs i ≡ Some a → slice_get ys i ≡ Some b → a ≡ b) → xs ≡ ys
same_items [] [] e same = refl
same_items [] (y ∷ ys) e same = absurd (omega arith)
same_items (x ∷ xs) [] e same = absurd (omega arith)
same_items (x ∷ xs) (y ∷ ys) e same =
    λ k. same 0 x y refl refl k ∷ same_items xs ys (omega arith) (λ i a b f g. same (suc i) a b f g) k

-- what holds of all holds of the item at a place
pub all_gives : {A : Type 0} (P : A → Type 0) (xs : List A) (i : ℕ) (x : A) → All P xs → slice_get xs i ≡ Some x → P x
all_gives P xs i x all e =
    subst P (get_or_from_slice_get xs i x x e) (All-get_or P xs i x (slice_get_within xs i x e) all)

-- what holds of all of two lists, one after the other, holds of all of each
pub all_split : {A : Type 0} (P : A → Type 0) (xs ys : List A) → All P (xs ++ ys) → All P xs × All P ys
all_split P [] ys all = (All-nil P, all)
all_split P (x ∷ xs) ys all =
    let rest = all_split P xs ys (All-tail P x (xs ++ ys) all) in
    (All-cons P x xs (All-head P x (xs ++ ys) all) rest.0, rest.1)

-- one more of the first items
pub take_next : {A : Type 0} (xs : List A) (i : ℕ) (x : A) → i < length xs → x ≡ get_or xs i x
    → take (i + 1) xs ≡ take i xs ++ x ∷ []
take_next xs i x inside is =
    let e : i + 1 ≡ suc i = omega arith in
    ap (λ (n : ℕ). take n xs) e ∙ (take-suc xs i x inside ∙ ap (λ (y : _). take i xs ++ y ∷ []) (sym is))

-- the item at a place
pub item_read : {A : Type 0} (xs : List A) (i : ℕ) (x : A) → i < length xs → x ≡ get_or xs i x → slice_get xs i ≡ Some x
item_read xs i x low is = slice_get_read xs (length xs) i x refl low is
