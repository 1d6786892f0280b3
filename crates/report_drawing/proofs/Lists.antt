-- Lists that are made item by item.
use Rattle.std.proofs.Common.{◌≡◌, ℕ, ◌+◌, ◌<◌, ◌≤◌, List, [], ◌∷◌, ◌++◌, length, get_or, take, map, sym, ap, ◌∙◌, zero-add, arith}
use Rattle.std.proofs.lemmas.List.{take_more, take_all, map-append, append_assoc}
use Rattle.std.proofs.lemmas.List.FromFn.{length-enumerate_from, get_or-enumerate_from}
use Rattle.std.specs.List.{enumerate_from, AllZip}

-- values that show some items, and one more of each
pub shown_more : {X Y Z : Type 0} (view : Z → Y) (f : X → Y) (start : List Y) (xs : List X) (i : ℕ) (d : X) (was now : List Z) (z : Z)
    → i < length xs → now ≡ was ++ z ∷ [] → view z ≡ f (get_or xs i d) → map view was ≡ start ++ map f (take i xs) → map view now
    ≡ start ++ map f (take (i + 1) xs)
shown_more view f start xs i d was now z within pushed is before =
    ap (map view) pushed
    ∙ map-append view was (z ∷ [])
    ∙ ap (λ ys. ys ++ view z ∷ []) before
    ∙ ap (λ y. (start ++ map f (take i xs)) ++ y ∷ []) is
    ∙ append_assoc start (map f (take i xs)) (f (get_or xs i d) ∷ [])
    ∙ ap (λ ys. start ++ ys) (sym (map-append f (take i xs) (get_or xs i d ∷ [])))
    ∙ ap (λ ys. start ++ map f ys) (sym (take_more xs i d within))

-- the same where each item goes with its place
pub placed_more : {X Y Z : Type 0} (view : Z → Y) (f : ℕ × X → Y) (xs : List X) (i : ℕ) (d : X) (was now : List Z) (z : Z)
    → i < length xs → now ≡ was ++ z ∷ [] → view z ≡ f (i, get_or xs i d) → map view was ≡ map f (take i (enumerate_from 0 xs))
    → map view now ≡ map f (take (i + 1) (enumerate_from 0 xs))
placed_more view f xs i d was now z within pushed is before =
    let there : get_or (enumerate_from 0 xs) i (0, d) ≡ (i, get_or xs i d) =
    get_or-enumerate_from 0 xs i (0, d) within ∙ ap (λ n. (n, get_or xs i d)) (zero-add i) in
    shown_more view f [] (enumerate_from 0 xs) i (0, d) was now z (omega (arith, length-enumerate_from 0 xs)) pushed
    (is ∙ ap f (sym there)) before

-- what was shown when each item was
pub shown_all : {X Y : Type 0} (f : X → Y) (start : List Y) (xs : List X) (i : ℕ) (ys : List Y) → length xs ≤ i → ys
    ≡ start ++ map f (take i xs) → ys ≡ start ++ map f xs
shown_all f start xs i ys past done = done ∙ ap (λ zs. start ++ map f zs) (take_all i xs past)

pub placed_all : {X Y : Type 0} (f : ℕ × X → Y) (xs : List X) (i : ℕ) (ys : List Y) → length xs ≤ i → ys
    ≡ map f (take i (enumerate_from 0 xs)) → ys ≡ map f (enumerate_from 0 xs)
placed_all f xs i ys past done =
    done ∙ ap (λ zs. map f zs) (take_all i (enumerate_from 0 xs) (omega (arith, length-enumerate_from 0 xs)))

-- two lists that go together, and one more of each
pub along_push : {A B : Type 0} (R : A → B → Type 0) (xs : List A) (ys : List B) (x : A) (y : B) → AllZip R xs ys → R x y → AllZip R
    (xs ++ x ∷ []) (ys ++ y ∷ [])
along_push R [] [] x y along here = (here, tt)
along_push R [] (b ∷ bs) x y along here = absurd along
along_push R (a ∷ as') [] x y along here = absurd along
along_push R (a ∷ as') (b ∷ bs) x y along here = (along.0, along_push R as' bs x y along.1 here)

-- a list goes with what is shown of another, and one more of each
pub along_more : {A B C : Type 0} (R : A → B → Type 0) (view : C → B) (xs : List A) (i : ℕ) (d : A) (was now : List C) (z : C)
    → i < length xs → now ≡ was ++ z ∷ [] → R (get_or xs i d) (view z) → AllZip R (take i xs) (map view was) → AllZip R (take (i + 1) xs)
    (map view now)
along_more R view xs i d was now z within pushed here along =
    let more = take_more xs i d within in
    let shown : map view now ≡ map view was ++ view z ∷ [] = ap (map view) pushed ∙ map-append view was (z ∷ []) in
    rw (more, shown) (along_push R (take i xs) (map view was) (get_or xs i d) (view z) along here)

-- what is shown of a list goes with another, and one more of each
pub along_shown : {A B C : Type 0} (R : A → B → Type 0) (view : C → A) (xs : List C) (i : ℕ) (d : C) (was now : List B) (y : B)
    → i < length xs → now ≡ was ++ y ∷ [] → R (view (get_or xs i d)) y → AllZip R (map view (take i xs)) was
    → AllZip R (map view (take (i + 1) xs)) now
along_shown R view xs i d was now y within pushed here along =
    let shown : map view (take (i + 1) xs) ≡ map view (take i xs) ++ view (get_or xs i d) ∷ [] =
    ap (map view) (take_more xs i d within) ∙ map-append view (take i xs) (get_or xs i d ∷ []) in
    rw (shown, pushed) (along_push R (map view (take i xs)) was (view (get_or xs i d)) y along here)

-- at the end of the list
pub along_all : {A B : Type 0} (R : A → B → Type 0) (xs : List A) (i : ℕ) (ys : List B) → length xs ≤ i → AllZip R (take i xs) ys
    → AllZip R xs ys
along_all R xs i ys past along = rw (take_all i xs past) at along

pub along_shown_all : {A B C : Type 0} (R : A → B → Type 0) (view : C → A) (xs : List C) (i : ℕ) (ys : List B) → length xs ≤ i → AllZip R
    (map view (take i xs)) ys → AllZip R (map view xs) ys
along_shown_all R view xs i ys past along = rw (take_all i xs past) at along
