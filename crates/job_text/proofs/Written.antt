-- Texts that are written item by item.
use Rattle.std.proofs.Common.{◌≡◌, ℕ, ◌+◌, ◌<◌, ◌≤◌, List, [], ◌∷◌, ◌++◌, length, get_or, take, map, refl, sym, ap, ◌∙◌, zero-add, arith}
use Rattle.std.proofs.lemmas.List.{take_more, take_all, flat_map_more}
use Rattle.std.proofs.lemmas.List.FromFn.{length-enumerate_from, get_or-enumerate_from}
use Rattle.std.proofs.lemmas.List.Folds.{flat_map-map}
use Rattle.std.proofs.lemmas.Grind.{flat_map-append}
use Rattle.std.specs.List.{flat_map, enumerate_from}
use Rattle.job_text.specs.Lines.{text_of, line_of}

-- the text of some items and of one more
pub written_more : {X : Type 0} (f : X → List ℕ) (xs : List X) (i : ℕ) (d : X) (start was now : List ℕ) → i < length xs → was
    ≡ start ++ flat_map f (take i xs) → now ≡ was ++ f (get_or xs i d) → now ≡ start ++ flat_map f (take (i + 1) xs)
written_more f xs i d start was now within before step =
    step ∙ ap (λ bs. bs ++ f (get_or xs i d)) before
    ∙ flat_map_more f start (take i xs) (get_or xs i d)
    ∙ ap (λ ys. start ++ flat_map f ys) (sym (take_more xs i d within))

-- the same where each item goes with its place
pub numbered_more : {X : Type 0} (f : ℕ × X → List ℕ) (xs : List X) (i : ℕ) (d : X) (start was now : List ℕ) → i < length xs → was
    ≡ start ++ flat_map f (take i (enumerate_from 0 xs)) → now ≡ was ++ f (i, get_or xs i d) → now
    ≡ start ++ flat_map f (take (i + 1) (enumerate_from 0 xs))
numbered_more f xs i d start was now within before step =
    let is : get_or (enumerate_from 0 xs) i (0, d) ≡ (i, get_or xs i d) =
    get_or-enumerate_from 0 xs i (0, d) within ∙ ap (λ n. (n, get_or xs i d)) (zero-add i) in
    written_more f (enumerate_from 0 xs) i (0, d) start was now (omega (arith, length-enumerate_from 0 xs)) before
    (step ∙ ap (λ p. was ++ f p) (sym is))

-- the same where the item is known by another name
pub numbered_item : {X : Type 0} (f : ℕ × X → List ℕ) (xs : List X) (i : ℕ) (d x : X) (start was now : List ℕ) → i < length xs → x
    ≡ get_or xs i d → was ≡ start ++ flat_map f (take i (enumerate_from 0 xs)) → now ≡ was ++ f (i, x) → now
    ≡ start ++ flat_map f (take (i + 1) (enumerate_from 0 xs))
numbered_item f xs i d x start was now within is before step =
    numbered_more f xs i d start was now within before (step ∙ ap (λ y. was ++ f (i, y)) is)

-- the lines of each item, one after the other
pub text_of-flat_map : {X : Type 0} (lines : X → List (List (List ℕ))) (xs : List X) → text_of (flat_map lines xs)
    ≡ flat_map (λ x. text_of (lines x)) xs
text_of-flat_map lines [] = refl
text_of-flat_map lines (x ∷ xs) = flat_map-append line_of (lines x) (flat_map lines xs)
    ∙ ap (λ bs. text_of (lines x) ++ bs) (text_of-flat_map lines xs)

-- what was written when each item was, a line for each
pub lines_written : {X : Type 0} (words : X → List (List ℕ)) (xs : List X) (i : ℕ) (start now : List ℕ) → length xs ≤ i → now
    ≡ start ++ flat_map (λ x. line_of (words x)) (take i xs) → now ≡ start ++ text_of (map words xs)
lines_written words xs i start now past done =
    done ∙ ap (λ ys. start ++ flat_map (λ x. line_of (words x)) ys) (take_all i xs past)
    ∙ ap (λ bs. start ++ bs) (sym (flat_map-map line_of words xs))

-- the same with some lines for each
pub parts_written : {X : Type 0} (lines : X → List (List (List ℕ))) (xs : List X) (i : ℕ) (start now : List ℕ) → length xs ≤ i → now
    ≡ start ++ flat_map (λ x. text_of (lines x)) (take i xs) → now ≡ start ++ text_of (flat_map lines xs)
parts_written lines xs i start now past done =
    done ∙ ap (λ ys. start ++ flat_map (λ x. text_of (lines x)) ys) (take_all i xs past)
    ∙ ap (λ bs. start ++ bs) (sym (text_of-flat_map lines xs))

-- the end of a list is the end of its numbered items
pub numbered_past : {X : Type 0} (xs : List X) (i : ℕ) → length xs ≤ i → length (enumerate_from 0 xs) ≤ i
numbered_past xs i past = omega (arith, length-enumerate_from 0 xs)
