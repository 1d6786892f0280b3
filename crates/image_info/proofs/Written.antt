-- Texts that are written piece by piece.
use Rattle.std.proofs.Common.{◌≡◌, ℕ, ◌+◌, ◌<◌, ◌≤◌, List, [], ◌∷◌, ◌++◌, length, get_or, take, map, sym, ap, ◌∙◌, zero-add, arith, append_assoc}
use Rattle.std.proofs.lemmas.List.{take_more, take_all, flat_map_more}
use Rattle.std.proofs.lemmas.List.Concat.{concat_is}
use Rattle.std.proofs.lemmas.List.Folds.{concat-append, flat_map-map}
use Rattle.std.proofs.lemmas.List.FromFn.{length-enumerate_from, get_or-enumerate_from}
use Rattle.std.specs.List.{concat, enumerate_from, flat_map}

-- the pieces of some items, and that of one more
pub item_written : {X : Type 0} (f : X → List ℕ) (xs : List X) (i : ℕ) (x d : X) (start was now : List ℕ) → i < length xs
    → x ≡ get_or xs i d → was ≡ start ++ flat_map f (take i xs) → now ≡ was ++ f x → now ≡ start ++ flat_map f (take (i + 1) xs)
item_written f xs i x d start was now within is before step =
    step ∙ ap (λ y. was ++ f y) is ∙ ap (λ bs. bs ++ f (get_or xs i d)) before
    ∙ flat_map_more f start (take i xs) (get_or xs i d)
    ∙ ap (λ ys. start ++ flat_map f ys) (sym (take_more xs i d within))

-- the same where each item goes with its place
pub numbered_item : {X : Type 0} (f : ℕ × X → List ℕ) (xs : List X) (i : ℕ) (d : X) (start was now : List ℕ) → i < length xs
    → was ≡ start ++ flat_map f (take i (enumerate_from 0 xs)) → now ≡ was ++ f (i, get_or xs i d)
    → now ≡ start ++ flat_map f (take (i + 1) (enumerate_from 0 xs))
numbered_item f xs i d start was now within before step =
    let is : get_or (enumerate_from 0 xs) i (0, d) ≡ (i, get_or xs i d) =
    get_or-enumerate_from 0 xs i (0, d) within ∙ ap (λ n. (n, get_or xs i d)) (zero-add i) in
    item_written f (enumerate_from 0 xs) i (i, get_or xs i d) (0, d) start was now (omega (arith, length-enumerate_from 0 xs)) (sym is)
    before step

-- those of all items
pub all_written : {X : Type 0} (f : X → List ℕ) (xs : List X) (i : ℕ) (start now : List ℕ) → length xs ≤ i
    → now ≡ start ++ flat_map f (take i xs) → now ≡ start ++ flat_map f xs
all_written f xs i start now past done = done ∙ ap (λ ys. start ++ flat_map f ys) (take_all i xs past)

-- the same as a list of pieces
pub lines_written : {X : Type 0} (f : X → List ℕ) (xs : List X) (i : ℕ) (start now : List ℕ) → length xs ≤ i
    → now ≡ start ++ flat_map f (take i xs) → now ≡ start ++ concat (map f xs)
lines_written f xs i start now past done =
    all_written f xs i start now past done
    ∙ ap (λ bs. start ++ bs) (sym (concat_is (map f xs) ∙ flat_map-map (λ (bs : List ℕ). bs) f xs))

-- a piece after a mark
pub behind_mark : (old mark body mid now : List ℕ) → mid ≡ old ++ mark → now ≡ mid ++ body → now ≡ old ++ (mark ++ body)
behind_mark old mark body mid now marked written =
    written ∙ ap (λ (bs : List ℕ). bs ++ body) marked ∙ append_assoc old mark body

-- a piece between two marks
pub between_marks : (old mark body end mid now new : List ℕ) → mid ≡ old ++ mark → now ≡ mid ++ body → new ≡ now ++ end
    → new ≡ old ++ (mark ++ (body ++ end))
between_marks old mark body end mid now new marked written ended =
    ended ∙ ap (λ (bs : List ℕ). bs ++ end) (behind_mark old mark body mid now marked written)
    ∙ append_assoc old (mark ++ body) end ∙ ap (λ (bs : List ℕ). old ++ bs) (append_assoc mark body end)

-- all lines that tell of an image
regroup : (a b c d e f : List ℕ) → ((((a ++ b) ++ c) ++ d) ++ e) ++ f ≡ a ++ (b ++ (c ++ ((d ++ e) ++ f)))
regroup a b c d e f = simp append_assoc

lines_joined : (version layout clock : List ℕ) (units epochs faults : List (List ℕ))
    → concat (version ∷ layout ∷ clock ∷ (units ++ epochs ++ faults))
    ≡ version ++ (layout ++ (clock ++ ((concat units ++ concat epochs) ++ concat faults)))
lines_joined version layout clock units epochs faults =
    ap (λ (bs : List ℕ). version ++ (layout ++ (clock ++ bs)))
    (concat-append (units ++ epochs) faults ∙ ap (λ (bs : List ℕ). bs ++ concat faults) (concat-append units epochs))

pub all_lines : (version layout clock : List ℕ) (units epochs faults : List (List ℕ)) (a b c d e f g : List ℕ) → a ≡ []
    → b ≡ a ++ version → c ≡ b ++ layout → d ≡ c ++ clock → e ≡ d ++ concat units → f ≡ e ++ concat epochs
    → g ≡ f ++ concat faults → g ≡ concat (version ∷ layout ∷ clock ∷ (units ++ epochs ++ faults))
all_lines version layout clock units epochs faults a b c d e f g none one two three four five six =
    six ∙ ap (λ (bs : List ℕ). bs ++ concat faults)
    (five ∙ ap (λ (bs : List ℕ). bs ++ concat epochs)
    (four ∙ ap (λ (bs : List ℕ). bs ++ concat units)
    (three ∙ ap (λ (bs : List ℕ). bs ++ clock)
    (two ∙ ap (λ (bs : List ℕ). bs ++ layout) (one ∙ ap (λ (bs : List ℕ). bs ++ version) none)))))
    ∙ regroup version layout clock (concat units) (concat epochs) (concat faults)
    ∙ sym (lines_joined version layout clock units epochs faults)
