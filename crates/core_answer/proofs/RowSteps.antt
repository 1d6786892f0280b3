-- Steps that change one item of a list, or none.
use Rattle.std.proofs.Common.{◌≡◌, ℕ, ◌≤◌, List, length, set, ap, ◌∙◌}
use Rattle.std.specs.Prelude.{slice_get, Some}
use Rattle.std.proofs.lemmas.Option.{slice_get_past}
use Rattle.core_steps.specs.Places.{on_row}
use Rattle.core_steps.proofs.Rows.{row_same}

-- what is made of a list stays, where an item is put in its place again
pub put_back : {A B : Type 0} (f : List A → B) (l : List A) (k : ℕ) (a b : A) → slice_get l k ≡ Some a → b ≡ a → f (set l k b) ≡ f l
put_back f l k a b at is = ap f (ap (set l k) is ∙ row_same l k a at)

-- nothing is made of an item after the end
pub on_past : {A B : Type 0} (l : List A) (i : ℕ) (b : B) (f : A → B) → length l ≤ i → on_row (slice_get l i) b f ≡ b
on_past l i b f past = ap (λ o. on_row o b f) (slice_get_past l i past)

-- nor where an item of each of two lists is
pub put_both_back : {A B C : Type 0} (f : List A → List B → C) (l : List A) (i : ℕ) (a b : A) (m : List B) (j : ℕ) (d e : B)
    → slice_get l i ≡ Some a → b ≡ a → slice_get m j ≡ Some d → e ≡ d → f (set l i b) (set m j e) ≡ f l m
put_both_back f l i a b m j d e at is there also =
    put_back (λ x. f x (set m j e)) l i a b at is ∙ put_back (f l) m j d e there also
