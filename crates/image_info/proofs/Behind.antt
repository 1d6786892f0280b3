-- What is told of each element beside those in front of it, for one element more.
use Rattle.std.proofs.Common.{◌≡◌, ℕ, ◌+◌, ◌<◌, List, [], ◌∷◌, ◌++◌, length, get_or, take, refl, sym, ap, ◌∙◌, append_assoc, append-nil}
use Rattle.std.specs.Prelude.{Option, Some, None}
use Rattle.std.specs.List.{cons_option, filter_map}
use Rattle.std.proofs.lemmas.List.{take_more}
use Rattle.std.proofs.lemmas.List.Elements.{filter_map-append}
use Rattle.image_info.specs.AllFaults.{each_behind}

pub cons_option-append : {B : Type 0} (o : Option B) (xs ys : List B) → cons_option o (xs ++ ys) ≡ cons_option o xs ++ ys
cons_option-append None xs ys = refl
cons_option-append (Some b) xs ys = refl

module _ {A B : Type 0} (tell : List A → A → Option B) where
  pub behind_push : (lower xs : List A) (x : A)
      → each_behind tell lower (xs ++ x ∷ []) ≡ each_behind tell lower xs ++ cons_option (tell (lower ++ xs) x) []
  behind_push lower [] x = ap (λ (ys : List A). cons_option (tell ys x) []) (sym (append-nil lower))
  behind_push lower (y ∷ ys) x =
      ap (cons_option (tell lower y))
      (behind_push (lower ++ y ∷ []) ys x
      ∙ ap (λ (zs : List A). each_behind tell (lower ++ y ∷ []) ys ++ cons_option (tell zs x) []) (append_assoc lower (y ∷ []) ys))
      ∙ cons_option-append (tell lower y) (each_behind tell (lower ++ y ∷ []) ys) (cons_option (tell (lower ++ y ∷ ys) x) [])

  -- of the first elements of a list, and one more
  pub behind_more : (before found grown : List B) (xs : List A) (i : ℕ) (d : A) (told : Option B) → i < length xs
      → found ≡ before ++ each_behind tell [] (take i xs) → tell (take i xs) (get_or xs i d) ≡ told
      → grown ≡ found ++ cons_option told [] → grown ≡ before ++ each_behind tell [] (take (i + 1) xs)
  behind_more before found grown xs i d told inside so_far is more =
      more
      ∙ (λ k. so_far k ++ cons_option (sym is k) [])
      ∙ append_assoc before (each_behind tell [] (take i xs)) (cons_option (tell (take i xs) (get_or xs i d)) [])
      ∙ ap (λ (bs : List B). before ++ bs) (sym (behind_push [] (take i xs) (get_or xs i d)))
      ∙ ap (λ (ys : List A). before ++ each_behind tell [] ys) (sym (take_more xs i d inside))

-- ---- what is made of the elements that give something, and of one more
module _ {A B : Type 0} (f : A → Option B) where
  pub kept_push : (before found grown : List B) (xs ys : List A) (x : A) (told : Option B) → found ≡ before ++ filter_map f xs
      → f x ≡ told → grown ≡ found ++ cons_option told [] → ys ≡ xs ++ x ∷ [] → grown ≡ before ++ filter_map f ys
  kept_push before found grown xs ys x told so_far is more all =
      more
      ∙ (λ k. so_far k ++ cons_option (sym is k) [])
      ∙ append_assoc before (filter_map f xs) (cons_option (f x) [])
      ∙ ap (λ (bs : List B). before ++ bs) (sym (filter_map-append f xs (x ∷ [])) ∙ ap (filter_map f) (sym all))
