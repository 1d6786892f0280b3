-- How many entries by rising key stand before a key, once one in their middle is compared with it.
use Rattle.std.proofs.Common.{length-append, ◌-◌, ◌≡◌, ℕ, suc, ◌+◌, Bool, true, false, List, [], ◌∷◌, ◌++◌, length, refl, sym, ap, subst, ◌∙◌, arith}
use Rattle.std.specs.declared.cmp.Ordering.{Ordering}
use Rattle.std.specs.declared.cmp.Ordering.TheVariants.{Less, Equal, Greater}
use Rattle.std.specs.Ordering.{is_lt, ordering_reverse}
use Rattle.std.specs.Cmp.{IsTotalOrder, alike_right, first_so, second_so}
use Rattle.std.specs.List.{filter}
use Rattle.std.specs.FinMap.Entries.{is_sorted, below_all}
use Rattle.std.proofs.lemmas.Bool.{true≢false}
use Rattle.std.proofs.lemmas.List.{append-nil}
use Rattle.std.proofs.lemmas.List.Elements.{filter-append}
use Rattle.counted_tree.specs.Order.{stands_before, count_to}

is_less : (r : Ordering) → is_lt r ≡ true → r ≡ Less
is_less Less h = refl
is_less Equal h = cc
is_less Greater h = cc

-- what is less stands before whether an equal one does or not, and what is greater never
less_stands : (w : Bool) → stands_before w Less ≡ true
less_stands true = refl
less_stands false = refl

greater_stops : (w : Bool) → stands_before w Greater ≡ false
greater_stops true = refl
greater_stops false = refl

module _ {K : Type 0} {R : K → K → Ordering} (o : IsTotalOrder R) (w : Bool) (key : K) where
  -- what is below one that stands before the key stands before it
  below_stands : (y x : K) (r : Ordering) → R y x ≡ Less → R x key ≡ r → stands_before w r ≡ true → stands_before w (R y key) ≡ true
  below_stands y x Less low is h = let e = o.trans y x key low is in rw e (less_stands w)
  below_stands y x Equal low is h = let e = sym (alike_right o x key y is) ∙ low in rw e (less_stands w)
  below_stands y x Greater low is h = absurd (true≢false (sym h ∙ greater_stops w))

  -- what is above one that doesn't stand before the key doesn't either
  above_stops : (x z : K) (r : Ordering) → R x z ≡ Less → R x key ≡ r → stands_before w r ≡ false → stands_before w (R z key) ≡ false
  above_stops x z Less low is h = absurd (true≢false (sym (less_stands w) ∙ h))
  above_stops x z Equal low is h =
      let e : R z key ≡ Greater = o.antisymm z key ∙ ap ordering_reverse (sym (o.congr x key z is) ∙ low) in rw e (greater_stops w)
  above_stops x z Greater low is h =
      let back : R key x ≡ Less = o.antisymm key x ∙ ap ordering_reverse is in
      let e : R z key ≡ Greater = o.antisymm z key ∙ ap ordering_reverse (o.trans key x z back low) in rw e (greater_stops w)

module _ {K X : Type 0} {R : K → K → Ordering} (o : IsTotalOrder R) (w : Bool) (key : K) where
  abbrev stands : K × X → Bool
  stands e = stands_before w (R e.0 key)

  below_middle : (y : K) (l : List (K × X)) (x : K × X) (r : List (K × X)) → below_all R y (l ++ x ∷ r) ≡ true → R y x.0 ≡ Less
  below_middle y [] x r h = is_less _ (first_so (is_lt (R y x.0)) (below_all R y r) h)
  below_middle y (e ∷ l) x r h = below_middle y l x r (second_so (is_lt (R y e.0)) (below_all R y (l ++ x ∷ r)) h)

  below_left : (y : K) (l r : List (K × X)) → below_all R y (l ++ r) ≡ true → below_all R y l ≡ true
  below_left y [] r h = refl
  below_left y (e ∷ l) r h =
      let first = first_so (is_lt (R y e.0)) (below_all R y (l ++ r)) h in
      rw first (below_left y l r (second_so (is_lt (R y e.0)) (below_all R y (l ++ r)) h))

  sorted_tail : (y : K × X) (l : List (K × X)) → is_sorted R (y ∷ l) ≡ true → is_sorted R l ≡ true
  sorted_tail y l h = second_so (below_all R y.0 l) (is_sorted R l) h

  sorted_head : (y : K × X) (l : List (K × X)) → is_sorted R (y ∷ l) ≡ true → below_all R y.0 l ≡ true
  sorted_head y l h = first_so (below_all R y.0 l) (is_sorted R l) h

  sorted_left : (l r : List (K × X)) → is_sorted R (l ++ r) ≡ true → is_sorted R l ≡ true
  sorted_left [] r h = refl
  sorted_left (y ∷ l) r h = let low = below_left y.0 l r (sorted_head y (l ++ r) h) in rw low (sorted_left l r (sorted_tail y (l ++ r) h))

  sorted_right : (l r : List (K × X)) → is_sorted R (l ++ r) ≡ true → is_sorted R r ≡ true
  sorted_right [] r h = h
  sorted_right (y ∷ l) r h = sorted_right l r (sorted_tail y (l ++ r) h)

  none_behind : (x : K × X) (r : List (K × X)) → below_all R x.0 r ≡ true → stands x ≡ false → filter stands r ≡ []
  none_behind x [] h stops = refl
  none_behind x (e ∷ r) h stops =
      let low = is_less _ (first_so (is_lt (R x.0 e.0)) (below_all R x.0 r) h) in
      let skip = above_stops o w key x.0 e.0 _ low refl stops in
      rw skip (none_behind x r (second_so (is_lt (R x.0 e.0)) (below_all R x.0 r) h) stops)

  -- where one of them doesn't stand before the key, none does from it on
  pub none_from : (x : K × X) (r : List (K × X)) → is_sorted R (x ∷ r) ≡ true → stands x ≡ false → filter stands (x ∷ r) ≡ []
  none_from x r h stops = rw stops (none_behind x r (sorted_head x r h) stops)

  -- where the middle one stands before the key, all before it do
  middle_stands : (l : List (K × X)) (x : K × X) (r : List (K × X)) → is_sorted R (l ++ x ∷ r) ≡ true → stands x ≡ true
      → filter stands (l ++ x ∷ r) ≡ l ++ x ∷ filter stands r
  middle_stands [] x r h is = rw is refl
  middle_stands (y ∷ l) x r h is =
      let first = below_stands o w key y.0 x.0 _ (below_middle y.0 l x r (sorted_head y (l ++ x ∷ r) h)) refl is in
      rw first (ap (λ (m : List (K × X)). y ∷ m) (middle_stands l x r (sorted_tail y (l ++ x ∷ r) h) is))

  middle_stops : (l : List (K × X)) (x : K × X) (r : List (K × X)) → is_sorted R (l ++ x ∷ r) ≡ true → stands x ≡ false
      → filter stands (l ++ x ∷ r) ≡ filter stands l
  middle_stops l x r h stops =
      filter-append stands l (x ∷ r) ∙ ap (λ (m : List (K × X)). filter stands l ++ m) (none_from x r (sorted_right l (x ∷ r) h) stops)
      ∙ append-nil (filter stands l)

  module _ (l : List (K × X)) (x : K × X) (r all : List (K × X)) (is : all ≡ l ++ x ∷ r) (sorted : is_sorted R all ≡ true) where
    rises : is_sorted R (l ++ x ∷ r) ≡ true
    rises = subst (λ es. is_sorted R es ≡ true) is sorted

    -- as many as stand on the left, the middle one, and those of the right that do
    pub counted_past : (count behind rest : ℕ) → stands x ≡ true → (is_sorted R r ≡ true → rest ≡ count_to R w key r)
        → behind ≡ length r → count ≡ length (l ++ x ∷ r) → count - behind + rest ≡ count_to R w key all
    counted_past count behind rest h of_right many whole =
        let e = of_right (sorted_tail x r (sorted_right l (x ∷ r) rises)) in
        let f = ap length (middle_stands l x r rises h) ∙ length-append l (x ∷ filter stands r) in
        let n : length (l ++ x ∷ r) ≡ length l + suc (length r) = length-append l (x ∷ r) in
        rw is (rw f (omega (arith, e, many, whole, n)))

    -- those of the left that stand before the key
    pub counted_before : (rest : ℕ) → stands x ≡ false → (is_sorted R l ≡ true → rest ≡ count_to R w key l) → rest ≡ count_to R w key all
    counted_before rest stops of_left =
        of_left (sorted_left l (x ∷ r) rises) ∙ sym (ap (count_to R w key) is ∙ ap length (middle_stops l x r rises stops))
