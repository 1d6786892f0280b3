-- Entries by rising key: how a key stands to the first, and what is at the place after the keys below it.
use Rattle.std.proofs.Common.{◌⊎◌, inl, inr, ◌≡◌, suc, Bool, true, false, cond, List, [], ◌∷◌, ◌++◌, length, take, drop, set, Option, Some, None, refl, ap, ◌∙◌}
use Rattle.std.specs.Prelude.{not, slice_get}
use Rattle.std.specs.declared.cmp.Ordering.{Ordering}
use Rattle.std.specs.declared.cmp.Ordering.TheVariants.{Less, Equal, Greater}
use Rattle.std.specs.Ordering.{eq_by_cmp, is_lt, ordering_reverse}
use Rattle.std.specs.Option.{unwrap_or}
use Rattle.std.specs.Cmp.{IsTotalOrder, tied_itself, first_so, second_so}
use Rattle.std.specs.FinMap.Entries.{put, find, is_sorted, below_all, where_key}
use Rattle.counted_tree.specs.Order.{count_below}
use Rattle.counted_tree.proofs.Counts.{none_from}

is_less : (r : Ordering) → is_lt r ≡ true → r ≡ Less
is_less Less h = refl
is_less Equal h = cc
is_less Greater h = cc

either : (b : Bool) → (b ≡ true) ⊎ (b ≡ false)
either true = inl refl
either false = inr refl

-- the value of an entry, if it has this key
abbrev pub value_at : {K X : Type 0} → (K → K → Ordering) → K → Option (K × X) → Option X
value_at R k None = None
value_at R k (Some e) = cond (eq_by_cmp R k e.0) (Some e.1) None

-- whether a key is another one
abbrev pub differs : {K : Type 0} → (K → K → Ordering) → K → K → Bool
differs R k x = not (eq_by_cmp R k x)

module _ {K X : Type 0} {R : K → K → Ordering} (o : IsTotalOrder R) (k : K) where
  -- what is above an entry is above a key up to it
  above_from : (x : K) (es : List (K × X)) → (R k x ≡ Less) ⊎ (R k x ≡ Equal) → below_all R x es ≡ true → below_all R k es ≡ true
  above_from x [] low h = refl
  above_from x (e ∷ es) low h =
      let less = is_less _ (first_so (is_lt (R x e.0)) (below_all R x es) h) in
      let first : R k e.0 ≡ Less = joined low less in
      rw first (above_from x es low (second_so (is_lt (R x e.0)) (below_all R x es) h))
    where
      joined : (R k x ≡ Less) ⊎ (R k x ≡ Equal) → R x e.0 ≡ Less → R k e.0 ≡ Less
      joined (inl l) less = o.trans k x e.0 l less
      joined (inr q) less = o.congr k x e.0 q ∙ less

  -- a key above which all stand isn't found among them
  find_above : (es : List (K × X)) → below_all R k es ≡ true → find R k es ≡ None
  find_above [] h = refl
  find_above (e ∷ es) h =
      let first = is_less _ (first_so (is_lt (R k e.0)) (below_all R k es) h) in
      rw first (find_above es (second_so (is_lt (R k e.0)) (below_all R k es) h))

  keep_above : (es : List (K × X)) → below_all R k es ≡ true → where_key R (differs R k) es ≡ es
  keep_above [] h = refl
  keep_above (e ∷ es) h =
      let first = is_less _ (first_so (is_lt (R k e.0)) (below_all R k es) h) in
      rw first (ap (λ (l : List (K × X)). e ∷ l) (keep_above es (second_so (is_lt (R k e.0)) (below_all R k es) h)))

  -- how the first entry stands to the key
  data First (e : K × X) (es : List (K × X)) : Type 0 where
    Below : R e.0 k ≡ Less → R k e.0 ≡ Greater → First e es
    Own : R k e.0 ≡ Equal → count_below R k (e ∷ es) ≡ 0 → below_all R k es ≡ true → First e es
    Above : R k e.0 ≡ Less → count_below R k (e ∷ es) ≡ 0 → below_all R k es ≡ true → First e es

  first : (e : K × X) (es : List (K × X)) → is_sorted R (e ∷ es) ≡ true → First e es
  first e es s = by (R e.0 k) refl
    where
      low : below_all R e.0 es ≡ true
      low = first_so (below_all R e.0 es) (is_sorted R es) s

      back : (r : Ordering) → R e.0 k ≡ r → R k e.0 ≡ ordering_reverse r
      back r h = o.antisymm k e.0 ∙ ap ordering_reverse h

      none : is_lt (R e.0 k) ≡ false → count_below R k (e ∷ es) ≡ 0
      none h = ap length (none_from o false k e es s h)

      by : (r : Ordering) → R e.0 k ≡ r → First e es
      by Less h = Below h (back Less h)
      by Equal h = Own (back Equal h) (none (ap is_lt h)) (above_from e.0 es (inr (back Equal h)) low)
      by Greater h = Above (back Greater h) (none (ap is_lt h)) (above_from e.0 es (inl (back Greater h)) low)

  tail : (e : K × X) (es : List (K × X)) → is_sorted R (e ∷ es) ≡ true → is_sorted R es ≡ true
  tail e es s = second_so (below_all R e.0 es) (is_sorted R es) s

  -- the key's value is that of the entry after the keys below it, if that is the key's
  pub found : (es : List (K × X)) → is_sorted R es ≡ true → find R k es ≡ value_at R k (slice_get es (count_below R k es))
  found [] s = refl
  found (e ∷ es) s = elim (first e es s) [
    | Below h g ↦ rw (h, g) (found es (tail e es s))
    | Own h z a ↦ rw (z, h) refl
    | Above h z a ↦ rw (z, h) (find_above es a)
  ]

  -- a key that isn't there comes in at that place
  pub put_missing : (v : X) (es : List (K × X)) → is_sorted R es ≡ true → find R k es ≡ None
      → put R k v es ≡ take (count_below R k es) es ++ (k, v) ∷ drop (count_below R k es) es
  put_missing v [] s none = refl
  put_missing v (e ∷ es) s none = elim (first e es s) [
    | Below h g ↦
        let rest : find R k es ≡ None = rw g at none in
        rw (h, g) (ap (λ (l : List (K × X)). e ∷ l) (put_missing v es (tail e es s) rest))
    | Own h z a ↦ let some : Some e.1 ≡ None = rw h at none in cc
    | Above h z a ↦ rw (z, h) refl
  ]

  -- where the key isn't, to leave it out leaves all
  pub kept_without : (es : List (K × X)) → find R k es ≡ None → where_key R (differs R k) es ≡ es
  kept_without [] none = refl
  kept_without (e ∷ es) none = elim (either (eq_by_cmp R k e.0)) [
    | inl h ↦ let some : Some e.1 ≡ None = rw h at none in cc
    | inr h ↦
        let rest : find R k es ≡ None = rw h at none in
        rw h (ap (λ (l : List (K × X)). e ∷ l) (kept_without es rest))
  ]

  module _ (w : X) where
    own : (e : K × X) → Some e ≡ Some (k, w) → e ≡ (k, w)
    own e is = ap (λ m. unwrap_or m e) is

    own_ties : (e : K × X) → Some e ≡ Some (k, w) → R k e.0 ≡ Equal
    own_ties e is = ap (λ (x : K × X). R k x.0) (own e is) ∙ tied_itself o k

    -- one that is there has its value set
    pub put_held : (v : X) (es : List (K × X)) → is_sorted R es ≡ true → slice_get es (count_below R k es) ≡ Some (k, w)
        → put R k v es ≡ set es (count_below R k es) (k, v)
    put_held v [] s is = cc
    put_held v (e ∷ es) s is = elim (first e es s) [
      | Below h g ↦ rw (h, g) (ap (λ (l : List (K × X)). e ∷ l) (put_held v es (tail e es s) (rw h at is)))
      | Own h z a ↦ rw (z, h) (ap (λ (x : K × X). (x.0, v) ∷ es) (own e (rw z at is)))
      | Above h z a ↦ let tie = own_ties e (rw z at is) in cc
    ]

    -- or goes
    pub left_without : (es : List (K × X)) → is_sorted R es ≡ true → slice_get es (count_below R k es) ≡ Some (k, w)
        → where_key R (differs R k) es ≡ take (count_below R k es) es ++ drop (suc (count_below R k es)) es
    left_without [] s is = cc
    left_without (e ∷ es) s is = elim (first e es s) [
      | Below h g ↦ rw (h, g) (ap (λ (l : List (K × X)). e ∷ l) (left_without es (tail e es s) (rw h at is)))
      | Own h z a ↦ rw (z, h) (keep_above es a)
      | Above h z a ↦ let tie = own_ties e (rw z at is) in cc
    ]
