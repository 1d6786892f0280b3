-- Entries by rising key: what an edit at the place that a search gives makes of the finite map.
use Rattle.std.proofs.Common.{◌≡◌, ℕ, zero, suc, ◌+◌, ◌<◌, ◌≤◌, Bool, true, false, cond, List, [], ◌∷◌, length, get_or, set, Some, None, refl, sym, ap, subst, ◌∙◌, arith}
use Rattle.std.specs.Prelude.{not}
use lib.Dec.{T}
use Rattle.std.specs.declared.cmp.Ordering.{Ordering}
use Rattle.std.specs.declared.cmp.Ordering.TheVariants.{Less, Equal, Greater}
use Rattle.std.specs.Ordering.{eq_by_cmp, is_eq, is_lt, ordering_index, ordering_reverse}
use Rattle.std.specs.Cmp.{IsTotalOrder, alike_right, tied_itself, eq_by_cmp_equiv, first_so, second_so}
use Rattle.std.specs.List.{insert, remove}
use Rattle.std.specs.List.Sorted.{IsNonDecreasingBy}
use Rattle.std.specs.FinMap as map
use Rattle.std.specs.FinMap.Entries.{put, find, is_sorted, below_all, where_key, is_sorted-where_key, find-where_key}
use Rattle.std.proofs.lemmas.List.Sorted.{searchable_from_sorted}

is_less : (r : Ordering) → is_lt r ≡ true → r ≡ Less
is_less Less h = refl
is_less Equal h = cc
is_less Greater h = cc

pub told : (b : Bool) → T b → b ≡ true
told true h = refl
told false h = absurd h

pub tells : (b : Bool) → b ≡ true → T b
tells b h = subst T (sym h) tt

turned : {X : Type 0} (b : Bool) (x y : X) → cond (not b) x y ≡ cond b y x
turned true x y = refl
turned false x y = refl

module _ {K X : Type 0} (R : K → K → Ordering) where
  -- an entry of those that are above a key
  below_at : (x : K) (es : List (K × X)) → below_all R x es ≡ true → (i : ℕ) (d : K × X) → i < length es → R x (get_or es i d).0 ≡ Less
  below_at x [] h i d within = absurd (omega arith)
  below_at x (e ∷ es) h zero d within = is_less _ (first_so (is_lt (R x e.0)) (below_all R x es) h)
  below_at x (e ∷ es) h (suc i) d within = below_at x es (second_so (is_lt (R x e.0)) (below_all R x es) h) i d (omega arith)

  head_below : (e : K × X) (es : List (K × X)) → is_sorted R (e ∷ es) ≡ true → below_all R e.0 es ≡ true
  head_below e es h = first_so (below_all R e.0 es) (is_sorted R es) h

  tail_sorted : (e : K × X) (es : List (K × X)) → is_sorted R (e ∷ es) ≡ true → is_sorted R es ≡ true
  tail_sorted e es h = second_so (below_all R e.0 es) (is_sorted R es) h

  -- the keys rise
  rising : (es : List (K × X)) → is_sorted R es ≡ true → (i j : ℕ) (d : K × X) → i < j → j < length es → R (get_or es i d).0
      (get_or es j d).0 ≡ Less
  rising [] h i j d less within = absurd (omega arith)
  rising (e ∷ es) h i zero d less within = absurd (omega arith)
  rising (e ∷ es) h zero (suc j) d less within = below_at e.0 es (head_below e es h) j d (omega arith)
  rising (e ∷ es) h (suc i) (suc j) d less within = rising es (tail_sorted e es h) i j d (omega arith) (omega arith)

module _ {K : Type 0} {R : K → K → Ordering} (o : IsTotalOrder R) where
  back : (x y : K) (r : Ordering) → R x y ≡ r → R y x ≡ ordering_reverse r
  back x y r h = o.antisymm y x ∙ ap ordering_reverse h

  tied : (k x : K) → x ≡ k → R k x ≡ Equal
  tied k x same = ap (R k) same ∙ tied_itself o k

-- whether a key is another one
abbrev pub differs : {K : Type 0} → (K → K → Ordering) → K → K → Bool
differs R k x = not (eq_by_cmp R k x)

module _ {K X : Type 0} {R : K → K → Ordering} (o : IsTotalOrder R) where
  -- so a binary search for a key is answered by its place
  pub searchable : (es : List (K × X)) → is_sorted R es ≡ true → (x : K) → IsNonDecreasingBy (λ (e : K × X). ordering_index (R e.0 x)) es
  searchable es h x = searchable_from_sorted o (λ (e : K × X). e.0) es x (λ i d low within.
      ap is_lt (back o (get_or es i d).0 (get_or es (i + 1) d).0 Less (rising R es h i (i + 1) d (omega arith) within)))

  module _ (k : K) where
    -- ---- at the gap where the key would go
    pub put-gap :
        (v : X) (es : List (K × X)) (i : ℕ) → i ≤ length es → ((j : ℕ) (d : K × X) → j < i → R (get_or es j d).0 k ≡ Less)
        → ((j : ℕ) (d : K × X) → i ≤ j → j < length es → R (get_or es j d).0 k ≡ Greater) → put R k v es ≡ insert es i (k, v)
    put-gap v [] zero within below above = refl
    put-gap v [] (suc i) within below above = absurd (omega arith)
    put-gap v (e ∷ es) zero within below above =
        let first = back o e.0 k Greater (above 0 e (omega arith) (omega arith)) in rw first refl
    put-gap v (e ∷ es) (suc i) within below above =
        let behind = back o e.0 k Less (below 0 e (omega arith)) in
        rw behind (ap (λ (l : List (K × X)). e ∷ l) (put-gap v es i (omega arith)
        (λ j d h. below (suc j) d (omega arith)) (λ j d h w. above (suc j) d (omega arith) (omega arith))))

    pub find-gap :
        (es : List (K × X)) (i : ℕ) → i ≤ length es → ((j : ℕ) (d : K × X) → j < i → R (get_or es j d).0 k ≡ Less)
        → ((j : ℕ) (d : K × X) → i ≤ j → j < length es → R (get_or es j d).0 k ≡ Greater) → find R k es ≡ None
    find-gap [] i within below above = refl
    find-gap (e ∷ es) zero within below above =
        let first = back o e.0 k Greater (above 0 e (omega arith) (omega arith)) in
        rw first (find-gap es 0 (omega arith) (λ j d h. absurd (omega arith)) (λ j d h w. above (suc j) d (omega arith) (omega arith)))
    find-gap (e ∷ es) (suc i) within below above =
        let behind = back o e.0 k Less (below 0 e (omega arith)) in
        rw behind (find-gap es i (omega arith) (λ j d h. below (suc j) d (omega arith)) (λ j d h w. above (suc j) d (omega arith)
        (omega arith)))

    -- ---- at the key's own place
    before : (e : K × X) (es : List (K × X)) → is_sorted R (e ∷ es) ≡ true → (i : ℕ) → i < length es → ((d : K × X) →
        (get_or es i d).0 ≡ k) → R k e.0 ≡ Greater
    before e es h i within same = back o e.0 k Less (sym (ap (R e.0) (same e)) ∙ below_at R e.0 es (head_below R e es h) i e within)

    pub put-at :
        (v : X) (es : List (K × X)) → is_sorted R es ≡ true → (i : ℕ) → i < length es → ((d : K × X) → (get_or es i d).0 ≡ k)
        → put R k v es ≡ set es i (k, v)
    put-at v [] h i within same = absurd (omega arith)
    put-at v (e ∷ es) h zero within same = let here = tied o k e.0 (same e) in rw here (ap (λ (x : K). (x, v) ∷ es) (same e))
    put-at v (e ∷ es) h (suc i) within same =
        let later = before e es h i (omega arith) same in
        rw later (ap (λ (l : List (K × X)). e ∷ l) (put-at v es (tail_sorted R e es h) i (omega arith) same))

    pub find-at :
        (es : List (K × X)) → is_sorted R es ≡ true → (i : ℕ) (d : K × X) → i < length es → ((d : K × X) → (get_or es i d).0 ≡ k)
        → find R k es ≡ Some (get_or es i d).1
    find-at [] h i d within same = absurd (omega arith)
    find-at (e ∷ es) h zero d within same = let here = tied o k e.0 (same e) in rw here refl
    find-at (e ∷ es) h (suc i) d within same =
        let later = before e es h i (omega arith) same in rw later (find-at es (tail_sorted R e es h) i d (omega arith) same)

    keeps_all : (es : List (K × X)) → ((i : ℕ) (d : K × X) → i < length es → R k (get_or es i d).0 ≡ Less) → es ≡ where_key R
        (differs R k) es
    keeps_all [] above = refl
    keeps_all (e ∷ es) above =
        let first = above 0 e (omega arith) in rw first (ap (λ (l : List (K × X)). e ∷ l) (keeps_all es (λ i d h. above (suc i) d
        (omega arith))))

    pub remove-at :
        (es : List (K × X)) → is_sorted R es ≡ true → (i : ℕ) → i < length es → ((d : K × X) → (get_or es i d).0 ≡ k)
        → remove es i ≡ where_key R (differs R k) es
    remove-at [] h i within same = absurd (omega arith)
    remove-at (e ∷ es) h zero within same =
        let here = tied o k e.0 (same e) in
        let above : (j : ℕ) (d : K × X) → j < length es → R k (get_or es j d).0 ≡ Less =
        λ j d w. ap (λ (x : K). R x (get_or es j d).0) (sym (same e)) ∙ below_at R e.0 es (head_below R e es h) j d w in
        rw here (keeps_all es above)
    remove-at (e ∷ es) h (suc i) within same =
        let later = before e es h i (omega arith) same in
        rw later (ap (λ (l : List (K × X)). e ∷ l) (remove-at es (tail_sorted R e es h) i (omega arith) same))

-- to take out what isn't there changes nothing
pub remove-absent : {K X : Type 0} {R : K → K → Ordering} → IsTotalOrder R → map.IsAntisymmetric R → (m : map.FinMap R X) (k : K)
    → map.get m k ≡ None → map.remove m k ≡ m
remove-absent {K = K} {R = R} o same m k none = map.same_map o same _ _ (λ q. map.get-remove o m k q ∙ at q (R q k) refl)
  where
    at : (q : K) (r : Ordering) → R q k ≡ r → cond (is_eq r) None (map.get m q) ≡ map.get m q
    at q Less e = refl
    at q Equal e = sym none ∙ map.get_tied o m q k e
    at q Greater e = refl

-- these entries rise, and are the map
pub record AreOf {K X : Type 0} (R : K → K → Ordering) (m : map.FinMap R X) (es : List (K × X)) : Type 0 where
  pub sorted : is_sorted R es ≡ true
  pub is : map.from_sorted {R = R} es ≡ m

module _ {K X : Type 0} {R : K → K → Ordering} (o : IsTotalOrder R) (m : map.FinMap R X) (es : List (K × X)) (h : AreOf R m es) where
  listed : map.entries m ≡ es
  listed = ap map.entries (sym h.is) ∙ map.entries-from_sorted R es (tells _ h.sorted)

  pub len-of : length es ≡ map.len m
  len-of = sym (map.len-entries m ∙ ap length listed)

  pub get-of : (k : K) → find R k es ≡ map.get m k
  get-of k = sym (map.get-entries m k ∙ ap (find R k) listed)

  -- entries that are as if the key was put are the map with it
  pub of_put : (k : K) (v : X) (fs : List (K × X)) → put R k v es ≡ fs → AreOf R (map.insert m k v) fs
  of_put k v fs e =
      let made : map.entries (map.insert m k v) ≡ fs = map.entries-insert o m k v ∙ ap (put R k v) listed ∙ e in
      let rises : T (is_sorted R fs) = subst (λ (l : List (K × X)). T (is_sorted R l)) made (map.entries_sorted (map.insert m k v)) in
      record { sorted = told _ rises; is = map.same_entries_map _ _ (map.entries-from_sorted R fs rises ∙ sym made) }

  -- and those of the other keys are the map without it
  pub of_removal : map.IsAntisymmetric R → (k : K) (fs : List (K × X)) → fs ≡ where_key R (differs R k) es → AreOf R (map.remove m k) fs
  of_removal same k fs e =
      let rises : T (is_sorted R fs) =
      subst (λ (l : List (K × X)). T (is_sorted R l)) (sym e) (is_sorted-where_key R (differs R k) es (tells _ h.sorted)) in
      let alike : (q x : K) → R q x ≡ Equal → differs R k x ≡ differs R k q =
      λ q x t. ap (λ r. not (is_eq r)) (sym (alike_right o q x k t)) in
      record {
        sorted = told _ rises;
        is = map.same_map o same _ _ (λ q. map.get-from_sorted R fs q rises ∙ ap (find R q) e
            ∙ find-where_key R (differs R k) q (alike q) es
            ∙ turned (eq_by_cmp R k q) (find R q es) None
            ∙ ap (λ (b : Bool). cond b None (find R q es)) ((eq_by_cmp_equiv o).symm k q)
            ∙ ap (cond (eq_by_cmp R q k) None) (get-of q)
            ∙ sym (map.get-remove o m k q));
      }
