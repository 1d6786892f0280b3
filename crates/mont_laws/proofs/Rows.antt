-- Items by rising serial: what stands at a serial when one is added after the last or the first goes.
use Rattle.std.proofs.Common.{◌≡◌, ℕ, ◌<◌, ◌≤◌, List, [], ◌∷◌, ◌++◌, sym, refl, ap, ◌∙◌, arith, Bool, true, false, cond}
use Rattle.std.specs.Prelude.{Option, Some, None, T, ◌&&◌, nat_lt, ◌==◌}
use Rattle.std.specs.declared.cmp.Ordering.{Ordering}
use Rattle.std.specs.declared.cmp.Ordering.TheVariants.{Less, Equal, Greater}
use Rattle.std.specs.Cmp.{nat_cmp_total, eq_by_cmp_equiv}
use Rattle.std.specs.Ordering.{nat_cmp, eq_by_cmp, is_lt, is_eq}
use Rattle.std.specs.FinMap.{find, is_sorted}
use Rattle.std.specs.FinMap.Entries.{below_all, find-append}
use Rattle.std.specs.Map.{update}
use Rattle.std.proofs.Math.Path.{fun_ext}
use Rattle.std.proofs.lemmas.Bool.Decides.{nat_tests}
use Rattle.mont_laws.proofs.Keys.{one_number}

pub first : (a b : Bool) → T (a && b) → T a
first true b p = tt
first false b p = p

pub second : (a b : Bool) → T (a && b) → T b
second true b p = p
second false b p = absurd p

both : (a b : Bool) → T a → T b → T (a && b)
both true b p q = q
both false b p q = p

less : (k s : ℕ) → k < s → T (is_lt (nat_cmp k s))
less k s l = let e : nat_lt k s ≡ true = grind (arith, nat_tests) in rw e tt

more : (k s : ℕ) → T (is_lt (nat_cmp k s)) → k < s
more k s h = by (nat_lt k s) refl h
  where
    by : (t : Bool) → nat_lt k s ≡ t → T (is_lt (cond t Less (cond (k == s) Equal Greater))) → k < s
    by true e h = grind (arith, nat_tests)
    by false e h = none (k == s) h
      where
        none : (t : Bool) → T (is_lt (cond t Equal Greater)) → k < s
        none true h = absurd h
        none false h = absurd h

not_tied : {K : Type 0} (R : K → K → Ordering) (k s : K) → T (is_lt (R k s)) → eq_by_cmp R k s ≡ false
not_tied R k s h = by (R k s) h
  where
    by : (o : Ordering) → T (is_lt o) → is_eq o ≡ false
    by Less h = refl
    by Equal h = absurd h
    by Greater h = absurd h

-- a key below all is not found
pub find_below : {K V : Type 0} (R : K → K → Ordering) (k : K) (es : List (K × V)) → T (below_all R k es) → find R k es ≡ None
find_below R k [] h = refl
find_below R k (e ∷ es) h = ap (λ t. cond t (Some e.1) (find R k es)) (not_tied R k e.0 (first (is_lt (R k e.0)) (below_all R k es) h))
    ∙ find_below R k es (second (is_lt (R k e.0)) (below_all R k es) h)

abbrev pub Serials : Type 0
Serials = List (ℕ × ℕ)

-- each serial is below this one
abbrev pub AllBelow : Serials → ℕ → Type 0
AllBelow es s = (k x : ℕ) → find nat_cmp k es ≡ Some x → k < s

found_more : (k s : ℕ) (e : ℕ × ℕ) (es : Serials) → AllBelow (e ∷ es) s → (x : ℕ) → find nat_cmp k es ≡ Some x → k < s
found_more k s e es below x f = by (eq_by_cmp nat_cmp k e.0) refl
  where
    by : (t : Bool) → eq_by_cmp nat_cmp k e.0 ≡ t → k < s
    by true g = below k e.1 (ap (λ t. cond t (Some e.1) (find nat_cmp k es)) g)
    by false g = below k x (ap (λ t. cond t (Some e.1) (find nat_cmp k es)) g ∙ f)

first_below : (e : ℕ × ℕ) (es : Serials) (s : ℕ) → AllBelow (e ∷ es) s → e.0 < s
first_below e es s below = below e.0 e.1 (ap (λ t. cond t (Some e.1) (find nat_cmp e.0 es)) ((one_number e.0 e.0).1 refl))

below_push : (k s x : ℕ) (es : Serials) → k < s → T (below_all nat_cmp k es) → T (below_all nat_cmp k (es ++ (s, x) ∷ []))
below_push k s x [] l h = both (is_lt (nat_cmp k s)) true (less k s l) tt
below_push k s x (e ∷ es) l h = both _ _ (first _ _ h) (below_push k s x es l (second _ _ h))

pub sorted_push : (s x : ℕ) (es : Serials) → AllBelow es s → T (is_sorted nat_cmp es) → T (is_sorted nat_cmp (es ++ (s, x) ∷ []))
sorted_push s x [] below h = tt
sorted_push s x (e ∷ es) below h = both _ _ (below_push e.0 s x es (first_below e es s below) (first _ _ h))
    (sorted_push s x es (λ k y f. found_more k s e es below y f) (second _ _ h))

pub find_above : (s : ℕ) (es : Serials) → AllBelow es s → find nat_cmp s es ≡ None
find_above s es below = by (find nat_cmp s es) refl
  where
    by : (o : Option ℕ) → find nat_cmp s es ≡ o → o ≡ None
    by None e = refl
    by (Some x) e = let l = below s x e in absurd (omega arith)

pub push_update : (es : Serials) (s x : ℕ) → AllBelow es s → update (eq_by_cmp nat_cmp) (λ q. find nat_cmp q es) s
    (Some x) ≡ (λ q. find nat_cmp q (es ++ (s, x) ∷ []))
push_update es s x below = fun_ext
    (λ q. ap (λ t. cond t (Some x) (find nat_cmp q es)) ((eq_by_cmp_equiv nat_cmp_total).symm s q)
    ∙ sym (find-append nat_cmp nat_cmp_total es s x q (find_above s es below)))

pub rest_update : (e : ℕ × ℕ) (es : Serials) → T (below_all nat_cmp e.0 es)
    → update (eq_by_cmp nat_cmp) (λ q. find nat_cmp q (e ∷ es)) e.0 None ≡ (λ q. find nat_cmp q es)
rest_update e es h = fun_ext
    (λ q. ap (λ t. cond t None (find nat_cmp q (e ∷ es))) ((eq_by_cmp_equiv nat_cmp_total).symm e.0 q)
    ∙ by q (eq_by_cmp nat_cmp q e.0) refl)
  where
    by : (q : ℕ) (t : Bool) → eq_by_cmp nat_cmp q e.0 ≡ t → cond t None (cond t (Some e.1) (find nat_cmp q es)) ≡ find nat_cmp q es
    by q true f = sym (ap (λ k. find nat_cmp k es) ((one_number q e.0).0 f) ∙ find_below nat_cmp e.0 es h)
    by q false f = refl

-- the first serial is the least
found_below : (s k x : ℕ) (es : Serials) → T (below_all nat_cmp s es) → find nat_cmp k es ≡ Some x → s < k
found_below s k x [] h f = absurd (cc)
found_below s k x (e ∷ es) h f = by (eq_by_cmp nat_cmp k e.0) refl f (λ g. found_below s k x es (second _ _ h) g)
  where
    by : (t : Bool) → eq_by_cmp nat_cmp k e.0 ≡ t → cond t (Some e.1) (find nat_cmp k es) ≡ Some x → (find nat_cmp k es ≡ Some x → s < k)
        → s < k
    by true g f rest = let is = (one_number k e.0).0 g in let l = more s e.0 (first _ _ h) in omega arith
    by false g f rest = rest f

pub first_least : (e : ℕ × ℕ) (es : Serials) (k x : ℕ) → T (is_sorted nat_cmp (e ∷ es)) → find nat_cmp k (e ∷ es) ≡ Some x → e.0 ≤ k
first_least e es k x h f = by (eq_by_cmp nat_cmp k e.0) refl f
  where
    by : (t : Bool) → eq_by_cmp nat_cmp k e.0 ≡ t → cond t (Some e.1) (find nat_cmp k es) ≡ Some x → e.0 ≤ k
    by true g f = let is = (one_number k e.0).0 g in omega arith
    by false g f = let l = found_below e.0 k x es (first _ _ h) f in omega arith
