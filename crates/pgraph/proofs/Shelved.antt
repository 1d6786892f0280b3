-- What a shelf has under a name, and how it changes.
use Rattle.std.proofs.Common.{◌≡◌, ℕ, Bool, true, false, cond, List, [], ◌∷◌, refl, sym, ap, ◌∙◌}
use Rattle.std.specs.Prelude.{◌≢◌, Option, Some, None, is_some, IsSome}
use Rattle.std.specs.declared.cmp.Ordering.{Ordering}
use Rattle.std.specs.declared.cmp.Ordering.TheVariants.{Less, Equal, Greater}
use Rattle.std.specs.Cmp.{IsTotalOrder}
use Rattle.std.specs.Ordering.{is_eq}
use Rattle.std.specs.Map.{lookup}
use Rattle.std.specs.BTreeMap.{is_at}
use Rattle.slab.specs.Slab.{Slab, get, with_value, Updates}
use Rattle.slab.proofs.SlabLemmas.{Updates-with_value}
use Rattle.pgraph.specs.Shelf.{named_first, shelved, value_of, SetsValue, AreShelved}

-- what is kept under a key, if there is one
abbrev pub kept : {V : Type 0} → Slab V → Option ℕ → Option V
kept values None = None
kept values (Some key) = get values key

tied : (r : Ordering) → is_eq r ≡ true → r ≡ Equal
tied Less h = absurd (cc)
tied Equal h = refl
tied Greater h = absurd (cc)

pub lookup_shelved : {K V : Type 0} (values : Slab V) (test : K → Bool) (es : List (K × ℕ))
    → ((key : ℕ) → lookup test es ≡ Some key → IsSome (get values key)) → lookup test (shelved values es) ≡ kept values (lookup test es)
lookup_shelved values test [] there = refl
lookup_shelved {V = V} values test (e ∷ es) there =
    by (test e.0) refl (get values e.1) refl (λ f. lookup_shelved values test es (λ key h. there key (rw f h)))
  where
    by : (t : Bool) → test e.0 ≡ t → (o : Option V) → get values e.1 ≡ o
        → (test e.0 ≡ false → lookup test (shelved values es) ≡ kept values (lookup test es))
        → lookup test (named_first e.0 o (shelved values es)) ≡ kept values (cond t (Some e.1) (lookup test es))
    by true f None g rest = let h : is_some (get values e.1) ≡ true = there e.1 (rw f refl) in absurd (cc)
    by true f (Some v) g rest = rw f (sym g)
    by false f None g rest = rest f
    by false f (Some v) g rest = rw f (rest f)

-- a key is found by a test for equal ones as by their order
module _ {K X : Type 0} (eq : K → K → Bool) (cmp : K → K → Ordering) (matches : (x y : K) → eq x y ≡ is_eq (cmp x y)) where
  pub found_by_order : (q : K) (es : List (K × X)) → lookup (eq q) es ≡ value_of cmp es q
  found_by_order q [] = refl
  found_by_order q (e ∷ es) = λ i. cond (matches q e.0 i) (Some e.1) (found_by_order q es i)

  pub updates_by_order : (es fs : List (K × X)) (name : K) (w : Option X)
      → ((q : K) → lookup (eq q) fs ≡ cond (eq name q) w (lookup (eq q) es)) → SetsValue cmp es fs name w
  updates_by_order es fs name w updates q = sym (found_by_order q fs) ∙ updates q
      ∙ (λ i. cond (matches name q i) w (found_by_order q es i))

-- names that tie have the same
pub lookup_tied : {K X : Type 0} {cmp : K → K → Ordering} → IsTotalOrder cmp → (a b : K) → is_at (cmp a) b ≡ true → (es : List (K × X))
    → value_of cmp es b ≡ value_of cmp es a
lookup_tied order a b t [] = refl
lookup_tied {cmp = cmp} order a b t (e ∷ es) =
    λ i. cond (is_eq (sym (order.congr a b e.0 (tied (cmp a b) t)) i)) (Some e.1) (lookup_tied order a b t es i)

module _ {K V : Type 0} {cmp : K → K → Ordering} (values : Slab V) (es : List (K × ℕ)) (are : AreShelved cmp values es) where
  -- what a shelf with this view has
  pub value_kept : (seen : List (K × V)) → shelved values es ≡ seen → (name : K) → value_of cmp seen name
      ≡ kept values (value_of cmp es name)
  value_kept seen is name = ap (λ (l : List (K × V)). value_of cmp l name) (sym is)
      ∙ lookup_shelved values (is_at (cmp name)) es (are.there name)

  -- a free key is no name's
  pub not_free : (key : ℕ) → get values key ≡ None → (name : K) → value_of cmp es name ≢ Some key
  not_free key free name e = let h : is_some (get values key) ≡ true = are.there name key e in absurd (cc)

  -- no other name has the key of a name
  pub not_others : (name : K) (key : ℕ) → value_of cmp es name ≡ Some key → (q : K) → is_at (cmp name) q ≡ false
      → value_of cmp es q ≢ Some key
  not_others name key has q apart e = let t : is_at (cmp name) q ≡ true = are.once name q key has e in absurd (cc)

  pub with_room : (n : ℕ) → AreShelved cmp (record values { capacity = n }) es
  with_room n = record { there = are.there; once = are.once }

  -- the key that a name has, set again
  pub key_again : IsTotalOrder cmp → (name : K) (key : ℕ) → value_of cmp es name ≡ Some key → (q : K)
      → value_of cmp es q ≡ cond (is_at (cmp name) q) (Some key) (value_of cmp es q)
  key_again order name key has q = by (is_at (cmp name) q) refl
    where
      by : (t : Bool) → is_at (cmp name) q ≡ t → value_of cmp es q ≡ cond t (Some key) (value_of cmp es q)
      by true e = lookup_tied order name q e es ∙ has
      by false e = refl

-- room is no value
pub shelved_with_room : {K V : Type 0} (values : Slab V) (n : ℕ) (es : List (K × ℕ))
    → shelved (record values { capacity = n }) es ≡ shelved values es
shelved_with_room values n [] = refl
shelved_with_room values n (e ∷ es) = ap (named_first e.0 (get values e.1)) (shelved_with_room values n es)

-- other keys keep what they have
pub others_kept : {V : Type 0} (values after : Slab V) (key : ℕ) (slot : Option V) → Updates values after key slot → (o : Option ℕ)
    → o ≢ Some key → kept after o ≡ kept values o
others_kept values after key slot u None ne = refl
others_kept values after key slot u (Some k) ne = u.others k (λ e. ne (ap Some e))

-- One name has another key, and each other has what it had.
module _ {K V : Type 0} {cmp : K → K → Ordering} (values after : Slab V) (es fs : List (K × ℕ)) (name : K) (o : Option ℕ) (w : Option V)
    (are : AreShelved cmp values es)
    (sets : (q : K) → value_of cmp fs q ≡ cond (is_at (cmp name) q) o (value_of cmp es q))
    (same : (q : K) → is_at (cmp name) q ≡ false → kept after (value_of cmp es q) ≡ kept values (value_of cmp es q))
    (here : kept after o ≡ w) (full : IsSome o → IsSome w) where
  pub there_after : (q : K) (k : ℕ) → value_of cmp fs q ≡ Some k → IsSome (get after k)
  there_after q k e = by (is_at (cmp name) q) refl (sym (sets q) ∙ e)
    where
      by : (t : Bool) → is_at (cmp name) q ≡ t → cond t o (value_of cmp es q) ≡ Some k → is_some (get after k) ≡ true
      by true f g = ap (λ (p : Option ℕ). is_some (kept after p)) (sym g) ∙ ap is_some here ∙ full (ap is_some g)
      by false f g = ap (λ (p : Option ℕ). is_some (kept after p)) (sym g) ∙ ap is_some (same q f)
          ∙ ap (λ (p : Option ℕ). is_some (kept values p)) g ∙ are.there q k g

  pub sets_value : (seen : List (K × V)) → shelved values es ≡ seen → SetsValue cmp seen (shelved after fs) name w
  sets_value seen is q = lookup_shelved after (is_at (cmp q)) fs (there_after q) ∙ ap (kept after) (sets q) ∙ by (is_at (cmp name) q) refl
    where
      by : (t : Bool) → is_at (cmp name) q ≡ t → kept after (cond t o (value_of cmp es q)) ≡ cond t w (value_of cmp seen q)
      by true e = here
      by false e = same q e ∙ sym (value_kept values es are seen is q)

-- a name has no key any more
module _ {K V : Type 0} {cmp : K → K → Ordering} (values after : Slab V) (es fs : List (K × ℕ)) (name : K) (are : AreShelved cmp values es)
    (sets : SetsValue cmp es fs name None)
    (same : (q : K) → is_at (cmp name) q ≡ false → kept after (value_of cmp es q) ≡ kept values (value_of cmp es q)) where
  had : (q : K) (key : ℕ) → value_of cmp fs q ≡ Some key → value_of cmp es q ≡ Some key
  had q key e = by (is_at (cmp name) q) (sym (sets q) ∙ e)
    where
      by : (t : Bool) → cond t None (value_of cmp es q) ≡ Some key → value_of cmp es q ≡ Some key
      by true f = absurd (cc)
      by false f = f

  pub remove_shelved : AreShelved cmp after fs
  remove_shelved = record {
    there = there_after values after es fs name None None are sets same refl (λ h. h);
    once = λ p q key e f. are.once p q key (had p key e) (had q key f);
  }

-- the value of a name that has one is written in its place
pub written_sets : {K V : Type 0} {cmp : K → K → Ordering} → IsTotalOrder cmp → (values : Slab V) (es : List (K × ℕ))
    → AreShelved cmp values es → (name : K) (key : ℕ) → value_of cmp es name ≡ Some key → (w : V) (seen : List (K × V))
    → shelved values es ≡ seen → SetsValue cmp seen (shelved (with_value values key w) es) name (Some w)
written_sets order values es are name key has w =
    let updates = Updates-with_value values key w (are.there name key has) in
    sets_value values (with_value values key w) es es name (Some key) (Some w) are (key_again values es are order name key has)
    (λ q f. others_kept values (with_value values key w) key (Some w) updates _ (not_others values es are name key has q f))
    updates.changed (λ h. refl)

-- a new name has a key that was free
module _ {K V : Type 0} {cmp : K → K → Ordering} (order : IsTotalOrder cmp) (values after : Slab V) (es fs : List (K × ℕ)) (name : K)
    (key : ℕ)
    (v : V) (are : AreShelved cmp values es) (free : get values key ≡ None) (updates : Updates values after key (Some v))
    (sets : (q : K) → value_of cmp fs q ≡ cond (is_at (cmp name) q) (Some key) (value_of cmp es q)) where
  others : (q : K) → kept after (value_of cmp es q) ≡ kept values (value_of cmp es q)
  others q = others_kept values after key (Some v) updates (value_of cmp es q) (not_free values es are key free q)

  pub insert_sets : (seen : List (K × V)) → shelved values es ≡ seen → SetsValue cmp seen (shelved after fs) name (Some v)
  insert_sets = sets_value values after es fs name (Some key) (Some v) are sets (λ q f. others q) updates.changed (λ h. refl)

  pub insert_shelved : AreShelved cmp after fs
  insert_shelved = record {
    there = there_after values after es fs name (Some key) (Some v) are sets (λ q f. others q) updates.changed (λ h. refl);
    once = once;
  }
    where
      same_key : (k : ℕ) → Some key ≡ Some k → Some k ≡ Some key
      same_key k e = sym e

      once : (p q : K) (k : ℕ) → value_of cmp fs p ≡ Some k → value_of cmp fs q ≡ Some k → is_at (cmp p) q ≡ true
      once p q k e f = by (is_at (cmp name) p) refl (is_at (cmp name) q) refl (sym (sets p) ∙ e) (sym (sets q) ∙ f)
        where
          by : (t : Bool) → is_at (cmp name) p ≡ t → (u : Bool) → is_at (cmp name) q ≡ u → cond t (Some key) (value_of cmp es p) ≡ Some k
              → cond u (Some key) (value_of cmp es q) ≡ Some k → is_at (cmp p) q ≡ true
          by true a true b g h = sym (ap is_eq (order.congr name p q (tied (cmp name p) a))) ∙ b
          by true a false b g h = absurd (not_free values es are key free q (h ∙ same_key k g))
          by false a true b g h = absurd (not_free values es are key free p (g ∙ same_key k h))
          by false a false b g h = are.once p q k g h
