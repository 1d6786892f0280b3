-- What a sorted map has between two bounds is what a filter by these bounds finds in it; the last of a list, and its first.
use Rattle.std.proofs.Common.{◌≡◌, ℕ, suc, ◌+◌, ◌-◌, Bool, true, false, List, [], ◌∷◌, ◌++◌, Some, length, take, refl, sym, ap, ◌∙◌, arith, append_assoc, length-append}
use Rattle.std.specs.Prelude.{not, ◌&&◌, filter, slice_get}
use Rattle.std.specs.declared.cmp.Ordering.{Ordering}
use Rattle.std.specs.declared.cmp.Ordering.TheVariants.{Less, Equal, Greater}
use Rattle.std.specs.declared.ops.Bound.TheVariants.{Included, Excluded, Unbounded}
use Rattle.std.specs.BTreeMap.Comparable.{le_lt_trans}
use Rattle.std.specs.BTreeMap.Range.{entries_between}
use Rattle.std.specs.FinMap as finite
use Rattle.std.specs.List.Sorted.{IsStrictlySortedBy}
use Rattle.std.specs.Map.{keys_of}
use Rattle.std.specs.Ordering.{is_lt, is_le, is_gt, ordering_reverse}
use Rattle.std.proofs.lemmas.List.Elements.{filter_agree}
use Rattle.mont_base.specs.State.{Pairs, Key, Value, key_cmp, last_of}
use Rattle.plain.specs.Ranges.{pairs_between}
use Rattle.plain.proofs.Maps.{keys_total, kept_entries}

abbrev pub Entry : Type 0
Entry = Key × Value

at_end : {A : Type 0} (xs : List A) (x : A) → slice_get (xs ++ x ∷ []) (length xs) ≡ Some x
at_end [] x = refl
at_end (y ∷ ys) x = at_end ys x

pub last_pushed : {A : Type 0} (xs : List A) (x : A) → last_of (xs ++ x ∷ []) ≡ Some x
last_pushed xs x =
    let place : length (xs ++ x ∷ []) - 1 ≡ length xs = omega (arith, length-append xs (x ∷ [])) in
    ap (slice_get (xs ++ x ∷ [])) place ∙ at_end xs x

-- of the first so many of those that are left, one more is taken
pub took : {A : Type 0} (taken : List A) (x : A) (n k : ℕ) (left rest : List A) → k + 1 ≡ n → left ≡ x ∷ rest
    → (taken ++ x ∷ []) ++ take k rest ≡ taken ++ take n left
took taken x n k left rest one first =
    let more : suc k ≡ n = omega (arith, one) in
    append_assoc taken (x ∷ []) (take k rest) ∙ ap (λ m. taken ++ take m (x ∷ rest)) more ∙ ap (λ xs. taken ++ take n xs) (sym first)

not_lt : (r : Ordering) → not (is_lt r) ≡ is_le (ordering_reverse r)
not_lt Less = refl
not_lt Equal = refl
not_lt Greater = refl

not_le : (r : Ordering) → not (is_le r) ≡ is_lt (ordering_reverse r)
not_le Less = refl
not_le Equal = refl
not_le Greater = refl

-- a key that isn't below another has that one at most
not_below : (a b : Key) → not (is_lt (key_cmp a b)) ≡ is_le (key_cmp b a)
not_below a b = not_lt (key_cmp a b) ∙ ap is_le (sym (keys_total.antisymm b a))

above : (a b : Key) → not (is_le (key_cmp a b)) ≡ is_lt (key_cmp b a)
above a b = not_le (key_cmp a b) ∙ ap is_lt (sym (keys_total.antisymm b a))

neither : (a b : Bool) → (a ≡ true → b ≡ true → ⊥) → a && not a ≡ a && b
neither true true apart = absurd (apart refl refl)
neither true false apart = refl
neither false b apart = refl

turned : (r : Ordering) → is_le r ≡ false → ordering_reverse r ≡ Less
turned Less e = cc
turned Equal e = cc
turned Greater e = refl

forward : (r : Ordering) → is_le r ≡ true → is_gt r ≡ false
forward Less e = refl
forward Equal e = refl
forward Greater e = cc

pub at_most : (a b : Key) → is_le (key_cmp a b) ≡ true → is_gt (key_cmp a b) ≡ false
at_most a b e = forward (key_cmp a b) e

even : (r : Ordering) → r ≡ ordering_reverse r → is_gt r ≡ false
even Less e = refl
even Equal e = refl
even Greater e = cc

pub at_most_itself : (a : Key) → is_gt (key_cmp a a) ≡ false
at_most_itself a = even (key_cmp a a) (keys_total.antisymm a a)

greater_than : (r : Ordering) → r ≡ ordering_reverse Less → is_le r ≡ false
greater_than r e = ap is_le e

-- no key stands from one to another that is below it
none_between : (from to key : Key) → is_le (key_cmp from to) ≡ false → is_le (key_cmp from key) ≡ true → is_le (key_cmp key to) ≡ true → ⊥
none_between from to key back low high =
    let below : key_cmp to from ≡ Less = keys_total.antisymm to from ∙ turned (key_cmp from to) back in
    let less : key_cmp key from ≡ Less = le_lt_trans keys_total key to from high below in
    let no : is_le (key_cmp from key) ≡ false =
    greater_than (key_cmp from key) (keys_total.antisymm from key ∙ ap ordering_reverse less) in
    cc

module _ (es : List Entry) (m : Pairs) (is : finite.from_entries es ≡ m) (sorted : IsStrictlySortedBy key_cmp (keys_of es)) where
  filtered : (p : Entry → Bool) → filter p es ≡ filter p (finite.entries m)
  filtered p = ap (filter p) (kept_entries keys_total es m is es sorted refl)

  pub kept_at_most : (key : Key)
      → entries_between key_cmp Unbounded (Included key) es ≡ filter (λ (e : Entry). is_le (key_cmp e.0 key)) (finite.entries m)
  kept_at_most key = filter_agree _ _ (λ e. not_below key e.0) es ∙ filtered _

  pub kept_below : (key : Key)
      → entries_between key_cmp Unbounded (Excluded key) es ≡ filter (λ (e : Entry). is_lt (key_cmp e.0 key)) (finite.entries m)
  kept_below key = filter_agree _ _ (λ e. above key e.0) es ∙ filtered _

  pub kept_between : (from to : Key) → entries_between key_cmp (Included from) (Included to) es ≡ pairs_between m from to
  kept_between from to =
      filter_agree _ _ (λ e. ap (λ (b : Bool). is_le (key_cmp from e.0) && b) (not_below to e.0)) es ∙ filtered _

  pub kept_none : (from to : Key) → is_le (key_cmp from to) ≡ false
      → entries_between key_cmp (Included from) (Excluded from) es ≡ pairs_between m from to
  kept_none from to back = filter_agree _ _ (λ e. neither (is_le (key_cmp from e.0)) (is_le (key_cmp e.0 to))
      (none_between from to e.0 back)) es ∙ filtered _
