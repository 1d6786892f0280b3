-- The pairs of a range, one after the other from its first place on.
use Rattle.std.proofs.Common.{◌≡◌, ℕ, zero, suc, ◌+◌, ◌-◌, ◌<◌, List, [], ◌∷◌, ◌++◌, length, take, drop, min, refl, sym, ap, ◌∙◌, arith}
use Rattle.std.specs.Prelude.{Some, None, slice_get}
use Rattle.std.proofs.lemmas.List.{take_min}
use Rattle.std.specs.Cmp.Lexicographic.{nat_list_cmp_total}
use Rattle.std.specs.FinMap as finite
use Rattle.std.specs.Ordering.{is_lt}
use Rattle.mont_base.specs.State.{Key, Value, Pairs, Run, key_cmp}
use Rattle.mont_laws.specs.Structures.{HasPairs}
use Rattle.index_kit.specs.Index.{Places}
use Rattle.counted_tree.specs.Order.{count_below}
use Rattle.order_index.specs.declared.stretch.Stretch.{Stretch}
use Rattle.order_index.specs.KeyRanges.{between, IsStretch}
use Rattle.order_index.proofs.Prefixes.{between_there}
use Rattle.slots.specs.Books.{RegionShown}
use Rattle.shard_map.specs.MapShard.{IsMapUnit}
use Rattle.pordered.specs.OrderedRuns.{HasRun, HasPairAt}
use Rattle.pordered.proofs.KeysAlike.{long_alike, filter_alike}
use Rattle.pordered.proofs.OrderedKeys.{rising, same_keys, range_long}

module _ {A : Type 0} where
  of_drop : (a : ℕ) (xs : List A) (i : ℕ) → slice_get (drop a xs) i ≡ slice_get xs (a + i)
  of_drop zero xs i = let e : 0 + i ≡ i = omega arith in ap (slice_get xs) (sym e)
  of_drop (suc a) [] i = let e : suc a + i ≡ suc (a + i) = omega arith in ap (slice_get []) (sym e)
  of_drop (suc a) (x ∷ xs) i = let e : suc a + i ≡ suc (a + i) = omega arith in of_drop a xs i ∙ ap (slice_get (x ∷ xs)) (sym e)

  of_take : (n : ℕ) (xs : List A) (i : ℕ) → i < n → slice_get (take n xs) i ≡ slice_get xs i
  of_take zero xs i l = absurd (omega arith)
  of_take (suc n) [] i l = refl
  of_take (suc n) (x ∷ xs) zero l = refl
  of_take (suc n) (x ∷ xs) (suc i) l = of_take n xs i (omega arith)

  took : (i : ℕ) (xs : List A) (x : A) → Some x ≡ slice_get xs i → take (suc i) xs ≡ take i xs ++ x ∷ []
  took i [] x is = cc
  took zero (y ∷ xs) x is = let same : y ≡ x = cc in ap (λ (z : A). z ∷ []) same
  took (suc i) (y ∷ xs) x is = ap (λ (ys : List A). y ∷ ys) (took i xs x is)

-- the first pairs of a range, so many
abbrev pub HasFirst : RegionShown → Key → Key → ℕ → Run → Type 0
HasFirst r from to many run = (pairs : Pairs)
    → HasPairs r.books.layout r.books.unit r.seat.known.part.records pairs
    → run ≡ take many (between from to (finite.entries pairs))

pub first_none : (r : RegionShown) (from to : Key) (many : ℕ) (run : Run) → many ≡ 0 → run ≡ [] → HasFirst r from to many run
first_none r from to many run none is pairs shown = is ∙ ap (λ n. take n (between from to (finite.entries pairs))) (sym none)

module _ (r : RegionShown) (places : Places) (unit : IsMapUnit r places) (running : r.books.halted ≡ None) (from to : Key) (s : Stretch)
    (is : IsStretch from to (finite.entries places) s) where
  module _ (pairs : Pairs) (shown : HasPairs r.books.layout r.books.unit r.seat.known.part.records pairs) where
    first_is : s.first ≡ count_below key_cmp from (finite.entries pairs)
    first_is = is.first ∙ long_alike _ _ (filter_alike (finite.entries places) (finite.entries pairs)
        (same_keys r places unit running pairs shown) (λ k. is_lt (key_cmp k from)))

    behind_is : s.behind ≡ s.first + length (between from to (finite.entries pairs))
    behind_is = is.behind ∙ ap (λ n. s.first + n) (range_long r places unit running pairs shown from to)

    range_there : between from to (finite.entries pairs) ≡ drop s.first (take s.behind (finite.entries pairs))
    range_there = between_there nat_list_cmp_total from to (finite.entries pairs) (rising pairs)
        ∙ sym (λ i. drop (first_is i) (take ((behind_is ∙ ap (λ n. n + length (between from to (finite.entries pairs))) first_is) i)
        (finite.entries pairs)))

    at_range : (number : ℕ) → number < s.behind - s.first
        → slice_get (finite.entries pairs) (s.first + number) ≡ slice_get (between from to (finite.entries pairs)) number
    at_range number low = sym (ap (λ (l : Run). slice_get l number) range_there
        ∙ of_drop s.first (take s.behind (finite.entries pairs)) number
        ∙ of_take s.behind (finite.entries pairs) (s.first + number) (omega (arith, low)))

  -- the pair after so many of the range comes next
  pub next_pair : (number : ℕ) (run next : Run) (pair : Key × Value) → number < s.behind - s.first
      → HasPairAt r (s.first + number) (Some pair) → HasFirst r from to number run → next ≡ run ++ pair ∷ []
      → HasFirst r from to (number + 1) next
  next_pair number run next pair low at before is pairs shown =
      let e : suc number ≡ number + 1 = omega arith in
      is ∙ ap (λ (l : Run). l ++ pair ∷ []) (before pairs shown)
      ∙ sym (took number (between from to (finite.entries pairs)) pair (at pairs shown ∙ at_range pairs shown number low))
      ∙ ap (λ n. take n (between from to (finite.entries pairs))) e

  -- which is there
  pub no_gap : (number : ℕ) → number < s.behind - s.first → HasPairAt r (s.first + number) None → (pairs : Pairs)
      → HasPairs r.books.layout r.books.unit r.seat.known.part.records pairs → ⊥
  no_gap number low none pairs shown =
      let behind = behind_is pairs shown in
      some (between from to (finite.entries pairs)) number (omega (arith, low, behind))
      (none pairs shown ∙ at_range pairs shown number low)
    where
      some : (xs : Run) (i : ℕ) → i < length xs → None ≡ slice_get xs i → ⊥
      some [] i l e = absurd (omega arith)
      some (x ∷ xs) zero l e = cc
      some (x ∷ xs) (suc i) l e = some xs i (omega arith) e

  -- the walk ends after the last, or after as many as are asked for
  pub all_pairs : (most many : ℕ) (run : Run) → many ≡ min (s.behind - s.first) most → HasFirst r from to many run
      → HasRun r from to most run
  all_pairs most many run is before pairs shown =
      let behind = behind_is pairs shown in
      let number : many ≡ min most (length (between from to (finite.entries pairs))) = omega (arith, is, behind) in
      before pairs shown ∙ ap (λ n. take n (between from to (finite.entries pairs))) number
      ∙ take_min most (between from to (finite.entries pairs))
