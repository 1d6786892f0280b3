-- What the numbers of keys that stand before others tell of floors and ranges.
use Rattle.std.proofs.Common.{◌≡◌, ℕ, ◌+◌, ◌-◌, ◌≤◌, refl, length, take, drop, max, None, sym, ap, ◌∙◌, arith}
use Rattle.std.specs.FinMap as finite
use Rattle.std.specs.Prelude.{slice_get}
use Rattle.std.specs.Cmp.Lexicographic.{nat_list_cmp_total}
use Rattle.mont_base.specs.State.{Key, key_cmp, last_of}
use Rattle.index_kit.specs.Index.{Places, Entries}
use Rattle.counted_tree.specs.Order.{count_below, count_up_to}
use Rattle.order_index.specs.declared.stretch.Stretch.{Stretch}
use Rattle.order_index.specs.KeyRanges.{up_to, between, IsStretch}
use Rattle.order_index.proofs.Listed.{rises}
use Rattle.order_index.proofs.Prefixes.{up_to_first, between_middle, between_there, last_first, middle_length}

module _ (m : Places) (es : Entries) (is : finite.entries m ≡ es) where
  -- ---- of n keys up to one
  module _ (key : Key) (n : ℕ) (counted : n ≡ count_up_to key_cmp key es) where
    first : up_to key (finite.entries m) ≡ take n es
    first = ap (up_to key) is ∙ up_to_first nat_list_cmp_total key es (rises m es is) ∙ sym (ap (λ k. take k es) counted)

    pub floor_none : n ≡ 0 → None ≡ last_of (up_to key (finite.entries m))
    floor_none none = sym (ap last_of first ∙ ap (λ k. last_of (take k es)) none)

    pub floor_last : n ≤ length es → 1 ≤ n → slice_get es (n - 1) ≡ last_of (up_to key (finite.entries m))
    floor_last within some = sym (ap last_of first ∙ last_first n es some within)

  -- ---- of a keys below one and b keys up to another
  module _ (from to : Key) (a b : ℕ) (below : a ≡ count_below key_cmp from es) (up : b ≡ count_up_to key_cmp to es)
      (within : b ≤ length es) where
    number : length (between from to (finite.entries m)) ≡ b - a
    number = ap length (ap (between from to) is ∙ between_middle nat_list_cmp_total from to es (rises m es is)
        ∙ sym (λ i. drop (below i) (take (up i) es))) ∙ middle_length a b es within

    pub stretched : (places : Stretch) → places.first ≡ a → places.behind ≡ max b a → IsStretch from to (finite.entries m) places
    stretched places f e =
        let first = f ∙ below ∙ ap (count_below key_cmp from) (sym is) in
        let behind : places.behind ≡ places.first + length (between from to (finite.entries m)) = omega (arith, e, f, number) in
        record {
          first = first;
          behind = behind;
          there = between_there nat_list_cmp_total from to (finite.entries m) (rises m (finite.entries m) refl)
              ∙ sym (λ i. drop (first i)
              (take ((behind ∙ ap (λ n. n + length (between from to (finite.entries m))) first) i) (finite.entries m)));
        }
