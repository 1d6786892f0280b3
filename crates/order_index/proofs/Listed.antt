-- The entries of a finite map as a list by rising key: what an edit at a key's place makes of the map.
use Rattle.std.proofs.Common.{Bor, Option, ◌≤◌, add-one, ◌≡◌, ℕ, ◌+◌, Bool, true, false, cond, [], ◌∷◌, ◌++◌, length, take, drop, set, Some, None, refl, sym, ap, subst, ◌∙◌}
use Rattle.std.specs.Prelude.{not, slice_get, nat_eq}
use lib.Dec.{T}
use Rattle.std.specs.declared.cmp.Ordering.TheVariants.{Equal}
use Rattle.std.specs.Ordering.{eq_by_cmp, is_eq}
use Rattle.std.specs.Option.{MatchOption, option_map, option_copied}
use Rattle.std.specs.Cmp.{alike_right, eq_by_cmp_equiv, tied_itself}
use Rattle.std.specs.Cmp.Lexicographic.{nat_list_cmp_total, pointwise, texts_ties, same_text}
use Rattle.std.specs.FinMap as finite
use Rattle.std.specs.FinMap.Entries.{find, where_key, is_sorted-where_key, find-where_key}
use Rattle.mont_base.specs.State.{Key, key_cmp}
use Rattle.index_kit.specs.Index.{Places, Entries}
use Rattle.counted_tree.specs.Order.{count_below}
use Rattle.order_index.specs.OrderIndex.{IsHeldAt, IsMissingAt}
use Rattle.order_index.proofs.Placed.{value_at, differs, found, put_held, put_missing, left_without, kept_without}

told : (b : Bool) → T b → b ≡ true
told true h = refl
told false h = absurd h

tells : (b : Bool) → b ≡ true → T b
tells b h = subst T (sym h) tt

turned : {X : Type 0} (b : Bool) (x y : X) → cond (not b) x y ≡ cond b y x
turned true x y = refl
turned false x y = refl

same_key : finite.IsAntisymmetric key_cmp
same_key = finite.slice_cmp-IsAntisymmetric finite.nat_cmp-IsAntisymmetric

-- ---- a map and its entries
pub listed : (m : Places) (es : Entries) → finite.is_sorted key_cmp es ≡ true → finite.from_sorted es ≡ m → finite.entries m ≡ es
listed m es s is = sym (ap finite.entries is) ∙ finite.entries-from_sorted key_cmp es (tells _ s)

pub rises : (m : Places) (es : Entries) → finite.entries m ≡ es → finite.is_sorted key_cmp es ≡ true
rises m es is = told _ (subst (λ (l : Entries). T (finite.is_sorted key_cmp l)) is (finite.entries_sorted m))

pub made_of : (m : Places) (es : Entries) → finite.entries m ≡ es → finite.from_sorted es ≡ m
made_of m es is = finite.same_entries_map _ _ (finite.entries-from_sorted key_cmp es (tells _ (rises m es is)) ∙ sym is)

-- no entries are the empty map
pub made_of_none : finite.from_sorted {R = key_cmp} [] ≡ finite.empty {X = ℕ}
made_of_none = finite.empty_of_len _ (finite.len-entries (finite.from_sorted {R = key_cmp} []) ∙ ap length
    (finite.entries-from_sorted key_cmp [] tt))

-- the entries without a key
entries_without : (m : Places) (key : Key)
    → finite.entries (finite.remove m key) ≡ where_key key_cmp (differs key_cmp key) (finite.entries m)
entries_without m key = sym (ap finite.entries same) ∙ finite.entries-from_sorted key_cmp left rise
  where
    left : Entries
    left = where_key key_cmp (differs key_cmp key) (finite.entries m)

    rise : T (finite.is_sorted key_cmp left)
    rise = is_sorted-where_key key_cmp (differs key_cmp key) (finite.entries m) (finite.entries_sorted m)

    alike : (q x : Key) → key_cmp q x ≡ Equal → differs key_cmp key x ≡ differs key_cmp key q
    alike q x t = ap (λ r. not (is_eq r)) (sym (alike_right nat_list_cmp_total q x key t))

    same : finite.from_sorted left ≡ finite.remove m key
    same = finite.same_map nat_list_cmp_total same_key _ _ (λ q. finite.get-from_sorted key_cmp left q rise
        ∙ find-where_key key_cmp (differs key_cmp key) q (alike q) (finite.entries m)
        ∙ turned (eq_by_cmp key_cmp key q) (find key_cmp q (finite.entries m)) None
        ∙ ap (λ (b : Bool). cond b None (find key_cmp q (finite.entries m))) ((eq_by_cmp_equiv nat_list_cmp_total).symm key q)
        ∙ ap (cond (eq_by_cmp key_cmp q key) None) (sym (finite.get-entries m q))
        ∙ sym (finite.get-remove nat_list_cmp_total m key q))

-- ---- where a search ends
module _ (es : Entries) (sorted : finite.is_sorted key_cmp es ≡ true) (key : Key) (at : ℕ) (behind : at ≡ count_below key_cmp key es) where
  pub held_at : (e : Key × ℕ) → slice_get es at ≡ Some e → true ≡ pointwise nat_eq e.0 key → IsHeldAt es key at
  held_at e is same = record {
    behind = behind;
    there = (e.1, is ∙ ap (λ (k : Key). Some (k, e.1)) (same_text e.0 key same));
  }

  found_there : finite.find key_cmp key es ≡ value_at key_cmp key (slice_get es at)
  found_there = found nat_list_cmp_total key es sorted ∙ sym (ap (λ n. value_at key_cmp key (slice_get es n)) behind)

  pub missing_at : at ≤ length es → (e : Key × ℕ) → slice_get es at ≡ Some e → false ≡ pointwise nat_eq e.0 key → IsMissingAt es key at
  missing_at within e is other =
      let apart : eq_by_cmp key_cmp key e.0 ≡ false =
      (eq_by_cmp_equiv nat_list_cmp_total).symm key e.0 ∙ sym (other ∙ texts_ties e.0 key) in
      record {
        behind = behind;
        within = within;
        none = found_there ∙ ap (value_at key_cmp key) is ∙ ap (λ (b : Bool). cond b (Some e.1) None) apart;
      }

  pub missing_past : at ≤ length es → slice_get es at ≡ None → IsMissingAt es key at
  missing_past within is = record { behind = behind; within = within; none = found_there ∙ ap (value_at key_cmp key) is }

-- what a look at a place gives, read
pub copied : (r : Option (Bor (Key × ℕ))) (s : Option (Key × ℕ)) → MatchOption r (s ≡ None) (λ x. s ≡ Some x.now) → option_copied r ≡ s
copied None s is = sym is
copied (Some x) s is = sym is

-- ---- what is at that place, and what an edit there makes
module _ (m : Places) (es : Entries) (is : finite.entries m ≡ es) (key : Key) (at : ℕ) where
  got : finite.get m key ≡ finite.find key_cmp key es
  got = finite.get-entries m key ∙ ap (finite.find key_cmp key) is

  held_own : (held : IsHeldAt es key at) → slice_get es (count_below key_cmp key es) ≡ Some (key, held.there.0)
  held_own held = sym (ap (slice_get es) held.behind) ∙ held.there.1

  pub got_held : IsHeldAt es key at → (e : Key × ℕ) → slice_get es at ≡ Some e → Some e.1 ≡ finite.get m key
  got_held held e there =
      ap (option_map (λ (x : Key × ℕ). x.1)) (sym there ∙ held.there.1)
      ∙ sym (got ∙ found nat_list_cmp_total key es (rises m es is) ∙ ap (value_at key_cmp key) (held_own held)
      ∙ ap (λ r. cond (is_eq r) (Some held.there.0) None) (tied_itself nat_list_cmp_total key))

  pub held_there : IsHeldAt es key at → slice_get es at ≡ None → ⊥
  held_there held none = let some = held.there.1 in cc

  pub got_none : IsMissingAt es key at → finite.get m key ≡ None
  got_none missing = got ∙ missing.none

  pub set_held : IsHeldAt es key at → (place : ℕ) → finite.entries (finite.insert m key place) ≡ set es at (key, place)
  set_held held place =
      finite.entries-insert nat_list_cmp_total m key place ∙ ap (finite.put key_cmp key place) is
      ∙ put_held nat_list_cmp_total key held.there.0 place es (rises m es is) (held_own held)
      ∙ sym (ap (λ n. set es n (key, place)) held.behind)

  pub put_in : IsMissingAt es key at → (place : ℕ) → finite.entries (finite.insert m key place) ≡ take at es ++ (key, place) ∷ drop at es
  put_in missing place =
      finite.entries-insert nat_list_cmp_total m key place ∙ ap (finite.put key_cmp key place) is
      ∙ put_missing nat_list_cmp_total key place es (rises m es is) missing.none
      ∙ sym (ap (λ n. take n es ++ (key, place) ∷ drop n es) missing.behind)

  pub taken_out : IsHeldAt es key at → finite.entries (finite.remove m key) ≡ take at es ++ drop (at + 1) es
  taken_out held =
      entries_without m key ∙ ap (where_key key_cmp (differs key_cmp key)) is
      ∙ left_without nat_list_cmp_total key held.there.0 es (rises m es is) (held_own held)
      ∙ sym (ap (λ n. take n es ++ drop (n + 1) es) held.behind ∙ ap (λ n. take (count_below key_cmp key es) es ++ drop n es) (add-one _))

  pub kept_missing : IsMissingAt es key at → finite.remove m key ≡ m
  kept_missing missing = finite.same_entries_map _ _ (entries_without m key ∙ ap (where_key key_cmp (differs key_cmp key)) is
      ∙ kept_without nat_list_cmp_total key es missing.none ∙ sym is)
