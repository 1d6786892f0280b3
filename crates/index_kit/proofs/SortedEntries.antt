-- A sorted index's entries and its finite map.
use Rattle.std.proofs.Common.{◌≡◌, ℕ, ◌-◌, ◌≤◌, true, length, get_or, set, [], Some, None, Result, Ok, Err, sym, ap, ◌∙◌, arith}
use Rattle.std.specs.Prelude.{MatchResult}
use Rattle.std.specs.Cmp.Lexicographic.{nat_list_cmp_total}
use Rattle.std.specs.List.{insert, remove}
use Rattle.std.specs.List.Sorted.{IsSearchInRange, IsBinarySearchResult}
use Rattle.std.specs.FinMap as finite
use Rattle.mont_base.specs.State.{Key, key_cmp}
use Rattle.index_kit.specs.Index.{Places, Entries, IndexView, CanPut}
use Rattle.index_kit.specs.SortedIndex.{IsAt, IsGap}
use Rattle.index_kit.proofs.Rising.{AreOf, searchable, put-gap, find-gap, put-at, find-at, remove-at, len-of, get-of, of_put, of_removal, remove-absent}

pub same_key : finite.IsAntisymmetric key_cmp
same_key = finite.slice_cmp-IsAntisymmetric finite.nat_cmp-IsAntisymmetric

-- a key that isn't there is not taken out
pub remove_absent : (m : Places) (key : Key) → finite.get m key ≡ None → finite.remove m key ≡ m
remove_absent m key none = remove-absent nat_list_cmp_total same_key m key none

-- a binary search ends at the key or at its gap
pub searched :
    (es : Entries) → finite.is_sorted key_cmp es ≡ true → (key : Key) (r : Result ℕ ℕ) → IsSearchInRange r (length es)
    → IsBinarySearchResult (λ (e : Key × ℕ). key_cmp e.0 key) es r → MatchResult r (IsAt es key) (IsGap es key)
searched es sorted key (Ok at) within equal = record { within = within; same = λ d. same_key (get_or es at d).0 key (equal d) }
searched es sorted key (Err at) within parted =
    let two = parted (searchable nat_list_cmp_total es sorted key) in
    record { within = within; below = λ i d h. two.0 i d (omega arith) h; above = λ i d h w. two.1 i d h w }

-- no entries are the empty map
pub none_kept : finite.from_sorted {R = key_cmp} [] ≡ finite.empty {X = ℕ}
none_kept = finite.empty_of_len _ (finite.len-entries (finite.from_sorted {R = key_cmp} []) ∙ ap length
    (finite.entries-from_sorted key_cmp [] tt))

-- what an index shows is the map of its entries
pub kept : (es : Entries) (n : ℕ) (v : IndexView) → finite.is_sorted key_cmp es ≡ true
    → record { places = finite.from_sorted es; spare = n } ≡ v → AreOf key_cmp v.places es
kept es n v sorted is = record { sorted = sorted; is = ap (λ (w : IndexView). w.places) is }

-- where there is no room for a new key, no key that isn't there may be put
pub no_room : (es : Entries) (capacity len : ℕ) (v : IndexView) (key : Key) → record {
  places = finite.from_sorted es;
  spare = capacity -
      len;
} ≡ v
    → CanPut v.places v.spare key → finite.get v.places key ≡ None → capacity ≤ len → ⊥
no_room es capacity len v key is can none full =
    let spare : capacity - len ≡ v.spare = ap (λ (w : IndexView). w.spare) is in
    let room : 1 ≤ v.spare = can none in
    omega arith

pub len_kept : (m : Places) (es : Entries) → AreOf key_cmp m es → length es ≡ finite.len m
len_kept m es h = len-of nat_list_cmp_total m es h

module _ (m : Places) (es : Entries) (h : AreOf key_cmp m es) (key : Key) (at : ℕ) where
  pub get_at : IsAt es key at → (d : Key × ℕ) → finite.get m key ≡ Some (get_or es at d).1
  get_at is d = sym (get-of nat_list_cmp_total m es h key) ∙ find-at nat_list_cmp_total key es h.sorted at d is.within is.same

  pub get_gap : IsGap es key at → finite.get m key ≡ None
  get_gap gap = sym (get-of nat_list_cmp_total m es h key) ∙ find-gap nat_list_cmp_total key es at gap.within gap.below gap.above

  pub set_at : IsAt es key at → (place : ℕ) → AreOf key_cmp (finite.insert m key place) (set es at (key, place))
  set_at is place = of_put nat_list_cmp_total m es h key place _ (put-at nat_list_cmp_total key place es h.sorted at is.within is.same)

  pub insert_gap : IsGap es key at → (place : ℕ) → AreOf key_cmp (finite.insert m key place) (insert es at (key, place))
  insert_gap gap place = of_put nat_list_cmp_total m es h key place _ (put-gap nat_list_cmp_total key place es at gap.within gap.below
      gap.above)

  pub remove_at : IsAt es key at → AreOf key_cmp (finite.remove m key) (remove es at)
  remove_at is = of_removal nat_list_cmp_total m es h same_key key _ (remove-at nat_list_cmp_total key es h.sorted at is.within is.same)

  pub remove_gap : IsGap es key at → finite.remove m key ≡ m
  remove_gap gap = remove_absent m key (get_gap gap)
