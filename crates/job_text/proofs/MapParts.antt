-- Maps, and vertices and edges of graphs, as they are read: each key after the last one.
use Rattle.std.proofs.Common.{◌≡◌, ℕ, ◌+◌, ◌-◌, ◌<◌, ◌≤◌, T, Option, List, [], ◌∷◌, ◌++◌, length, refl, sym, ap, ◌∙◌, subst, arith}
use Rattle.std.specs.declared.cmp.Ordering.{Ordering}
use Rattle.std.specs.Cmp.{IsTotalOrder}
use Rattle.std.specs.FinMap.{FinMap, entries, entries-insert, entries_sorted, from_sorted, entries-from_sorted, insert, is_sorted, empty, len, len-entries, len-empty}
use Rattle.job_text.specs.declared.report_refusal.ReportRefusal.{ReportRefusal}
use Rattle.job_text.specs.TextParts.{Row, AllFrom}
use Rattle.job_text.specs.Ranks.{limit_after, LeavesRoom, IsNext}
use Rattle.job_text.specs.Readings.{Unread, Reads, Refuses}
use Rattle.job_text.specs.ReportRows.{line_of_row, AllRising, RowsOf, behind_last}
use Rattle.job_text.proofs.Ranked.{IsRank}
use Rattle.job_text.proofs.RisingKeys.{entries_fall, falls_are_sorted, put_last, limit_append}
use Rattle.job_text.proofs.ReadLines.{reads_other, refuses_other}
use Rattle.job_text.proofs.ListParts.{rising_item, rising_refuses, rising_start, all_read}

all_weaker : {X : Type 0} (Is Js : X → Type 0) → ((x : X) → Is x → Js x) → (k : ℕ) (xs : List X) → AllFrom (λ (place : ℕ). Is) k xs
    → AllFrom (λ (place : ℕ). Js) k xs
all_weaker Is Js weaker k [] all = tt
all_weaker Is Js weaker k (x ∷ xs) all = (weaker x all.0, all_weaker Is Js weaker (k + 1) xs all.1)

module _ {K V : Type 0} (R : K → K → Ordering) (IsKey : K → Type 0) (behind : K → ℕ) (all : ℕ) (rank : IsRank R IsKey behind all)
    (order : IsTotalOrder R) (Is : K × V → Type 0) (key : (e : K × V) → Is e → IsKey e.0) (row : K × V → Row)
    (once : (x y : K × V) → Is x → Is y → row x ≡ row y → x ≡ y) (each : (m : ℕ) → m < all
    → (e : K × V) × Is e × (behind e.0 ≡ m)) where
  abbrev pub of_entry : K × V → ℕ
  of_entry e = behind e.0

  keys : (xs : List (K × V)) → AllFrom (λ (place : ℕ). Is) 0 xs → AllFrom (λ (i : ℕ) (e : K × V). IsKey e.0) 0 xs
  keys xs all_are = all_weaker Is (λ e. IsKey e.0) key 0 xs all_are

  -- a list of entries with rising keys is that of a map
  pub map_of : (n : ℕ) (xs : List (K × V)) → AllRising Is of_entry all n xs
      → (m : FinMap R V) × AllRising Is of_entry all n (entries m) × (RowsOf row (entries m) ≡ RowsOf row xs)
  map_of n xs is =
      let sorted : T (is_sorted R xs) = falls_are_sorted R IsKey behind all rank 0 all xs (keys xs is.0.each) is.0.falls in
      let same : entries (from_sorted {R = R} xs) ≡ xs = entries-from_sorted R xs sorted in
      (from_sorted {R = R} xs, subst (AllRising Is of_entry all n) (sym same) is, ap (RowsOf row) same)

  -- the entries of a map rise
  pub map_rises : (m : FinMap R V) → AllFrom (λ (place : ℕ). Is) 0 (entries m)
      → AllRising Is of_entry all (length (entries m)) (entries m)
  map_rises m are = (
    record {
      each = are;
      falls = entries_fall R IsKey behind all rank (entries m) (keys (entries m) are) (entries_sorted m);
      room = omega arith;
    },
    refl,
  )

  module _ (n : ℕ) (few : n ≤ all) where
    abbrev pub SoFar : Unread → Unread → List (K × V) → Type 0
    SoFar old new xs = Reads (λ ys. LeavesRoom (λ (place : ℕ). Is) of_entry all n ys) (RowsOf row) old new xs

    pub map_start : (old : Unread) → SoFar old old []
    map_start old = rising_start Is row once of_entry all n few old

    -- the next entry goes last
    pub map_item : (old mid new : Unread) (m : FinMap R V) (last : Option K) (k : K) (v : V) (left : ℕ) → SoFar old mid (entries m)
        → limit_after of_entry all (entries m) ≡ behind_last behind all last → n - (length (entries m) + 1) ≡ left
        → Reads (IsNext Is of_entry (behind_last behind all last) left) (line_of_row row) mid new (k, v)
        → (entries (insert m k v) ≡ entries m ++ (k, v) ∷ []) × SoFar old new (entries (insert m k v))
        × (limit_after of_entry all (entries (insert m k v)) ≡ behind k) × IsKey k
    map_item old mid new m last k v left before at count next =
        let is : IsKey k = key (k, v) next.is.is in
        let low : behind k < limit_after of_entry all (entries m) = (let below = next.is.below in omega (arith, at)) in
        let pushed : entries (insert m k v) ≡ entries m ++ (k, v) ∷ [] =
        entries-insert order m k v ∙ put_last R IsKey behind all rank 0 all k v (entries m) is (keys
        (entries m) before.is.each) before.is.falls low in
        let read : SoFar old new (entries m ++ (k, v) ∷ []) =
        rising_item Is row once of_entry all n old mid new (entries m) (behind_last behind all last) left (k, v) before at count next in
        let limit : limit_after of_entry all (entries m ++ (k, v) ∷ [])
        ≡ behind k = limit_append of_entry all (entries m) ((k, v) ∷ []) in
        (pushed, subst (SoFar old new) (sym pushed) read, ap (limit_after of_entry all) pushed ∙ limit, is)

    -- there is room for the next one
    pub map_room : (old mid : Unread) (xs : List (K × V)) (last : Option K) (place : ℕ) → SoFar old mid xs
        → limit_after of_entry all xs ≡ behind_last behind all last → length xs ≡ place → place < n
        → n - place - 1 < behind_last behind all last
    map_room old mid xs last place before at long low = let room = before.is.room in omega arith

    pub list_refuses : (old mid : Unread) (xs : List (K × V)) (last : Option K) (left : ℕ) (e : ReportRefusal) → SoFar old mid xs
        → limit_after of_entry all xs ≡ behind_last behind all last → n - (length xs + 1) ≡ left → length xs < n
        → Refuses (IsNext Is of_entry (behind_last behind all last) left) (line_of_row row) mid e
        → Refuses (AllRising Is of_entry all n) (RowsOf row) old e
    list_refuses old mid xs last left e before at count low r =
        rising_refuses Is row once of_entry all n each old mid xs (behind_last behind all last) left e before at count low r

    pub list_read : (old new : Unread) (xs : List (K × V)) → SoFar old new xs → length xs ≡ n
        → Reads (AllRising Is of_entry all n) (RowsOf row) old new xs
    list_read old new xs before long = all_read (λ ys. LeavesRoom (λ (place : ℕ). Is) of_entry all n ys)
        (RowsOf row) n old new xs before long

    pub map_refuses : (old : Unread) (e : ReportRefusal) → Refuses (AllRising Is of_entry all n) (RowsOf row) old e
        → Refuses (λ (m : FinMap R V). AllRising Is of_entry all n (entries m)) (λ (m : FinMap R V). RowsOf row (entries m)) old e
    map_refuses old e r =
        refuses_other (AllRising Is of_entry all n) (RowsOf row) (λ (m : FinMap R V). AllRising Is of_entry all n (entries m))
        (λ (m : FinMap R V). RowsOf row (entries m)) (map_of n) (λ m is. (entries m, is, refl)) old e r

    pub map_read : (old new : Unread) (m : FinMap R V) → Reads (AllRising Is of_entry all n) (RowsOf row) old new (entries m)
        → Reads (λ (m : FinMap R V). AllRising Is of_entry all n (entries m)) (λ (m : FinMap R V). RowsOf row (entries m)) old new m
    map_read old new m r =
        reads_other (AllRising Is of_entry all n) (RowsOf row) (λ (m : FinMap R V). AllRising Is of_entry all n (entries m))
        (λ (m : FinMap R V). RowsOf row (entries m)) old new (entries m) m r r.is refl

-- nothing is in an empty map
pub entries_none : {K V : Type 0} {R : K → K → Ordering} (m : FinMap R V) → m ≡ empty → entries m ≡ []
entries_none {V = V} {R = R} m is = no_items (entries m) (sym (len-entries m) ∙ ap len is ∙ len-empty R V)
  where
    no_items : {A : Type 0} (xs : List A) → length xs ≡ 0 → xs ≡ []
    no_items [] e = refl
    no_items (x ∷ xs) e = absurd (omega arith)
