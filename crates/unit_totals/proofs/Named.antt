-- What is summed over receipts that name each entry once: each entry is counted as often as it is named.
use Rattle.std.proofs.Common.{◌≡◌, ℕ, zero, suc, ◌+◌, ◌*◌, ◌<◌, Bool, true, false, cond, List, [], ◌∷◌, Some, refl, sym, ap, ◌∙◌, arith}
use Rattle.std.specs.Prelude.{◌&&◌, ◌==◌, All, sum_by, count_by, slice_get}
use Rattle.std.specs.List.{flat_map}
use Rattle.std.proofs.lemmas.List.Elements.{All-head, All-tail, All-nil, All-cons, All-append}
use Rattle.std.proofs.lemmas.List.Sums.{sum_by-append, sum_by-cons}
use Rattle.std.proofs.lemmas.Bool.{eq-eqb, ne_eqb}
use Rattle.mont_base.specs.declared.operation.Entry.{Entry}
use Rattle.mont_base.specs.declared.operation.Receipt.{Receipt}
use Rattle.mont_base.specs.Seen.{IsEntryAt, names_place}
use Rattle.unit_totals.specs.Naming.{EachOnceSumsUp, CallersNameEachOnce}

-- a sum over the entries of a history, and over all histories, each with its unit and place
abbrev Counted : Type 0
Counted = ℕ → ℕ → Entry → ℕ

abbrev row_sum : Counted → ℕ → ℕ → List Entry → ℕ
row_sum k u p [] = 0
row_sum k u p (m ∷ ms) = k u p m + row_sum k u (suc p) ms

abbrev all_sum : Counted → ℕ → List (List Entry) → ℕ
all_sum k u [] = 0
all_sum k u (h ∷ hs) = row_sum k u 0 h + all_sum k (suc u) hs

-- ---- what is summed at one place alone
module _ (g : Entry → ℕ) (unit place : ℕ) where
  point : Counted
  point u p m = cond ((unit == u) && (place == p)) (g m) 0

  point_other : (u p : ℕ) (m : Entry) → (unit == u) ≡ false → point u p m ≡ 0
  unfolding point
  point_other u p m e = rw e refl

  point_past : (u p : ℕ) (m : Entry) → (place == p) ≡ false → point u p m ≡ 0
  unfolding point
  point_past u p m e = rw e (elim (unit == u) as (λ b. cond (b && false) (g m) 0 ≡ 0) [ true ↦ refl | false ↦ refl ])

  point_here : (u p : ℕ) (m : Entry) → (unit == u) ≡ true → (place == p) ≡ true → point u p m ≡ g m
  unfolding point
  point_here u p m e f = rw e (rw f refl)

  row_other : (u p : ℕ) (h : List Entry) → (unit == u) ≡ false → row_sum point u p h ≡ 0
  row_other u p [] e = refl
  row_other u p (m ∷ ms) e = omega (arith, point_other u p m e, row_other u (suc p) ms e)

  row_past : (u p : ℕ) (h : List Entry) → place < p → row_sum point u p h ≡ 0
  row_past u p [] l = refl
  row_past u p (m ∷ ms) l = omega (arith, point_past u p m (ne_eqb place p (omega arith)), row_past u (suc p) ms (omega arith))

  row_here : (u p n : ℕ) (h : List Entry) (m : Entry) → unit ≡ u → place ≡ p + n → slice_get h n ≡ Some m → row_sum point u p h ≡ g m
  row_here u p n [] m same at is = cc
  row_here u p zero (y ∷ ms) m same at is =
      let here = point_here u p y (eq-eqb unit u same) (eq-eqb place p (omega arith)) in
      let rest = row_past u (suc p) ms (omega arith) in
      let it : y ≡ m = cc in
      omega (arith, here, rest, ap g it)
  row_here u p (suc n) (y ∷ ms) m same at is =
      let none = point_past u p y (ne_eqb place p (omega arith)) in
      omega (arith, none, row_here u (suc p) n ms m same (omega arith) is)

  all_past : (u : ℕ) (hs : List (List Entry)) → unit < u → all_sum point u hs ≡ 0
  all_past u [] l = refl
  all_past u (h ∷ hs) l = omega (arith, row_other u 0 h (ne_eqb unit u (omega arith)), all_past (suc u) hs (omega arith))

  all_here : (u n : ℕ) (hs : List (List Entry)) (h : List Entry) (m : Entry) → unit ≡ u + n → slice_get hs n ≡ Some h
      → slice_get h place ≡ Some m → all_sum point u hs ≡ g m
  all_here u n [] h m at row is = cc
  all_here u zero (y ∷ hs) h m at row is =
      let same : y ≡ h = cc in
      let e = row_here u 0 place y m (omega arith) (omega arith) (ap (λ (l : List Entry). slice_get l place) same ∙ is) in
      omega (arith, e, all_past (suc u) hs (omega arith))
  all_here u (suc n) (y ∷ hs) h m at row is =
      omega (arith, row_other u 0 y (ne_eqb unit u (omega arith)), all_here (suc u) n hs h m (omega arith) row is)

-- ---- sums of sums
module _ (a b k : Counted) (e : (u p : ℕ) (m : Entry) → k u p m ≡ a u p m + b u p m) where
  row_add : (u p : ℕ) (h : List Entry) → row_sum k u p h ≡ row_sum a u p h + row_sum b u p h
  row_add u p [] = refl
  row_add u p (m ∷ ms) = omega (arith, e u p m, row_add u (suc p) ms)

  all_add : (u : ℕ) (hs : List (List Entry)) → all_sum k u hs ≡ all_sum a u hs + all_sum b u hs
  all_add u [] = refl
  all_add u (h ∷ hs) = omega (arith, row_add u 0 h, all_add (suc u) hs)

module _ (k : Counted) (e : (u p : ℕ) (m : Entry) → k u p m ≡ 0) where
  row_nothing : (u p : ℕ) (h : List Entry) → row_sum k u p h ≡ 0
  row_nothing u p [] = refl
  row_nothing u p (m ∷ ms) = omega (arith, e u p m, row_nothing u (suc p) ms)

  all_nothing : (u : ℕ) (hs : List (List Entry)) → all_sum k u hs ≡ 0
  all_nothing u [] = refl
  all_nothing u (h ∷ hs) = omega (arith, row_nothing u 0 h, all_nothing (suc u) hs)

-- ---- each entry, as often as receipts name it
module _ (g : Entry → ℕ) where
  counted : List Receipt → Counted
  counted rs u p m = count_by (names_place u p) rs * g m

  none_named : (u p : ℕ) (m : Entry) → counted [] u p m ≡ 0
  unfolding counted
  none_named u p m = omega arith

  step_by : (b : Bool) (n c x : ℕ) → n ≡ cond b 1 0 + c → n * x ≡ cond b x 0 + c * x
  step_by true n c x e = rw e (omega arith)
  step_by false n c x e = rw e (omega arith)

  count_step : (r : Receipt) (rs : List Receipt) (u p : ℕ) (m : Entry)
      → counted (r ∷ rs) u p m ≡ point g r.unit r.place u p m + counted rs u p m
  unfolding counted point
  count_step r rs u p m =
      let c = sum_by-cons (λ (s : Receipt). cond (names_place u p s) 1 0) r rs in
      step_by ((r.unit == u) && (r.place == p)) _ _ (g m) c

  abbrev Stands : List (List Entry) → Receipt → Type 0
  Stands hs r = IsEntryAt hs r.unit r.place r.entry

  by_receipts : (hs : List (List Entry)) (rs : List Receipt) → All (Stands hs) rs
      → sum_by (λ (r : Receipt). g r.entry) rs ≡ all_sum (counted rs) 0 hs
  by_receipts hs [] a = sym (all_nothing (counted []) none_named 0 hs)
  by_receipts hs (r ∷ rs) a =
      let at : Stands hs r = All-head (Stands hs) r rs a in
      let here = all_here g r.unit r.place 0 r.unit hs at.0 r.entry (omega arith) at.1 at.2 in
      let split = all_add (point g r.unit r.place) (counted rs) (counted (r ∷ rs)) (count_step r rs) 0 hs in
      let rest = by_receipts hs rs (All-tail (Stands hs) r rs a) in
      omega (arith, here, split, rest, sum_by-cons (λ (r : Receipt). g r.entry) r rs)

  once_each : (rs : List Receipt) (u p : ℕ) (m : Entry) → count_by (names_place u p) rs ≡ 1 → counted rs u p m ≡ g m
  unfolding counted
  once_each rs u p m e = rw e (omega arith)

  row_ones : (rs : List Receipt) (u p : ℕ) (h : List Entry)
      → ((n : ℕ) (m : Entry) → slice_get h n ≡ Some m → count_by (names_place u (p + n)) rs ≡ 1)
      → row_sum (counted rs) u p h ≡ sum_by g h
  row_ones rs u p [] one = refl
  row_ones rs u p (m ∷ ms) one =
      let p0 : p ≡ p + 0 = omega arith in
      let here = once_each rs u p m (ap (λ n. count_by (names_place u n) rs) p0 ∙ one 0 m refl) in
      let rest = row_ones rs u (suc p) ms (λ n y is.
      let e : suc p + n ≡ p + suc n = omega arith in ap (λ k. count_by (names_place u k) rs) e ∙ one (suc n) y is) in
      omega (arith, here, rest, sum_by-cons g m ms)

  all_ones : (rs : List Receipt) (u : ℕ) (hs : List (List Entry))
      → ((n place : ℕ) (h : List Entry) (m : Entry) → slice_get hs n ≡ Some h → slice_get h place ≡ Some m
      → count_by (names_place (u + n) place) rs ≡ 1)
      → all_sum (counted rs) u hs ≡ sum_by (λ (h : List Entry). sum_by g h) hs
  all_ones rs u [] one = refl
  all_ones rs u (h ∷ hs) one =
      let u0 : u ≡ u + 0 = omega arith in
      let here = row_ones rs u 0 h (λ n m is.
      let e : 0 + n ≡ n = omega arith in
      ap (λ k. count_by (names_place u k) rs) e ∙ ap (λ k. count_by (names_place k n) rs) u0 ∙ one 0 n h m refl is) in
      let rest = all_ones rs (suc u) hs (λ n place y m row is.
      let e : suc u + n ≡ u + suc n = omega arith in
      ap (λ k. count_by (names_place k place) rs) e ∙ one (suc n) place y m row is) in
      omega (arith, here, rest, sum_by-cons (λ (h : List Entry). sum_by g h) h hs)

pub each_once : EachOnceSumsUp
each_once g hs rs named = by_receipts g hs rs named.there ∙ all_ones g rs 0 hs (λ n place h m row is.
    let e : 0 + n ≡ n = omega arith in ap (λ k. count_by (names_place k place) rs) e ∙ named.once n place m (h, row, is))

-- ---- the receipts of all callers in one list
all_at : {A : Type 0} (P : A → Type 0) (row : List A) → ((n : ℕ) (a : A) → slice_get row n ≡ Some a → P a) → All P row
all_at P [] each = All-nil P
all_at P (a ∷ row) each = All-cons P a row (each 0 a refl) (all_at P row (λ n b is. each (suc n) b is))

all_in_rows : {A : Type 0} (P : A → Type 0) (rows : List (List A))
    → ((k n : ℕ) (row : List A) (a : A) → slice_get rows k ≡ Some row → slice_get row n ≡ Some a → P a)
    → All P (flat_map (λ (row : List A). row) rows)
all_in_rows P [] each = All-nil P
all_in_rows P (row ∷ rows) each =
    All-append P row (flat_map (λ (row : List _). row) rows) (all_at P row (λ n a is. each 0 n row a refl is))
    (all_in_rows P rows (λ k n r a at is. each (suc k) n r a at is))

count_rows : {A : Type 0} (p : A → Bool) (rows : List (List A))
    → count_by p (flat_map (λ (row : List A). row) rows) ≡ sum_by (λ (row : List A). count_by p row) rows
count_rows p [] = refl
count_rows p (row ∷ rows) =
    let c = sum_by-append (λ a. cond (p a) 1 0) row (flat_map (λ (r : List _). r) rows) in
    let d = sum_by-cons (λ (r : List _). count_by p r) row rows in
    omega (arith, c, d, count_rows p rows)

pub callers_name : CallersNameEachOnce
callers_name histories rows views order = record {
  there = all_in_rows (λ (r : Receipt). IsEntryAt histories r.unit r.place r.entry) rows
      (λ k n row r at is. (order.receipt k n row r at is).there);
  once = λ unit place e is. count_rows (names_place unit place) rows ∙ order.named_once unit place e is;
}
