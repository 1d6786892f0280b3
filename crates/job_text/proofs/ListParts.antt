-- Lists of items as parts of a text: where each is what it must be at its place, where keys rise, and after their count.
use Rattle.std.proofs.Common.{◌≡◌, ℕ, ◌+◌, ◌-◌, ◌<◌, ◌≤◌, List, [], ◌∷◌, ◌++◌, length, map, refl, sym, ap, ◌∙◌, subst, arith}
use Rattle.std.specs.List.{enumerate_from}
use Rattle.job_text.specs.declared.report_refusal.ReportRefusal.{ReportRefusal}
use Rattle.job_text.specs.Operations.{IsNumber}
use Rattle.job_text.specs.TextParts.{Row, BothAre, both_rows, rows_from, AllFrom}
use Rattle.job_text.specs.Ranks.{limit_after, LeavesRoom, IsNext}
use Rattle.job_text.specs.Readings.{Unread, Reads, Refuses}
use Rattle.job_text.specs.ReportRows.{line_of_row, AllOf, AllRising}
use Rattle.job_text.proofs.Leaves.{IsOnce, all_push, all_last, all_front, some_full, full_once, both_once}
use Rattle.job_text.proofs.RisingKeys.{room_front, room_next, next_room, room_more, room_none}
use Rattle.job_text.proofs.ReadLines.{IsLinePart, line_once, reads_other, refuses_other, reads_both, refuses_first, refuses_second, reads_start, reads_item, refuses_item}

-- ---- lines of items
pub plain_rows : {X : Type 0} (f : X → Row) (k : ℕ) (xs : List X) → rows_from (λ (place : ℕ). line_of_row f) k xs ≡ map f xs
plain_rows f k [] = refl
plain_rows f k (x ∷ xs) = ap (λ (rs : List Row). f x ∷ rs) (plain_rows f (k + 1) xs)

pub placed_rows : {X : Type 0} (f : ℕ → X → Row) (k : ℕ) (xs : List X) → rows_from (λ (place : ℕ). line_of_row (f place)) k xs
    ≡ map (λ (p : ℕ × X). f p.0 p.1) (enumerate_from k xs)
placed_rows f k [] = refl
placed_rows f k (x ∷ xs) = ap (λ (rs : List Row). f k x ∷ rs) (placed_rows f (k + 1) xs)

-- ---- n items, each what it must be at its place
module _ {X : Type 0} (Is : ℕ → X → Type 0) (rows : ℕ → X → List Row) (once : (k : ℕ) → IsOnce (Is k) (rows k)) where
  pub each_start : (old : Unread) → Reads (AllFrom Is 0) (rows_from rows 0) old old []
  each_start old = reads_start rows (AllFrom Is 0) old tt

  pub each_item : (old mid new : Unread) (xs : List X) (k : ℕ) (x : X) → Reads (AllFrom Is 0) (rows_from rows 0) old mid xs
      → length xs ≡ k
      → Reads (Is k) (rows k) mid new x → Reads (AllFrom Is 0) (rows_from rows 0) old new (xs ++ x ∷ [])
  each_item old mid new xs k x before long next =
      let here : Reads (Is (length xs)) (rows (length xs)) mid new x = subst (λ (j : ℕ). Reads (Is j) (rows j) mid new x)
      (sym long) next in
      reads_item rows (AllFrom Is 0) old mid new xs x before
      (reads_other (Is (length xs)) (rows (length xs)) (λ (y : X). AllFrom Is 0 (xs ++ y ∷ [])) (rows (length xs)) mid new x x here
      (all_push Is xs x before.is here.is) refl)

  module _ (n : ℕ) (some : (k : ℕ) → k < n → (x : X) × Is k x) where
    each_more : (xs : List X) → AllFrom Is 0 xs → length xs < n → (x : X) × AllFrom Is 0 (xs ++ x ∷ [])
    each_more xs all low = let found = some (length xs) low in (found.0, all_push Is xs found.0 all found.1)

    pub each_refuses : (old mid : Unread) (xs : List X) (k : ℕ) (e : ReportRefusal) → Reads (AllFrom Is 0) (rows_from rows 0) old mid xs
        → length xs ≡ k → k < n → Refuses (Is k) (rows k) mid e → Refuses (AllOf Is n) (rows_from rows 0) old e
    each_refuses old mid xs k e before long low r =
        let here : Refuses (Is (length xs)) (rows (length xs)) mid e = subst (λ (j : ℕ). Refuses (Is j) (rows j) mid e) (sym long) r in
        refuses_item rows (AllFrom Is 0) Is once n (λ ys all. all) (λ us vs all. all_front Is 0 us vs all) each_more old mid xs e
        before (omega arith)
        (refuses_other (Is (length xs)) (rows (length xs)) (λ (y : X). AllFrom Is 0 (xs ++ y ∷ [])) (rows (length xs))
        (λ x is. (x, all_push Is xs x before.is is, refl)) (λ x all. (x, all_last Is xs x all, refl)) mid e here)

    pub each_some : (xs : List X) × AllOf Is n xs
    each_some = some_full Is rows once n (AllFrom Is 0) (λ ys all. all) (λ us vs all. all_front Is 0 us vs all) each_more tt

    pub each_once : IsOnce (AllOf Is n) (rows_from rows 0)
    each_once = full_once Is rows once n (AllFrom Is 0) (λ ys all. all) (λ us vs all. all_front Is 0 us vs all) each_more

-- all of them were read
pub all_read : {X : Type 0} (Is : List X → Type 0) (rows : List X → List Row) (n : ℕ) (old new : Unread) (xs : List X)
    → Reads Is rows old new xs
    → length xs ≡ n → Reads (λ (ys : List X). Is ys × (length ys ≡ n)) rows old new xs
all_read Is rows n old new xs r long =
    reads_other Is rows (λ ys. Is ys × (length ys ≡ n)) rows old new xs xs r (r.is, long) refl

-- ---- n items with rising keys
module _ {X : Type 0} (Is : X → Type 0) (row : X → Row) (once : (x y : X) → Is x → Is y → row x ≡ row y → x ≡ y) (behind : X
    → ℕ) (all n : ℕ) where
  abbrev pub Rises : List X → Type 0
  Rises xs = LeavesRoom (λ (place : ℕ). Is) behind all n xs

  abbrev pub rising_rows : List X → List Row
  rising_rows xs = rows_from (λ (place : ℕ). line_of_row row) 0 xs

  pub rising_item : (old mid new : Unread) (xs : List X) (limit left : ℕ) (x : X) → Reads Rises rising_rows old mid xs
      → limit_after behind all xs ≡ limit → n - (length xs + 1) ≡ left → Reads (IsNext Is behind limit left) (line_of_row row) mid new x
      → Reads Rises rising_rows old new (xs ++ x ∷ [])
  rising_item old mid new xs limit left x before at count next =
      let is : IsNext Is behind (limit_after behind all xs) (n - (length xs + 1)) x =
      subst (λ (m : ℕ). IsNext Is behind m (n - (length xs + 1)) x) (sym at)
      (subst (λ (m : ℕ). IsNext Is behind limit m x) (sym count) next.is) in
      reads_item (λ (place : ℕ). line_of_row row) Rises old mid new xs x before
      (reads_other (IsNext Is behind limit left) (line_of_row row) (λ (y : X). Rises (xs ++ y ∷ [])) (line_of_row row) mid new x x next
      (room_next behind Is all n xs x before.is is) refl)

  pub rising_start : n ≤ all → (old : Unread) → Reads Rises rising_rows old old []
  rising_start few old = reads_start (λ (place : ℕ). line_of_row row) Rises old (room_none behind Is all n few)

  module _ (each : (m : ℕ) → m < all → (x : X) × Is x × (behind x ≡ m)) where
    line_items_once : (k : ℕ) → IsOnce Is (line_of_row row)
    line_items_once k x y a b is are e = once x y is are (let same : row x ∷ a ≡ row y ∷ b = e in cc)

    pub rising_refuses : (old mid : Unread) (xs : List X) (limit left : ℕ) (e : ReportRefusal) → Reads Rises rising_rows old mid xs
        → limit_after behind all xs ≡ limit → n - (length xs + 1) ≡ left → length xs < n
        → Refuses (IsNext Is behind limit left) (line_of_row row) mid e → Refuses (AllRising Is behind all n) rising_rows old e
    rising_refuses old mid xs limit left e before at count low r =
        let here : Refuses (IsNext Is behind (limit_after behind all xs) (n - (length xs + 1))) (line_of_row row) mid e =
        subst (λ (m : ℕ). Refuses (IsNext Is behind m (n - (length xs + 1))) (line_of_row row) mid e) (sym at)
        (subst (λ (m : ℕ). Refuses (IsNext Is behind limit m) (line_of_row row) mid e) (sym count) r) in
        refuses_item (λ (place : ℕ). line_of_row row) Rises (λ (place : ℕ). Is) line_items_once n (λ ys h. h.each)
        (λ us vs h. room_front behind Is all n us vs h) (λ ys h few. room_more behind Is all n each ys h few) old mid xs e before low
        (refuses_other (IsNext Is behind (limit_after behind all xs) (n - (length xs + 1))) (line_of_row row) (λ (y : X). Rises
        (xs ++ y ∷ []))
        (line_of_row row) (λ x is. (x, room_next behind Is all n xs x before.is is, refl))
        (λ x h. (x, next_room behind Is all n xs x h, refl)) mid e here)

    pub rising_some : n ≤ all → (xs : List X) × AllRising Is behind all n xs
    rising_some few = some_full (λ (place : ℕ). Is) (λ (place : ℕ). line_of_row row) line_items_once n Rises (λ ys h. h.each)
        (λ us vs h. room_front behind Is all n us vs h) (λ ys h low. room_more behind Is all n each ys h low)
        (room_none behind Is all n few)

    pub rising_once : IsOnce (AllRising Is behind all n) rising_rows
    rising_once = full_once (λ (place : ℕ). Is) (λ (place : ℕ). line_of_row row) line_items_once n Rises (λ ys h. h.each)
        (λ us vs h. room_front behind Is all n us vs h) (λ ys h low. room_more behind Is all n each ys h low)

-- ---- a value after a line with its size
module _ {Y : Type 0} (head : ℕ → Row) (part : IsLinePart IsNumber head) (Js : ℕ → Y → Type 0) (rows : Y → List Row) (size : Y → ℕ)
    (sized : (n : ℕ) (y : Y) → Js n y → size y ≡ n) (Is : Y → Type 0) (lines : Y → List Row)
    (to : (y : Y) → IsNumber (size y) → Js (size y) y → Is y) (back : (y : Y) → Is y → IsNumber (size y) × Js (size y) y)
    (same : (y : Y) → lines y ≡ head (size y) ∷ rows y) where
  Both : ℕ × Y → Type 0
  Both = BothAre IsNumber Js

  joined : ℕ × Y → List Row
  joined = both_rows (line_of_row head) (λ (n : ℕ). rows)

  value_of : (p : ℕ × Y) → Both p → (y : Y) × Is y × (lines y ≡ joined p)
  unfolding Both joined
  value_of p is =
      let long = sized p.0 p.1 is.1 in (
        p.1,
        to p.1 (subst IsNumber (sym long) is.0) (subst (λ (n : ℕ). Js n p.1) (sym long) is.1),
        same p.1 ∙ ap (λ (n : ℕ). head n ∷ rows p.1) long,
      )

  pair_of : (y : Y) → Is y → (p : ℕ × Y) × Both p × (joined p ≡ lines y)
  unfolding Both joined
  pair_of y is = let t = back y is in ((size y, y), (t.0, t.1), sym (same y))

  pub sized_reads : (old mid new : Unread) (n : ℕ) (y : Y) → Reads IsNumber (line_of_row head) old mid n → Reads (Js n) rows mid new y
      → Reads Is lines old new y
  unfolding Both joined value_of
  sized_reads old mid new n y first second =
      let both = reads_both IsNumber (line_of_row head) Js (λ (m : ℕ). rows) old mid new n y first second in
      let value = value_of (n, y) both.is in
      reads_other Both joined Is lines old new (n, y) y both value.1 value.2

  pub sized_refuses_head : ((n : ℕ) → IsNumber n → (y : Y) × Js n y) → (old : Unread) (e : ReportRefusal)
      → Refuses IsNumber (line_of_row head) old e → Refuses Is lines old e
  unfolding Both joined
  sized_refuses_head some old e r =
      refuses_other Both joined Is lines value_of pair_of old e
      (refuses_first IsNumber (line_of_row head) Js (λ (m : ℕ). rows) some old e r)

  pub sized_refuses_rest : (old mid : Unread) (n : ℕ) (e : ReportRefusal) → Reads IsNumber (line_of_row head) old mid n
      → Refuses (Js n) rows mid e → Refuses Is lines old e
  unfolding Both joined
  sized_refuses_rest old mid n e first r =
      refuses_other Both joined Is lines value_of pair_of old e
      (refuses_second IsNumber (line_of_row head) Js (λ (m : ℕ). rows) (line_once IsNumber head part) old mid n e first r)

  pub sized_some : ((n : ℕ) → IsNumber n → (y : Y) × Js n y) → (y : Y) × Is y
  unfolding Both joined
  sized_some some =
      let y = some part.value part.is in
      let value = value_of (part.value, y.0) (part.is, y.1) in
      (value.0, value.1)

  pub sized_once : ((n : ℕ) → IsNumber n → IsOnce (Js n) rows) → IsOnce Is lines
  unfolding Both joined pair_of
  sized_once once x y a b is are e =
      let p = pair_of x is in
      let q = pair_of y are in
      let both : joined p.0 ++ a ≡ joined q.0 ++ b =
      ap (λ (rs : List Row). rs ++ a) p.2 ∙ e ∙ ap (λ (rs : List Row). rs ++ b) (sym q.2) in
      let alike = both_once IsNumber (line_of_row head) Js (λ (m : ℕ). rows)
      (line_once IsNumber head part) once p.0 q.0 a b p.1 q.1 both in
      ap (λ (t : ℕ × Y). t.1) alike
