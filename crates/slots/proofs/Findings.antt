-- What marks and rows tell of slots, and which records' serials are left.
use Rattle.std.proofs.Common.{◌≡◌, ℕ, ◌-◌, ◌*◌, ◌≤◌, List, [], ◌∷◌, ◌++◌, map, append-nil, append_assoc, sym, refl, ap, ◌∙◌, arith, Bool, true, false, cond, inl, inr}
use Rattle.std.specs.Prelude.{◌==◌, ◌&&◌, ◌||◌, not, filter, Option, Some, is_none, unwrap_or, slice_index, if◌then◌else◌}
use Rattle.std.specs.List.{Contains}
use Rattle.std.proofs.lemmas.Bool.{eq-eqb, ne_eqb}
use Rattle.std.proofs.lemmas.Bool.Decides.{nat_tests}
use Rattle.mont_base.specs.declared.record.Held.{Held}
use Rattle.mont_base.specs.Image.{slots_of}
use Rattle.mont_base.specs.Layout.{Shape, unit_of_slot}
use Rattle.mont_base.specs.Versions.{is_live, object_of}
use Rattle.mont_laws.specs.declared.retiring.Retired.{Retired}
use Rattle.mont_laws.specs.Records.{AreApart}
use Rattle.mont_laws.specs.Retiring.{Retires, IsIn}
use Rattle.mont_laws.proofs.Members.{first_element, later_element}
use Rattle.mont_laws.proofs.UnitSlots.{unit_of_member}
use Rattle.mont_laws.proofs.Unretired.{live_left}
use Rattle.slots.specs.RegionBeginning.{is_among, is_closed, free_at_first, serial_of}
use Rattle.slots.specs.Books.{slots_in, record_in, row_in, rows_of}
use Rattle.slots.specs.Finding.{marked, mark_at, is_unused, serials_left}
use Rattle.slots.proofs.RowFacts.{range_row, range_set, place_of_slot, row_of_slot}

-- ---- marks
among_push : (ys : List ℕ) (y x : ℕ) → is_among (ys ++ y ∷ []) x ≡ (is_among ys x || y == x)
among_push [] y x = by (y == x)
  where
    by : (t : Bool) → (t || false) ≡ (false || t)
    by true = refl
    by false = refl
among_push (z ∷ ys) y x = by (z == x) (among_push ys y x)
  where
    by : (t : Bool) → is_among (ys ++ y ∷ []) x ≡ (is_among ys x || y == x)
        → (t || is_among (ys ++ y ∷ []) x) ≡ ((t || is_among ys x) || y == x)
    by true e = refl
    by false e = e

module _ (s : Shape) (u : ℕ) (some : 1 ≤ s.slots) where
  -- the marks of slots, one after the other
  pub marks_are : (slots before : List ℕ) → ((y : ℕ) → Contains slots y → unit_of_slot s y ≡ u)
      → marked (u * s.slots) (map (is_among before) (slots_of s u)) slots ≡ map (is_among (before ++ slots)) (slots_of s u)
  marks_are [] before own = ap (λ (l : List ℕ). map (is_among l) (slots_of s u)) (sym (append-nil before))
  marks_are (y ∷ slots) before own =
      let range = place_of_slot s u y some (own y (first_element y slots)) in
      let here : is_among (before ++ y ∷ []) y ≡ true = among_push before y y ∙ either (is_among before y) (eq-eqb y y refl) in
      ap (λ (marks : List Bool). marked (u * s.slots) marks slots)
      (range_set (is_among before) (is_among (before ++ y ∷ [])) (u * s.slots) s.slots (y - u * s.slots) y true range.1
      (omega (arith, range.0)) here (λ x ne. sym (among_push before y x ∙ neither (is_among before x) (ne_eqb y x (λ e. ne (sym e))))))
      ∙ marks_are slots (before ++ y ∷ []) (λ z c. own z (later_element y slots z c))
      ∙ ap (λ (l : List ℕ). map (is_among l) (slots_of s u)) (append_assoc before (y ∷ []) slots)
    where
      either : (a : Bool) {b : Bool} → b ≡ true → (a || b) ≡ true
      either true e = refl
      either false e = e

      neither : (a : Bool) {b : Bool} → b ≡ false → (a || b) ≡ a
      neither true e = refl
      neither false e = e

  pub mark_is : (slots : List ℕ) (x : ℕ) → unit_of_slot s x ≡ u
      → mark_at (u * s.slots) (map (is_among slots) (slots_of s u)) x ≡ is_among slots x
  mark_is slots x own =
      let range = place_of_slot s u x some own in
      ap (λ (o : Option Bool). unwrap_or o false)
      (range_row (is_among slots) (u * s.slots) s.slots (x - u * s.slots) x range.1 (omega (arith, range.0)))

  -- ---- free slots
  none_in : (recs : List Held) (x : ℕ) → is_none (record_in recs x) ≡ not (is_among (slots_in recs) x)
  none_in [] x = refl
  none_in (r ∷ recs) x = by (r.slot == x) (none_in recs x)
    where
      by : (t : Bool) → is_none (record_in recs x) ≡ not (is_among (slots_in recs) x)
          → is_none (if t then Some r else record_in recs x) ≡ not (t || is_among (slots_in recs) x)
      by true e = refl
      by false e = e

  unused_is : (recs : List Held) (lost : List ℕ) (x : ℕ) → unit_of_slot s x ≡ u
      → is_unused (u * s.slots) (rows_of s u recs) (map (is_among lost) (slots_of s u)) x ≡ is_closed recs lost x
  unused_is recs lost x own =
      (λ i. is_none (row_in (row_of_slot s u x some own recs i)) && not (mark_is lost x own i))
      ∙ ap (λ (b : Bool). b && not (is_among lost x)) (none_in recs x) ∙ by (is_among (slots_in recs) x) (is_among lost x)
    where
      by : (a b : Bool) → (not a && not b) ≡ not (a || b)
      by true b = refl
      by false b = refl

  filter_same : (p q : ℕ → Bool) (xs : List ℕ) → ((x : ℕ) → Contains xs x → p x ≡ q x) → filter p xs ≡ filter q xs
  filter_same p q [] same = refl
  filter_same p q (x ∷ xs) same =
      λ i. cond (same x (first_element x xs) i) (x ∷ filter_same p q xs (λ y c. same y (later_element x xs y c)) i)
      (filter_same p q xs (λ y c. same y (later_element x xs y c)) i)

  pub unused_free : (recs : List Held) (lost : List ℕ)
      → filter (is_unused (u * s.slots) (rows_of s u recs) (map (is_among lost) (slots_of s u))) (slots_of s u)
      ≡ free_at_first s u recs lost
  unused_free recs lost = filter_same (is_unused (u * s.slots) (rows_of s u recs) (map (is_among lost) (slots_of s u)))
      (is_closed recs lost) (slots_of s u) (λ x c. unused_is recs lost x (unit_of_member s u x some c))

  -- ---- serials
  among_in : (x : ℕ) (ts : List Retired) → is_among (map (λ (t : Retired). t.slot) ts) x ≡ true → IsIn x ts
  among_in x [] e = absurd (cc)
  among_in x (t ∷ ts) e = by (t.slot == x) refl e (λ g. among_in x ts g)
    where
      by : (b : Bool) → (t.slot == x) ≡ b → (b || is_among (map (λ (v : Retired). v.slot) ts) x) ≡ true
          → (is_among (map (λ (v : Retired). v.slot) ts) x ≡ true → IsIn x ts) → IsIn x (t ∷ ts)
      by true f g ih = inl (grind (arith, nat_tests))
      by false f g ih = inr (ih g)

  in_among : (x : ℕ) (ts : List Retired) → IsIn x ts → is_among (map (λ (t : Retired). t.slot) ts) x ≡ true
  in_among x [] h = absurd h
  in_among x (t ∷ ts) (inl e) = ap (λ (b : Bool). b || is_among (map (λ (v : Retired). v.slot) ts) x) (eq-eqb t.slot x (sym e))
  in_among x (t ∷ ts) (inr k) = by (t.slot == x) (in_among x ts k)
    where
      by : (b : Bool) → is_among (map (λ (v : Retired). v.slot) ts) x ≡ true → (b || is_among (map (λ (v : Retired). v.slot) ts) x) ≡ true
      by true e = refl
      by false e = e

  module _ (recs : List Held) (ts : List Retired) (apart : AreApart recs) (h : Retires recs ts) where
    waits : (r : Held) → Contains recs r → is_among (map (λ (t : Retired). t.slot) ts) r.slot ≡ not (is_live recs r)
    waits r c = by (is_among (map (λ (t : Retired). t.slot) ts) r.slot) (is_live recs r) refl refl
      where
        by : (a b : Bool) → is_among (map (λ (t : Retired). t.slot) ts) r.slot ≡ a → is_live recs r ≡ b → a ≡ not b
        by true false e f = refl
        by false true e f = refl
        by true true e f = absurd ((live_left recs ts r apart h c).0 f (among_in r.slot ts e))
        by false false e f =
            let live = (live_left recs ts r apart h c).1 (λ k. let g = in_among r.slot ts k in absurd (cc)) in absurd (cc)

    pub serials_are : (rs : List Held) → ((r : Held) → Contains rs r → Contains recs r × (unit_of_slot s r.slot ≡ u))
        → serials_left (u * s.slots) (map (is_among (map (λ (t : Retired). t.slot) ts)) (slots_of s u)) rs
        ≡ map serial_of (map object_of (filter (is_live recs) rs))
    serials_are [] each = refl
    serials_are (r ∷ rs) each =
        let one = each r (first_element r rs) in
        let mark = mark_is (map (λ (t : Retired). t.slot) ts) r.slot one.1 ∙ waits r one.0 in
        by (is_live recs r) mark (serials_are rs (λ q c. each q (later_element r rs q c)))
      where
        by : (b : Bool) → mark_at (u * s.slots) (map (is_among (map (λ (t : Retired). t.slot) ts)) (slots_of s u)) r.slot ≡ not b
            → serials_left (u * s.slots) (map (is_among (map (λ (t : Retired). t.slot) ts)) (slots_of s u)) rs
            ≡ map serial_of (map object_of (filter (is_live recs) rs))
            → (if mark_at (u * s.slots) (map (is_among (map (λ (t : Retired). t.slot) ts)) (slots_of s u)) r.slot
            then serials_left (u * s.slots) (map (is_among (map (λ (t : Retired). t.slot) ts)) (slots_of s u)) rs
            else slice_index r.body 0 ∷ serials_left (u * s.slots) (map (is_among (map (λ (t : Retired). t.slot) ts)) (slots_of s u)) rs)
            ≡ map serial_of (map object_of (cond b (r ∷ filter (is_live recs) rs) (filter (is_live recs) rs)))
        by true e ih =
            ap (λ (t : Bool). if t
            then serials_left (u * s.slots) (map (is_among (map (λ (t : Retired). t.slot) ts)) (slots_of s u)) rs
            else slice_index r.body 0 ∷ serials_left (u * s.slots) (map (is_among (map (λ (t : Retired). t.slot) ts)) (slots_of s u)) rs) e
            ∙ ap (λ (l : List ℕ). slice_index r.body 0 ∷ l) ih
        by false e ih =
            ap (λ (t : Bool). if t
            then serials_left (u * s.slots) (map (is_among (map (λ (t : Retired). t.slot) ts)) (slots_of s u)) rs
            else slice_index r.body 0 ∷ serials_left (u * s.slots) (map (is_among (map (λ (t : Retired). t.slot) ts)) (slots_of s u)) rs) e
            ∙ ih
