-- Records by their slots: what becomes of the rows when a record is dropped or added.
use Rattle.std.proofs.Common.{◌≡◌, ℕ, zero, suc, ◌+◌, ◌-◌, ◌*◌, ◌<◌, ◌≤◌, List, [], ◌∷◌, ◌++◌, length, map, set, replicate, sym, refl, ap, ◌∙◌, subst, arith, Bool, true, false, cond, inl, inr}
use Rattle.std.specs.Prelude.{◌≢◌, ◌==◌, not, Option, Some, None, slice_get}
use Rattle.std.specs.List.{Contains, range_with_len}
use Rattle.std.proofs.lemmas.Bool.{eq-eqb, ne_eqb}
use Rattle.std.proofs.lemmas.Bool.Decides.{nat_tests}
use Rattle.std.proofs.lemmas.Option.{slice_get_within}
use Rattle.mont_base.specs.declared.record.Held.{Held}
use Rattle.mont_base.specs.Layout.{Shape, unit_of_slot}
use Rattle.mont_laws.specs.Records.{without_slot}
use Rattle.mont_laws.proofs.Members.{no_element, first_element, element_cases}
use Rattle.mont_laws.proofs.Mapped.{range_bounds, in_range}
use Rattle.mont_laws.proofs.UnitSlots.{member_of_unit, unit_of_member}
use Rattle.slots.specs.Books.{BooksShown, times, slots_in, record_in, rows_of, row_in, row_at}
use Rattle.slots.proofs.Times.{times_here, times_else, times_more, record_times}

-- ---- one slot
pub find_here : (x : ℕ) (r : Held) (rs : List Held) → r.slot ≡ x → record_in (r ∷ rs) x ≡ Some r
find_here x r rs e = ap (λ (b : Bool). cond b (Some r) (record_in rs x)) (eq-eqb r.slot x e)

pub find_else : (x : ℕ) (r : Held) (rs : List Held) → r.slot ≢ x → record_in (r ∷ rs) x ≡ record_in rs x
find_else x r rs ne = ap (λ (b : Bool). cond b (Some r) (record_in rs x)) (ne_eqb r.slot x ne)

-- in a slot that no record has there is none
pub find_none : (x : ℕ) (rs : List Held) → times x (slots_in rs) ≡ 0 → record_in rs x ≡ None
find_none x [] e = refl
find_none x (r ∷ rs) e =
    let other : r.slot ≢ x = λ f.
    let one : 1 ≤ times x (slots_in (r ∷ rs)) =
    subst (λ (n : ℕ). 1 ≤ times n (slots_in (r ∷ rs))) f (record_times (r ∷ rs) r (first_element r rs)) in
    absurd (omega arith) in
    find_else x r rs other ∙ find_none x rs (sym (times_else x r.slot (slots_in rs) other) ∙ e)

-- a record is the one in its slot, where no other has it
pub find_there : (rs : List Held) (r : Held) → Contains rs r → times r.slot (slots_in rs) ≤ 1 → record_in rs r.slot ≡ Some r
find_there [] r c once = absurd (no_element r c)
find_there (q ∷ rs) r c once = elim (element_cases q rs r c) [
  | inl e ↦ let here : record_in (q ∷ rs) r.slot ≡ Some q = find_here r.slot q rs (ap (λ (z : Held). z.slot) (sym e)) in
      here ∙ ap Some (sym e)
  | inr k ↦
      let one = record_times rs r k in
      let other : q.slot ≢ r.slot = λ f.
      let two : times r.slot (slots_in (q ∷ rs)) ≡ 1 + times r.slot (slots_in rs) =
      subst (λ (n : ℕ). times r.slot (n ∷ slots_in rs) ≡ 1 + times r.slot (slots_in rs)) (sym f) (times_here r.slot (slots_in rs)) in
      absurd (omega arith) in
      let more = times_more r.slot q.slot (slots_in rs) in
      find_else r.slot q rs other ∙ find_there rs r k (omega arith)
]

-- ---- a record dropped
module _ (slot : ℕ) where
  pub find_without : (x : ℕ) (rs : List Held) → x ≢ slot → record_in (without_slot slot rs) x ≡ record_in rs x
  find_without x [] ne = refl
  find_without x (r ∷ rs) ne = by (r.slot == slot) refl (find_without x rs ne)
    where
      by : (t : Bool) → (r.slot == slot) ≡ t → record_in (without_slot slot rs) x ≡ record_in rs x
          → record_in (cond (not t) (r ∷ without_slot slot rs) (without_slot slot rs)) x ≡ record_in (r ∷ rs) x
      by true e ih =
          let same : r.slot ≡ slot = grind (arith, nat_tests) in
          ih ∙ sym (find_else x r rs (λ f. ne (sym f ∙ same)))
      by false e ih = ap (λ (o : Option Held). cond (r.slot == x) (Some r) o) ih

  pub find_closed : (rs : List Held) → record_in (without_slot slot rs) slot ≡ None
  find_closed [] = refl
  find_closed (r ∷ rs) = by (r.slot == slot) refl (find_closed rs)
    where
      by : (t : Bool) → (r.slot == slot) ≡ t → record_in (without_slot slot rs) slot ≡ None
          → record_in (cond (not t) (r ∷ without_slot slot rs) (without_slot slot rs)) slot ≡ None
      by true e ih = ih
      by false e ih = find_else slot r (without_slot slot rs) (λ f. absurd (grind (arith, nat_tests))) ∙ ih

-- ---- a record added
pub find_push : (x : ℕ) (rs : List Held) (w : Held) → w.slot ≢ x → record_in (rs ++ w ∷ []) x ≡ record_in rs x
find_push x [] w ne = find_else x w [] ne
find_push x (r ∷ rs) w ne = ap (λ (o : Option Held). cond (r.slot == x) (Some r) o) (find_push x rs w ne)

pub find_pushed : (rs : List Held) (w : Held) → record_in rs w.slot ≡ None → record_in (rs ++ w ∷ []) w.slot ≡ Some w
find_pushed [] w e = find_here w.slot w [] refl
find_pushed (r ∷ rs) w e = by (r.slot == w.slot) e (find_pushed rs w)
  where
    by : (t : Bool) → cond t (Some r) (record_in rs w.slot) ≡ None → (record_in rs w.slot ≡ None → record_in (rs ++ w ∷ []) w.slot ≡ Some w)
        → cond t (Some r) (record_in (rs ++ w ∷ []) w.slot) ≡ Some w
    by true f ih = absurd (cc)
    by false f ih = ih f

-- ---- rows
module _ {A : Type 0} where
  -- what a function gives over a range, at a place, and with one value changed
  pub range_row : (f : ℕ → A) (a n k x : ℕ) → k < n → a + k ≡ x → slice_get (map f (range_with_len a n)) k ≡ Some (f x)
  range_row f a zero k x low is = absurd (omega arith)
  range_row f a (suc n) zero x low is = let same : a ≡ x = omega arith in ap (λ (y : ℕ). Some (f y)) same
  range_row f a (suc n) (suc k) x low is = range_row f (a + 1) n k x (omega arith) (omega arith)

  range_same : (f g : ℕ → A) (a n : ℕ) → ((y : ℕ) → a ≤ y → f y ≡ g y) → map f (range_with_len a n) ≡ map g (range_with_len a n)
  range_same f g a zero same = refl
  range_same f g a (suc n) same = λ i. same a (omega arith) i ∷ range_same f g (a + 1) n (λ y low. same y (omega arith)) i

  pub range_set : (f g : ℕ → A) (a n k x : ℕ) (v : A) → k < n → a + k ≡ x → g x ≡ v → ((y : ℕ) → y ≢ x → f y ≡ g y)
      → set (map f (range_with_len a n)) k v ≡ map g (range_with_len a n)
  range_set f g a zero k x v low is here other = absurd (omega arith)
  range_set f g a (suc n) zero x v low is here other =
      let same : a ≡ x = omega arith in
      let first : v ≡ g a = sym here ∙ ap g (sym same) in
      λ i. first i ∷ range_same f g (a + 1) n (λ y far. other y (λ e. absurd (omega arith))) i
  range_set f g a (suc n) (suc k) x v low is here other =
      λ i. other a (λ e. absurd (omega arith)) i ∷ range_set f g (a + 1) n k x v (omega arith) (omega arith) here other i

  -- the same value everywhere
  pub range_copies : (a n : ℕ) (v : A) → replicate n v ≡ map (λ (y : ℕ). v) (range_with_len a n)
  range_copies a zero v = refl
  range_copies a (suc n) v = ap (λ (l : List A). v ∷ l) (range_copies (a + 1) n v)

-- a slot of the unit is in its range
pub place_of_slot : (s : Shape) (u slot : ℕ) → 1 ≤ s.slots → unit_of_slot s slot ≡ u
    → (u * s.slots ≤ slot) × (slot - u * s.slots < s.slots)
place_of_slot s u slot some is =
    let r = range_bounds slot (u * s.slots) s.slots (member_of_unit s u slot some is) in (r.0, omega (arith, r.0, r.1))

module _ (s : Shape) (u slot : ℕ) (some : 1 ≤ s.slots) (is : unit_of_slot s slot ≡ u) where
  inside : (u * s.slots ≤ slot) × (slot - u * s.slots < s.slots)
  inside = place_of_slot s u slot some is

  pub row_of_slot : (rs : List Held) → slice_get (rows_of s u rs) (slot - u * s.slots) ≡ Some (record_in rs slot)
  row_of_slot rs = range_row (record_in rs) (u * s.slots) s.slots (slot - u * s.slots) slot inside.1 (omega (arith, inside.0))

  -- the row of a slot changed, and no other
  pub rows_changed : (rs qs : List Held) (v : Option Held) → record_in qs slot ≡ v
      → ((x : ℕ) → x ≢ slot → record_in rs x ≡ record_in qs x)
      → set (rows_of s u rs) (slot - u * s.slots) v ≡ rows_of s u qs
  rows_changed rs qs v here other = range_set (record_in rs) (record_in qs) (u * s.slots) s.slots (slot - u * s.slots) slot v inside.1
      (omega (arith, inside.0)) here other

  pub rows_without : (rs : List Held) → set (rows_of s u rs) (slot - u * s.slots) None ≡ rows_of s u (without_slot slot rs)
  rows_without rs = rows_changed rs (without_slot slot rs) None (find_closed slot rs) (λ x ne. sym (find_without slot x rs ne))

pub rows_push : (s : Shape) (u : ℕ) (w : Held) (rs : List Held) → 1 ≤ s.slots → unit_of_slot s w.slot ≡ u → record_in rs w.slot ≡ None
    → set (rows_of s u rs) (w.slot - u * s.slots) (Some w) ≡ rows_of s u (rs ++ w ∷ [])
rows_push s u w rs some is none = rows_changed s u w.slot some is rs (rs ++ w ∷ []) (Some w) (find_pushed rs w none)
    (λ x ne. sym (find_push x rs w (λ e. ne (sym e))))

-- ---- the row of a slot, by its place after the unit's first one
pub row_found : (b v : BooksShown) → b ≡ v → 1 ≤ b.layout.slots → length b.rows ≡ b.layout.slots → (slot place : ℕ) (row : Option Held)
    → b.unit * b.layout.slots ≤ slot → place ≡ slot - b.unit * b.layout.slots → slice_get b.rows place ≡ Some row → row ≡ row_at v slot
row_found b v is some long slot place row low at found =
    let short : place < length b.rows = slice_get_within b.rows place row found in
    let own : unit_of_slot b.layout slot ≡ b.unit =
    unit_of_member b.layout b.unit slot some (in_range slot (b.unit * b.layout.slots) b.layout.slots low (omega arith)) in
    sym (ap (λ (t : Bool). cond t (row_in (slice_get b.rows (slot - b.unit * b.layout.slots))) None)
    (eq-eqb (unit_of_slot b.layout slot) b.unit own)
    ∙ ap row_in (ap (slice_get b.rows) (sym at) ∙ found))
    ∙ ap (λ (x : BooksShown). row_at x slot) is
