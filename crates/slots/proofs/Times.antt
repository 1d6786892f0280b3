-- How often a slot stands in lists.
use Rattle.std.proofs.Common.{◌≡◌, ℕ, zero, suc, ◌+◌, ◌<◌, ◌≤◌, List, [], ◌∷◌, ◌++◌, length, sym, refl, ap, ◌∙◌, subst, zero-add, arith, Bool, true, false, cond, inl, inr, ◌⊎◌}
use Rattle.std.specs.Prelude.{◌≢◌, ◌==◌, not, AllPairs, if◌then◌else◌}
use Rattle.std.specs.List.{Contains, range_with_len}
use Rattle.std.proofs.lemmas.Bool.{eq-eqb, ne_eqb}
use Rattle.std.proofs.lemmas.Bool.Decides.{nat_tests}
use Rattle.std.proofs.lemmas.List.Kept.{AllPairs-cons}
use Rattle.std.proofs.lemmas.List.Sums.{sum_by-append, sum_by-cons}
use Rattle.mont_base.specs.declared.record.Held.{Held}
use Rattle.mont_laws.specs.Records.{without_slot}
use Rattle.mont_laws.proofs.Members.{no_element, first_element, later_element, element_cases, all_elements}
use Rattle.slots.specs.Books.{times, slots_in}

-- ---- lists of slots
pub times_cons : (x y : ℕ) (ys : List ℕ) → times x (y ∷ ys) ≡ (if y == x then 1 else 0) + times x ys
times_cons x y ys = sum_by-cons (λ (s : ℕ). if s == x then 1 else 0) y ys

pub times_append : (x : ℕ) (ys zs : List ℕ) → times x (ys ++ zs) ≡ times x ys + times x zs
times_append x ys zs = sum_by-append (λ (s : ℕ). if s == x then 1 else 0) ys zs

-- the slot itself, and another one
pub times_here : (x : ℕ) (ys : List ℕ) → times x (x ∷ ys) ≡ 1 + times x ys
times_here x ys = times_cons x x ys ∙ ap (λ (b : Bool). (if b then 1 else 0) + times x ys) (eq-eqb x x refl)

pub times_else : (x y : ℕ) (ys : List ℕ) → y ≢ x → times x (y ∷ ys) ≡ times x ys
times_else x y ys ne =
    let off : (if y == x then 1 else 0) ≡ 0 = ap (λ (b : Bool). if b then 1 else 0) (ne_eqb y x ne) in
    times_cons x y ys ∙ (λ i. off i + times x ys) ∙ zero-add (times x ys)

-- at most once more than in the rest
pub times_more : (x y : ℕ) (ys : List ℕ) → times x ys ≤ times x (y ∷ ys)
times_more x y ys = let e = times_cons x y ys in omega (arith, e)

pub times_there : (x : ℕ) (ys : List ℕ) → Contains ys x → 1 ≤ times x ys
times_there x [] c = absurd (no_element x c)
times_there x (y ∷ ys) c = elim (element_cases y ys x c) [
  | inl e ↦ let h : times x (y ∷ ys) ≡ 1 + times x ys = subst (λ (z : ℕ). times x (z ∷ ys) ≡ 1 + times x ys) e (times_here x ys) in
      omega arith
  | inr k ↦ let more = times_there x ys k in let t = times_more x y ys in omega arith
]

-- ---- slots of records
pub slot_there : (rs : List Held) (r : Held) → Contains rs r → Contains (slots_in rs) r.slot
slot_there [] r c = absurd (no_element r c)
slot_there (q ∷ rs) r c = elim (element_cases q rs r c) [
  | inl e ↦ subst (λ (z : Held). Contains (slots_in (q ∷ rs)) z.slot) (sym e) (first_element q.slot (slots_in rs))
  | inr k ↦ later_element q.slot (slots_in rs) r.slot (slot_there rs r k)
]

pub record_times : (rs : List Held) (r : Held) → Contains rs r → 1 ≤ times r.slot (slots_in rs)
record_times rs r c = times_there r.slot (slots_in rs) (slot_there rs r c)

-- what holds of a member's slot that stands nowhere
pub no_record : (x : ℕ) (rs : List Held) → times x (slots_in rs) ≡ 0 → (r : Held) → Contains rs r → r.slot ≢ x
no_record x rs none r c e =
    let one : 1 ≤ times x (slots_in rs) = subst (λ (z : ℕ). 1 ≤ times z (slots_in rs)) e (record_times rs r c) in
    omega arith

pub slots_append : (rs qs : List Held) → slots_in (rs ++ qs) ≡ slots_in rs ++ slots_in qs
slots_append [] qs = refl
slots_append (r ∷ rs) qs = ap (λ (l : List ℕ). r.slot ∷ l) (slots_append rs qs)

pub record_times_append : (x : ℕ) (rs qs : List Held)
    → times x (slots_in (rs ++ qs)) ≡ times x (slots_in rs) + times x (slots_in qs)
record_times_append x rs qs = ap (times x) (slots_append rs qs) ∙ times_append x (slots_in rs) (slots_in qs)

-- records of which no slot stands twice
abbrev pub OtherSlots : Held → Held → Type 0
OtherSlots w z = w.slot ≢ z.slot

pub apart_slots : (ws : List Held) → ((x : ℕ) → times x (slots_in ws) ≤ 1) → AllPairs OtherSlots ws
apart_slots [] once = λ i j d lt within. absurd (omega arith)
apart_slots (w ∷ ws) once = AllPairs-cons OtherSlots w ws
    (all_elements (OtherSlots w) ws (λ z c e.
    let one : 1 ≤ times w.slot (slots_in ws) = subst (λ (n : ℕ). 1 ≤ times n (slots_in ws)) (sym e) (record_times ws z c) in
    let here = times_here w.slot (slots_in ws) in
    let most = once w.slot in
    absurd (omega arith)))
    (apart_slots ws (λ x. let most = once x in let more = times_more x w.slot (slots_in ws) in omega arith))

-- ---- with the records of a slot dropped
module _ (slot : ℕ) where
  pub times_without : (x : ℕ) (rs : List Held) → x ≢ slot → times x (slots_in (without_slot slot rs)) ≡ times x (slots_in rs)
  times_without x [] ne = refl
  times_without x (r ∷ rs) ne = by (r.slot == slot) refl (times_without x rs ne)
    where
      by : (t : Bool) → (r.slot == slot) ≡ t → times x (slots_in (without_slot slot rs)) ≡ times x (slots_in rs)
          → times x (slots_in (cond (not t) (r ∷ without_slot slot rs) (without_slot slot rs))) ≡ times x (slots_in (r ∷ rs))
      by true e ih =
          let same : r.slot ≡ slot = grind (arith, nat_tests) in
          ih ∙ sym (times_else x r.slot (slots_in rs) (λ f. ne (sym f ∙ same)))
      by false e ih =
          times_cons x r.slot (slots_in (without_slot slot rs))
          ∙ ap (λ (n : ℕ). (if r.slot == x then 1 else 0) + n) ih ∙ sym (times_cons x r.slot (slots_in rs))

  pub times_closed : (rs : List Held) → times slot (slots_in (without_slot slot rs)) ≡ 0
  times_closed [] = refl
  times_closed (r ∷ rs) = by (r.slot == slot) refl (times_closed rs)
    where
      by : (t : Bool) → (r.slot == slot) ≡ t → times slot (slots_in (without_slot slot rs)) ≡ 0
          → times slot (slots_in (cond (not t) (r ∷ without_slot slot rs) (without_slot slot rs))) ≡ 0
      by true e ih = ih
      by false e ih =
          times_else slot r.slot (slots_in (without_slot slot rs)) (λ f. absurd (grind (arith, nat_tests))) ∙ ih

  pub length_without : (rs : List Held) → length (without_slot slot rs) + times slot (slots_in rs) ≡ length rs
  length_without [] = refl
  length_without (r ∷ rs) = by (r.slot == slot) refl (length_without rs)
    where
      by : (t : Bool) → (r.slot == slot) ≡ t → length (without_slot slot rs) + times slot (slots_in rs) ≡ length rs
          → length (cond (not t) (r ∷ without_slot slot rs) (without_slot slot rs)) + times slot (slots_in (r ∷ rs)) ≡ length (r ∷ rs)
      by true e ih =
          let same : r.slot ≡ slot = grind (arith, nat_tests) in
          let here : times slot (r.slot ∷ slots_in rs) ≡ 1 + times slot (slots_in rs) =
          subst (λ (n : ℕ). times slot (n ∷ slots_in rs) ≡ 1 + times slot (slots_in rs)) (sym same) (times_here slot (slots_in rs)) in
          omega arith
      by false e ih =
          let off : times slot (r.slot ∷ slots_in rs) ≡ times slot (slots_in rs) =
          times_else slot r.slot (slots_in rs) (λ f. absurd (grind (arith, nat_tests))) in
          omega arith

-- ---- ranges
-- a number of a range stands in it once, and any other not
pub times_range : (x a n : ℕ) → a ≤ x → x < a + n → times x (range_with_len a n) ≡ 1
times_range x a zero low high = absurd (omega arith)
times_range x a (suc n) low high = by (a == x) refl (λ l. times_range x (a + 1) n l (omega arith))
  where
    none : (m b : ℕ) → x < b → times x (range_with_len b m) ≡ 0
    none zero b far = refl
    none (suc m) b far = times_else x b (range_with_len (b + 1) m) (λ e. absurd (omega arith)) ∙ none m (b + 1) (omega arith)

    by : (t : Bool) → (a == x) ≡ t → (a + 1 ≤ x → times x (range_with_len (a + 1) n) ≡ 1)
        → times x (a ∷ range_with_len (a + 1) n) ≡ 1
    by true e ih =
        let same : a ≡ x = grind (arith, nat_tests) in
        let rest = none n (a + 1) (omega arith) in
        let here : times x (a ∷ range_with_len (a + 1) n) ≡ 1 + times x (range_with_len (a + 1) n) =
        subst (λ (y : ℕ). times x (y ∷ range_with_len (a + 1) n) ≡ 1 + times x (range_with_len (a + 1) n)) (sym same)
        (times_here x (range_with_len (a + 1) n)) in
        omega arith
    by false e ih =
        let other : a ≢ x = λ f. absurd (grind (arith, nat_tests)) in
        times_else x a (range_with_len (a + 1) n) other ∙ ih (omega arith)

pub times_outside : (x a n : ℕ) → (x < a) ⊎ (a + n ≤ x) → times x (range_with_len a n) ≡ 0
times_outside x a zero out = refl
times_outside x a (suc n) (inl l) =
    times_else x a (range_with_len (a + 1) n) (λ e. absurd (omega arith)) ∙ times_outside x (a + 1) n (inl (omega arith))
times_outside x a (suc n) (inr l) =
    times_else x a (range_with_len (a + 1) n) (λ e. absurd (omega arith)) ∙ times_outside x (a + 1) n (inr (omega arith))
