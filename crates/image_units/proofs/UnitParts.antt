-- What stands in the slots of one unit, among what stands in all slots.
use Rattle.std.proofs.Common.{◌≡◌, ℕ, zero, suc, ◌+◌, ◌-◌, ◌*◌, ◌<◌, ◌≤◌, Bool, true, false, cond, List, [], ◌∷◌, ◌++◌, get_or, refl, sym, ap, ◌∙◌, subst, arith, append-nil}
use Rattle.std.specs.Prelude.{Option, Some, None, AllPairs, filter}
use Rattle.std.specs.List.{Contains, cons_option, filter_map, range_with_len}
use Rattle.std.proofs.lemmas.Bool.Decides.{nat_tests}
use Rattle.std.proofs.lemmas.List.Elements.{Contains-get_or, filter-append, filter_map-append}
use Rattle.std.proofs.lemmas.List.Kept.{AllPairs-cons}
use Rattle.std.proofs.lemmas.Option.{same_Some}
use Rattle.mont_base.specs.declared.record.Held.{Held}
use Rattle.mont_base.specs.Image.{record_at, records_of, slots_of}
use Rattle.mont_base.specs.Layout.{Shape, total_of, units_of}
use Rattle.mont_laws.specs.UnitRecords.{HasLowerSlot}
use Rattle.mont_laws.proofs.Mapped.{mapped_from, range_bounds}
use Rattle.mont_laws.proofs.Members.{all_elements}
use Rattle.mont_laws.proofs.UnitRecords.{slot_of_record}
use Rattle.scan.specs.Scanned.{all_slots, is_lost, lost_among}
use Rattle.scan.proofs.Ranges.{range_append}
use Rattle.image_units.specs.Found.{all_records, lost_of}
use Rattle.image_units.specs.UnitSlots.{is_between, slot_of}
use Rattle.image_units.proofs.Between.{all_kept, none_kept}

under : (first end n : ℕ) → n < first → is_between first end n ≡ false
under first end n low = grind (arith, nat_tests)

inside : (first end n : ℕ) → first ≤ n → n < end → is_between first end n ≡ true
inside first end n low high = grind (arith, nat_tests)

over : (first end n : ℕ) → end ≤ n → is_between first end n ≡ false
over first end n high = grind (arith, nat_tests)

-- something stands in a slot, or nothing
module _ {A : Type 0} (at : ℕ → Option A) (slot : A → ℕ) (stands : (n : ℕ) (x : A) → at n ≡ Some x → slot x ≡ n) where
  -- what stands in n slots from one on
  abbrev pub from_slot : ℕ → ℕ → List A
  from_slot a n = filter_map at (range_with_len a n)

  pub slot_bounds : (a n : ℕ) (x : A) → Contains (from_slot a n) x → (a ≤ slot x) × (slot x < a + n)
  slot_bounds a n x h =
      let there = mapped_from at x (range_with_len a n) h in
      subst (λ (k : ℕ). (a ≤ k) × (k < a + n)) (sym (stands there.0 x there.2)) (range_bounds there.0 a n there.1)

  pub slots_rise : (a n : ℕ) → AllPairs (λ (x y : A). slot x < slot y) (from_slot a n)
  slots_rise a zero = λ i j d low high. absurd (omega arith)
  slots_rise a (suc n) = go (at a) refl (slots_rise (a + 1) n)
    where
      Rises : List A → Type 0
      Rises xs = AllPairs (λ (x y : A). slot x < slot y) xs

      above : (x : A) → slot x ≡ a → (y : A) → Contains (from_slot (a + 1) n) y → slot x < slot y
      above x there y h = let low = (slot_bounds (a + 1) n y h).0 in omega arith

      go : (o : Option A) → at a ≡ o → Rises (from_slot (a + 1) n) → Rises (cons_option o (from_slot (a + 1) n))
      go None e rising = rising
      go (Some x) e rising = AllPairs-cons (λ (x y : A). slot x < slot y) x (from_slot (a + 1) n)
          (all_elements (λ (y : A). slot x < slot y) (from_slot (a + 1) n) (above x (stands a x e))) rising

  more_slots : (a m n : ℕ) → from_slot a (m + n) ≡ from_slot a m ++ from_slot (a + m) n
  more_slots a m n = ap (filter_map at) (sym (range_append a m n)) ∙ filter_map-append at (range_with_len a m) (range_with_len (a + m) n)

  -- of what stands in all slots that which stands from one to before another
  pub part_of_slots : (a m n : ℕ) → filter (λ (x : A). is_between a (a + m) (slot x)) (from_slot 0 (a + (m + n))) ≡ from_slot a m
  part_of_slots a m n =
      let p : A → Bool = λ x. is_between a (a + m) (slot x) in
      let front : filter p (from_slot 0 a) ≡ [] = none_kept p (from_slot 0 a) (λ k d lt.
      let low = (slot_bounds 0 a _ (Contains-get_or (from_slot 0 a) k d lt)).1 in
      under a (a + m) (slot (get_or (from_slot 0 a) k d)) (omega arith)) in
      let mine : filter p (from_slot a m) ≡ from_slot a m = all_kept p (from_slot a m) (λ k d lt.
      let bounds = slot_bounds a m _ (Contains-get_or (from_slot a m) k d lt) in
      inside a (a + m) (slot (get_or (from_slot a m) k d)) bounds.0 bounds.1) in
      let back : filter p (from_slot (a + m) n) ≡ [] = none_kept p (from_slot (a + m) n) (λ k d lt.
      let high = (slot_bounds (a + m) n _ (Contains-get_or (from_slot (a + m) n) k d lt)).0 in
      over a (a + m) (slot (get_or (from_slot (a + m) n) k d)) high) in
      let begin : 0 + a ≡ a = omega arith in
      ap (filter p) (more_slots 0 a (m + n) ∙ ap (λ (k : ℕ). from_slot 0 a ++ from_slot k (m + n)) begin
      ∙ ap (λ (xs : List A). from_slot 0 a ++ xs) (more_slots a m n))
      ∙ filter-append p (from_slot 0 a) (from_slot a m ++ from_slot (a + m) n)
      ∙ (λ i. front i ++ filter p (from_slot a m ++ from_slot (a + m) n))
      ∙ filter-append p (from_slot a m) (from_slot (a + m) n)
      ∙ (λ i. mine i ++ back i)
      ∙ append-nil (from_slot a m)

  -- so a unit's among those of all units
  pub part_of_unit : (unit units k : ℕ) → unit < units
      → filter (λ (x : A). is_between (unit * k) (unit * k + k) (slot x)) (from_slot 0 (units * k)) ≡ from_slot (unit * k) k
  part_of_unit unit units k within =
      let behind = units - unit - 1 in
      let all : unit * k + (k + behind * k) ≡ units * k = whole unit behind units k (omega arith) in
      subst (λ (n : ℕ). filter (λ (x : A). is_between (unit * k) (unit * k + k) (slot x)) (from_slot 0 n) ≡ from_slot (unit * k) k) all
      (part_of_slots (unit * k) k (behind * k))
    where
      whole : (u m n k : ℕ) → u + (1 + m) ≡ n → u * k + (k + m * k) ≡ n * k
      whole u m n k e = let sums : u * k + (k + m * k) ≡ (u + (1 + m)) * k = grind arith in sums ∙ ap (λ (j : ℕ). j * k) e

-- ---- numbers that pass a test, each at its own place
abbrev pub own_place : (ℕ → Bool) → ℕ → Option ℕ
own_place p n = cond (p n) (Some n) None

pub own_place_is : (p : ℕ → Bool) (n k : ℕ) → own_place p n ≡ Some k → k ≡ n
own_place_is p n k e = by (p n) e
  where
    by : (b : Bool) → cond b (Some n) None ≡ Some k → k ≡ n
    by true e = sym (same_Some n k e)
    by false e = absurd (cc)

pub passing : (p : ℕ → Bool) (xs : List ℕ) → filter_map (own_place p) xs ≡ filter p xs
passing p [] = refl
passing p (x ∷ xs) = by (p x) ∙ ap (λ (ys : List ℕ). cond (p x) (x ∷ ys) ys) (passing p xs)
  where
    by : (b : Bool) → cons_option (cond b (Some x) None) (filter_map (own_place p) xs)
        ≡ cond b (x ∷ filter_map (own_place p) xs) (filter_map (own_place p) xs)
    by true = refl
    by false = refl

-- ---- a unit's records and lost slots, among those of all units
module _ (s : Shape) (image : List ℕ) where
  pub records_rise : (all : List Held) → all ≡ all_records s image → AllPairs HasLowerSlot all
  records_rise all is =
      subst (AllPairs HasLowerSlot) (sym is) (slots_rise (record_at s image) slot_of (slot_of_record s image) 0 (total_of s))

  pub lost_rises : (all : List ℕ) → all ≡ lost_among image (all_slots s) → AllPairs (λ (a b : ℕ). a < b) all
  lost_rises all is =
      let p = is_lost image in
      subst (AllPairs (λ (a b : ℕ). a < b)) (sym (is ∙ sym (passing p (all_slots s))))
      (slots_rise (own_place p) (λ (slot : ℕ). slot) (own_place_is p) 0 (total_of s))

  module _ (unit slots : ℕ) (inside : unit < units_of s) (is : slots ≡ s.slots) where
    pub own_records : (all part : List Held) → all ≡ all_records s image
        → part ≡ filter (λ (r : Held). is_between (unit * slots) (unit * slots + slots) r.slot) all → part ≡ records_of s image unit
    own_records all part whole kept =
        kept
        ∙ ap (filter (λ (r : Held). is_between (unit * slots) (unit * slots + slots) r.slot)) whole
        ∙ subst (λ (k : ℕ). filter (λ (r : Held). is_between (unit * k) (unit * k + k) r.slot) (all_records s image)
        ≡ records_of s image unit) (sym is)
        (part_of_unit (record_at s image) slot_of (slot_of_record s image) unit (units_of s) s.slots inside)

    pub own_lost : (all part : List ℕ) → all ≡ lost_among image (all_slots s)
        → part ≡ filter (is_between (unit * slots) (unit * slots + slots)) all → part ≡ lost_of s image unit
    own_lost all part whole kept =
        let p = is_lost image in
        kept
        ∙ ap (filter (is_between (unit * slots) (unit * slots + slots))) (whole ∙ sym (passing p (all_slots s)))
        ∙ subst (λ (k : ℕ). filter (is_between (unit * k) (unit * k + k)) (filter_map (own_place p) (all_slots s))
        ≡ filter_map (own_place p) (slots_of s unit)) (sym is)
        (part_of_unit (own_place p) (λ (slot : ℕ). slot) (own_place_is p) unit (units_of s) s.slots inside)
        ∙ passing p (slots_of s unit)
