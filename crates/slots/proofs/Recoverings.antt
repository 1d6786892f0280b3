-- What a region takes over are the books of what was found.
use Rattle.std.proofs.Common.{◌≡◌, ℕ, zero, suc, ◌+◌, ◌-◌, ◌*◌, ◌<◌, ◌≤◌, List, [], ◌∷◌, ◌++◌, length, map, replicate, drop, get_or, add-zero, sym, refl, ap, ◌∙◌, subst, arith, Bool, true, false, cond, inl, inr, ◌⊎◌}
use Rattle.std.specs.Prelude.{◌&&◌, max, not, filter, All, Option, None, IsTrue, is_none, slice_get, slice_index, unwrap_or, if◌then◌else◌}
use Rattle.std.specs.List.{Contains, fold, range_with_len}
use Rattle.std.proofs.lemmas.List.{drop_more}
use Rattle.std.proofs.lemmas.List.Elements.{All-contains, All-head, All-tail, All-cons}
use Rattle.std.proofs.lemmas.List.FromFn.{length-map-range_with_len}
use Rattle.mont_base.specs.declared.constants.TheConstants.{LAST}
use Rattle.mont_base.specs.declared.record.Held.{Held}
use Rattle.mont_base.specs.Image.{slots_of}
use Rattle.mont_base.specs.Layout.{Shape, IsLayout, unit_of_slot}
use Rattle.mont_laws.specs.declared.retiring.Retired.{Retired}
use Rattle.mont_laws.specs.Retiring.{Retires, retired_among}
use Rattle.mont_laws.specs.SlotReadings.{IsRecordOf}
use Rattle.mont_laws.proofs.Members.{no_element, first_element, later_element, element_cases, all_elements}
use Rattle.mont_laws.proofs.Recovered.{found_retire}
use Rattle.core_steps.specs.Opened.{by_version}
use Rattle.core_steps.proofs.UnitQueues.{slot_record}
use Rattle.core_steps.proofs.VersionOrder.{versions_rise, versions_same}
use Rattle.slots.specs.RegionBeginning.{AreFound, greatest, identities_in, live_serials, serial_at_first, is_among, free_at_first}
use Rattle.slots.specs.Books.{slots_in, row_in, rows_of, as_written}
use Rattle.slots.specs.Finding.{marked, mark_at, is_unused, serials_left}
use Rattle.slots.specs.Rooms.{placed, first_slot, IsPlaced, HoldsIn}
use Rattle.slots.specs.Serials.{is_queue}
use Rattle.slots.proofs.RowFacts.{range_copies, place_of_slot}
use Rattle.slots.proofs.Settles.{placed_rows}
use Rattle.slots.proofs.Found.{once_times, slots_apart}
use Rattle.slots.proofs.Findings.{marks_are, unused_free, serials_are}

greatest_low : (limit m : ℕ) (xs : List ℕ) → m ≤ limit → All (λ n. n ≤ limit) xs → fold max m xs ≤ limit
greatest_low limit m [] low all = low
greatest_low limit m (x ∷ xs) low all =
    let one : x ≤ limit = All-head (λ n. n ≤ limit) x xs all in
    greatest_low limit (max m x) xs (omega arith) (All-tail (λ n. n ≤ limit) x xs all)

module _ (s : Shape) (u : ℕ) (layout : IsLayout s) (recs : List Held) (lost : List ℕ) (found : AreFound s u recs lost) where
  some : 1 ≤ s.slots
  some = let e = layout.some_slots in omega arith

  placed_at : (x : ℕ) → unit_of_slot s x ≡ u → IsPlaced (first_slot s u) s.slots x
  placed_at x own = let p = place_of_slot s u x some own in record { low = p.0; high = p.1 }

  rec_unit : (r : Held) → Contains recs r → unit_of_slot s r.slot ≡ u
  rec_unit r c = All-contains (λ (q : Held). unit_of_slot s q.slot ≡ u) recs r found.of_unit c

  pub records_placed : (places : ℕ) → places ≡ s.slots → All (HoldsIn (first_slot s u) places) recs
  records_placed places is = subst (λ (n : ℕ). All (HoldsIn (first_slot s u) n) recs) (sym is)
      (all_elements (HoldsIn (first_slot s u) s.slots) recs (λ r c. placed_at r.slot (rec_unit r c)))

  pub lost_placed : (places : ℕ) → places ≡ s.slots → All (IsPlaced (first_slot s u) places) lost
  lost_placed places is = subst (λ (n : ℕ). All (IsPlaced (first_slot s u) n) lost) (sym is)
      (all_elements (IsPlaced (first_slot s u) s.slots) lost (λ x c. placed_at x
      (All-contains (λ (slot : ℕ). unit_of_slot s slot ≡ u) lost x found.lost_of_unit c)))

  queue : Retires recs (retired_among (by_version recs))
  queue = found_retire recs (by_version recs) found.apart (versions_rise recs) (versions_same recs found.apart.versions)

  waits_in_unit : (x : ℕ) → Contains (map (λ (t : Retired). t.slot) (retired_among (by_version recs))) x → unit_of_slot s x ≡ u
  waits_in_unit x c =
      let t = slot_of_queue x (retired_among (by_version recs)) c in
      let one = slot_record recs (retired_among (by_version recs)) found.apart queue t.0 t.1 in
      subst (λ (n : ℕ). unit_of_slot s n ≡ u) (one.in_slot ∙ t.2) (rec_unit one.retired_record one.there)
    where
      slot_of_queue : (x : ℕ) (ts : List Retired) → Contains (map (λ (t : Retired). t.slot) ts) x
          → (t : Retired) × Contains ts t × (t.slot ≡ x)
      slot_of_queue x [] c = absurd (no_element x c)
      slot_of_queue x (t ∷ ts) c = of (element_cases t.slot (map (λ (v : Retired). v.slot) ts) x c) (λ k. slot_of_queue x ts k)
        where
          of : (x ≡ t.slot) ⊎ Contains (map (λ (v : Retired). v.slot) ts) x
              → (Contains (map (λ (v : Retired). v.slot) ts) x → (v : Retired) × Contains ts v × (v.slot ≡ x))
              → (v : Retired) × Contains (t ∷ ts) v × (v.slot ≡ x)
          of (inl e) ih = (t, first_element t ts, sym e)
          of (inr k) ih = let v = ih k in (v.0, later_element t ts v.0 v.1, v.2)

  pub waits_placed : (waiting : List ℕ) → waiting ≡ map (λ (t : Retired). t.slot) (retired_among (by_version recs))
      → All (IsPlaced (first_slot s u) s.slots) waiting
  waits_placed waiting is = subst (All (IsPlaced (first_slot s u) s.slots)) (sym is)
      (all_elements (IsPlaced (first_slot s u) s.slots) (map (λ (t : Retired). t.slot) (retired_among (by_version recs)))
      (λ x c. placed_at x (waits_in_unit x c)))

  -- ---- rows and free slots
  pub rows_found : placed (first_slot s u) (replicate s.slots None) (map (as_written []) recs) ≡ rows_of s u recs
  rows_found =
      ap (λ (rows : List (Option Held)). placed (first_slot s u) rows (map (as_written []) recs))
      (range_copies (u * s.slots) s.slots None)
      ∙ placed_rows s u [] recs [] some rec_unit (λ x.
      let most = once_times x (slots_in recs) (slots_apart recs found.apart.slots) in omega arith)

  marks_of : (slots : List ℕ) → ((x : ℕ) → Contains slots x → unit_of_slot s x ≡ u)
      → marked (first_slot s u) (replicate s.slots false) slots ≡ map (is_among slots) (slots_of s u)
  marks_of slots own =
      ap (λ (marks : List Bool). marked (first_slot s u) marks slots) (range_copies (u * s.slots) s.slots false)
      ∙ marks_are s u some slots [] own

  pub free_found : (rows : List (Option Held)) (marks : List Bool) (free : List ℕ)
      → rows ≡ placed (first_slot s u) (replicate s.slots None) (map (as_written []) recs)
      → marks ≡ marked (first_slot s u) (replicate s.slots false) lost
      → free ≡ filter (is_unused (first_slot s u) rows marks) (range_with_len (first_slot s u) (length rows))
      → free ≡ free_at_first s u recs lost
  free_found rows marks free r m f =
      let rows_are : rows ≡ rows_of s u recs = r ∙ rows_found in
      let marks_is : marks ≡ map (is_among lost) (slots_of s u) =
      m ∙ marks_of lost (λ x c. All-contains (λ (slot : ℕ). unit_of_slot s slot ≡ u) lost x found.lost_of_unit c) in
      let long : length rows ≡ s.slots = ap length rows_are ∙ length-map-range_with_len _ (u * s.slots) s.slots in
      f ∙ (λ i. filter (is_unused (first_slot s u) (rows_are i) (marks_is i)) (range_with_len (first_slot s u) (long i)))
      ∙ unused_free s u some recs lost

  -- ---- numbers
  serials_found : (waiting : List ℕ) → waiting ≡ map (λ (t : Retired). t.slot) (retired_among (by_version recs))
      → serials_left (first_slot s u) (marked (first_slot s u) (replicate s.slots false) waiting) recs ≡ live_serials recs
  serials_found waiting is =
      ap (λ (w : List ℕ). serials_left (first_slot s u) (marked (first_slot s u) (replicate s.slots false) w) recs) is
      ∙ ap (λ (marks : List Bool). serials_left (first_slot s u) marks recs)
      (marks_of (map (λ (t : Retired). t.slot) (retired_among (by_version recs))) waits_in_unit)
      ∙ serials_are s u some recs (retired_among (by_version recs)) found.apart queue recs (λ r c. (c, rec_unit r c))

  pub serial_low : (waiting : List ℕ) → waiting ≡ map (λ (t : Retired). t.slot) (retired_among (by_version recs))
      → IsTrue (is_queue s u)
      → greatest (serials_left (first_slot s u) (marked (first_slot s u) (replicate s.slots false) waiting) recs) ≤ LAST
  serial_low waiting is kind = subst (λ (l : List ℕ). greatest l ≤ LAST) (sym (serials_found waiting is))
      (greatest_low LAST 0 (live_serials recs) (omega arith) (found.serials kind))

  pub serial_found : (waiting : List ℕ) (serial : ℕ) → waiting ≡ map (λ (t : Retired). t.slot) (retired_among (by_version recs))
      → serial ≡ (if is_queue s u then greatest (serials_left (first_slot s u)
      (marked (first_slot s u) (replicate s.slots false) waiting) recs) + 1 else 1)
      → serial ≡ serial_at_first s u recs
  serial_found waiting serial is e =
      e ∙ ap (λ (l : List ℕ). if is_queue s u then greatest l + 1 else 1) (serials_found waiting is)

  pub identity_low : greatest (identities_in recs) ≤ LAST
  identity_low = greatest_low LAST 0 (identities_in recs) (omega arith) (each recs found.valid)
    where
      each : (rs : List Held) → All (IsRecordOf u) rs → All (λ n. n ≤ LAST) (identities_in rs)
      each [] all = λ k d lt. absurd (omega arith)
      each (r ∷ rs) all =
          let one = All-head (IsRecordOf u) r rs all in
          All-cons (λ n. n ≤ LAST) r.label.identity (identities_in rs) one.label.last_identity (each rs (All-tail (IsRecordOf u) r rs all))

-- ---- what a filter keeps of a range, one number more
filter_range : (p : ℕ → Bool) (a n : ℕ)
    → filter p (range_with_len a (suc n)) ≡ filter p (range_with_len a n) ++ cond (p (a + n)) ((a + n) ∷ []) []
filter_range p a zero = ap (λ (y : ℕ). cond (p y) (y ∷ []) []) (sym (add-zero a))
filter_range p a (suc n) =
    let next : (a + 1) + n ≡ a + suc n = omega arith in
    by (p a) (filter_range p (a + 1) n ∙ ap (λ (y : ℕ). filter p (range_with_len (a + 1) n) ++ cond (p y) (y ∷ []) []) next)
  where
    by : (b : Bool) → filter p (range_with_len (a + 1) (suc n))
        ≡ filter p (range_with_len (a + 1) n) ++ cond (p (a + suc n)) ((a + suc n) ∷ []) []
        → cond b (a ∷ filter p (range_with_len (a + 1) (suc n))) (filter p (range_with_len (a + 1) (suc n)))
        ≡ cond b (a ∷ filter p (range_with_len (a + 1) n)) (filter p (range_with_len (a + 1) n))
        ++ cond (p (a + suc n)) ((a + suc n) ∷ []) []
    by true e = ap (λ (l : List ℕ). a ∷ l) e
    by false e = e

pub kept_if : (p : ℕ → Bool) (a n m : ℕ) (keep : Bool) (xs ys : List ℕ) → xs ≡ filter p (range_with_len a n) → p (a + n) ≡ keep
    → m ≡ n + 1 → ys ≡ xs ++ cond keep ((a + n) ∷ []) [] → ys ≡ filter p (range_with_len a m)
kept_if p a n m keep xs ys e kept is f =
    let next : suc n ≡ m = omega arith in
    f ∙ ap (λ (l : List ℕ). l ++ cond keep ((a + n) ∷ []) []) e
    ∙ ap (λ (b : Bool). filter p (range_with_len a n) ++ cond b ((a + n) ∷ []) []) (sym kept)
    ∙ sym (filter_range p a n) ∙ ap (λ (k : ℕ). filter p (range_with_len a k)) next

pub unused_of : (rows : List (Option Held)) (marks : List Bool) (first place : ℕ) (keep : Bool)
    → keep ≡ (is_none (row_in (slice_get rows place)) && not (unwrap_or (slice_get marks place) false))
    → is_unused first rows marks (first + place) ≡ keep
unused_of rows marks first place keep e =
    let back : (first + place) - first ≡ place = omega arith in
    (λ i. is_none (row_in (slice_get rows (back i))) && not (unwrap_or (slice_get marks (back i)) false)) ∙ sym e

pub serials_on : (first : ℕ) (marks : List Bool) (rs : List Held) (place : ℕ) (d : Held) (most next end : ℕ) (mark : Bool)
    → place < length rs → next ≡ (if mark then most else max most (slice_index (get_or rs place d).body 0))
    → mark ≡ mark_at first marks (get_or rs place d).slot
    → fold max most (serials_left first marks (drop place rs)) ≡ end
    → fold max next (serials_left first marks (drop (place + 1) rs)) ≡ end
serials_on first marks rs place d most next end mark lt n e now =
    ap (λ (m : ℕ). fold max m (serials_left first marks (drop (place + 1) rs))) n
    ∙ sym (ap (λ (l : List Held). fold max most (serials_left first marks l)) (drop_more rs place d lt)
    ∙ ap (λ (t : Bool). fold max most (if t then serials_left first marks (drop (place + 1) rs)
    else slice_index (get_or rs place d).body 0 ∷ serials_left first marks (drop (place + 1) rs))) (sym e)
    ∙ by mark)
    ∙ now
  where
    by : (b : Bool) → fold max most (if b then serials_left first marks (drop (place + 1) rs)
        else slice_index (get_or rs place d).body 0 ∷ serials_left first marks (drop (place + 1) rs))
        ≡ fold max (if b then most else max most (slice_index (get_or rs place d).body 0)) (serials_left first marks (drop (place + 1) rs))
    by true = refl
    by false = refl
