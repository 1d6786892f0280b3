-- How many slots are lost when a store is opened: those of its image.
use Rattle.std.proofs.Common.{◌≡◌, ℕ, zero, suc, ◌+◌, ◌*◌, ◌<◌, ◌≤◌, List, [], ◌∷◌, length, drop, get_or, ap, sym, ◌∙◌, subst, refl, arith, length-append}
use Rattle.std.specs.Prelude.{slice_get, Some, All}
use Rattle.std.specs.List.{range_with_len}
use Rattle.std.proofs.lemmas.List.Elements.{filter-append, All-head, All-tail}
use Rattle.std.proofs.lemmas.List.Sums.{sum_by-cons}
use Rattle.mont_base.specs.declared.record.Object.{Object}
use Rattle.mont_base.specs.Layout.{Shape, units_of}
use Rattle.mont_base.specs.State.{State}
use Rattle.core_steps.specs.Opened.{slots_beyond}
use Rattle.core_steps.specs.Places.{EachAt}
use Rattle.core_steps.proofs.RowFacts.{all_at}
use Rattle.heap_rule.specs.declared.rule.Opening.{Opening}
use Rattle.heap.specs.HeapShown.{HeapShown}
use Rattle.scan.specs.Scanned.{all_slots, is_lost, lost_among}
use Rattle.scan.proofs.Ranges.{range_append}
use Rattle.slots.specs.Books.{RegionShown}
use Rattle.found_regions.specs.FoundRegion.{IsRegionFound}
use Rattle.recover.specs.Recovery.{RecoveredShown, IsRecovery, IsRegionOpened, lost_in}

-- unit by unit
module _ (s : Shape) (image : List ℕ) where
  lost_from : (u : ℕ) (rs : List RegionShown)
      → ((i : ℕ) (r : RegionShown) → slice_get rs i ≡ Some r → r.books.lost ≡ slots_beyond s image (u + i))
      → lost_in rs ≡ length (lost_among image (range_with_len (u * s.slots) (length rs * s.slots)))
  lost_from u [] each =
      let none : 0 * s.slots ≡ 0 = omega arith in
      ap (λ (n : ℕ). length (lost_among image (range_with_len (u * s.slots) n))) (sym none)
  lost_from u (r ∷ rs) each =
      let first = sum_by-cons (λ (x : RegionShown). length x.books.lost) r rs in
      let here : r.books.lost ≡ slots_beyond s image u =
      each 0 r refl ∙ ap (slots_beyond s image) (let e : u + 0 ≡ u = omega arith in e) in
      let same : length r.books.lost ≡ length (lost_among image (range_with_len (u * s.slots) s.slots)) = ap length here in
      let rest = lost_from (suc u) rs (λ i q e. each (suc i) q e
      ∙ ap (slots_beyond s image) (let e : u + suc i ≡ suc u + i = omega arith in e)) in
      let next : suc u * s.slots ≡ u * s.slots + s.slots = omega arith in
      let whole : length (lost_among image (range_with_len (u * s.slots) (s.slots + length rs * s.slots)))
      ≡ length (lost_among image (range_with_len (u * s.slots) s.slots))
      + length (lost_among image (range_with_len (u * s.slots + s.slots) (length rs * s.slots))) =
      ap (λ (l : List ℕ). length (lost_among image l)) (sym (range_append (u * s.slots) s.slots (length rs * s.slots)))
      ∙ (ap length (filter-append (is_lost image) (range_with_len (u * s.slots) s.slots)
      (range_with_len (u * s.slots + s.slots) (length rs * s.slots)))
      ∙ length-append (lost_among image (range_with_len (u * s.slots) s.slots))
      (lost_among image (range_with_len (u * s.slots + s.slots) (length rs * s.slots)))) in
      let moved : length (lost_among image (range_with_len (suc u * s.slots) (length rs * s.slots)))
      ≡ length (lost_among image (range_with_len (u * s.slots + s.slots) (length rs * s.slots))) =
      ap (λ (n : ℕ). length (lost_among image (range_with_len n (length rs * s.slots)))) next in
      let many : suc (length rs) * s.slots ≡ s.slots + length rs * s.slots = omega arith in
      let as_many : length (lost_among image (range_with_len (u * s.slots) (suc (length rs) * s.slots)))
      ≡ length (lost_among image (range_with_len (u * s.slots) (s.slots + length rs * s.slots))) =
      ap (λ (n : ℕ). length (lost_among image (range_with_len (u * s.slots) n))) many in
      omega (arith, first, same, rest, whole, moved, as_many)

lost_total : (s : Shape) (image : List ℕ) (rs : List RegionShown) → length rs ≡ units_of s
    → EachAt (λ u (r : RegionShown). r.books.lost ≡ slots_beyond s image u) rs
    → lost_in rs ≡ length (lost_among image (all_slots s))
lost_total s image rs many each =
    lost_from s image 0 rs (λ i r e. each i r e ∙ ap (slots_beyond s image) (let e : i ≡ 0 + i = omega arith in e))
    ∙ (ap (λ (n : ℕ). length (lost_among image (range_with_len n (length rs * s.slots)))) (let e : 0 * s.slots ≡ 0 = omega arith in e)
    ∙ ap (λ (n : ℕ). length (lost_among image (range_with_len 0 (n * s.slots)))) many)

pub opened_lost : (o : Opening) (heap : HeapShown) (rs : List RegionShown) → heap.opening ≡ o → length rs ≡ units_of heap.opening.layout
    → EachAt (IsRegionOpened heap) rs → lost_in rs ≡ length (lost_among o.words (all_slots o.layout))
opened_lost o heap rs is many each = subst (λ (x : Opening). lost_in rs ≡ length (lost_among x.words (all_slots x.layout))) is
    (lost_total heap.opening.layout heap.opening.words rs many (λ u r e. (each u r e).unswept))

-- ---- they are few
lost_at_most : (heap : HeapShown) (u : ℕ) (r : RegionShown) → IsRegionFound heap u r → length r.books.lost ≤ heap.opening.layout.slots
lost_at_most heap u r k =
    let all = k.agrees.1.slots.many in
    let lost : length r.books.lost ≡ length r.seat.known.part.lost = ap length k.agrees.1.lost_are in
    let slots : r.books.layout.slots ≡ heap.opening.layout.slots = ap (λ (s : Shape). s.slots) k.of_heap.layout in
    omega (arith, all, lost, slots)

few_lost : (heap : HeapShown) (rs : List RegionShown) → All (λ (r : RegionShown). length r.books.lost ≤ heap.opening.layout.slots) rs
    → lost_in rs ≤ length rs * heap.opening.layout.slots
few_lost heap [] all = omega arith
few_lost heap (r ∷ rs) all =
    let P = λ (x : RegionShown). length x.books.lost ≤ heap.opening.layout.slots in
    let first = sum_by-cons (λ (x : RegionShown). length x.books.lost) r rs in
    let here = All-head P r rs all in
    let rest = few_lost heap rs (All-tail P r rs all) in
    omega (arith, first, here, rest)

pub lost_bound : (clock : ℕ) (states : List State) (objects : List (List Object)) (x : RecoveredShown) → IsRecovery clock states objects x
    → lost_in x.regions ≤ 65536
lost_bound clock states objects x k =
    let all = few_lost x.heap x.regions (all_at (λ (r : RegionShown). length r.books.lost ≤ x.heap.opening.layout.slots) x.regions
    (λ u r e. lost_at_most x.heap u r (k.regions u r e))) in
    let units = k.accepted.layout.kinds.few in
    let slots = k.accepted.layout.few_slots in
    let many = k.unit_count in
    within (length x.regions) x.heap.opening.layout.slots (lost_in x.regions) (omega (arith, many, units)) slots all
  where
    within : (n m total : ℕ) → n ≤ 16 → m ≤ 4096 → total ≤ n * m → total ≤ 65536
    within n m total few low all =
        let wide : n * m ≤ n * 4096 = *-mono n low in omega (arith, wide, all, few)
      where
        *-mono : (n : ℕ) → m ≤ 4096 → n * m ≤ n * 4096
        *-mono zero low = omega arith
        *-mono (suc n) low = let rest = *-mono n low in omega (arith, rest, low)

-- those of the next unit are among those that are left to count
pub next_lost : (rs : List RegionShown) (i : ℕ) (r : RegionShown) → i < length rs → r ≡ get_or rs i r
    → length r.books.lost ≤ lost_in (drop i rs)
next_lost [] i r low is = absurd (omega arith)
next_lost (x ∷ rs) zero r low is =
    let first = sum_by-cons (λ (y : RegionShown). length y.books.lost) x rs in
    let same : length r.books.lost ≡ length x.books.lost = ap (λ (y : RegionShown). length y.books.lost) is in
    omega (arith, first, same)
next_lost (x ∷ rs) (suc i) r low is = next_lost rs i r (omega arith) is
