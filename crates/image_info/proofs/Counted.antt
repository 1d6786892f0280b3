-- The slots of a unit and its records, counted by what they are.
use Rattle.std.proofs.Common.{◌≡◌, ℕ, ◌+◌, ◌-◌, ◌*◌, ◌<◌, ◌≤◌, Bool, true, false, cond, ◌&&◌, not, List, [], ◌∷◌, length, refl, sym, ap, ◌∙◌, arith, ⊎_elim, eq-eqb, ne_eqb, if◌then◌else◌}
use Rattle.std.specs.Prelude.{◌/◌, ◌%◌, ◌==◌, Option, Some, None, Result, Ok, Err, is_some, count_by, filter, nat_le, nat_lt, slice_index}
use Rattle.std.specs.List.{cons_option, filter_map, list_any, range_with_len}
use Rattle.std.proofs.lemmas.Bool.{cases_eq, cases_lt, eqb-true}
use Rattle.std.proofs.lemmas.Bool.Decides.{nat_tests}
use Rattle.std.proofs.lemmas.List.{length-map}
use Rattle.std.proofs.lemmas.List.FromFn.{length-range_with_len}
use Rattle.std.proofs.lemmas.List.Sums.{length-filter, sum_by-cons, sum_by_push}
use Rattle.mont_base.specs.declared.constants.TheConstants.{LAST}
use Rattle.mont_base.specs.declared.record.Held.{Held}
use Rattle.mont_base.specs.declared.record.Kind.{Kind}
use Rattle.mont_base.specs.declared.record.Label.{Label}
use Rattle.mont_base.specs.declared.record.Object.{Object}
use Rattle.mont_base.specs.declared.record.SlotFault.{SlotFault}
use Rattle.mont_base.specs.declared.record.SlotFault.TheVariants as faults
use Rattle.mont_base.specs.Image.{cut_of, epoch_at, is_in_cut, record_at, record_read, records_of, slots_of, words_at}
use Rattle.mont_base.specs.Layout.{Shape, unit_of_slot}
use Rattle.mont_base.specs.Record.{body_at, is_version_of, kind_of_number, label_at, reading, reading_of_kind}
use Rattle.mont_base.specs.Versions.{is_delete, is_later, is_live, live_objects, object_of}
use Rattle.scan.specs.Scanned.{is_lost}
use Rattle.scan.proofs.Among.{not_closed, slot_beyond, slot_closed, slot_within}
use Rattle.scan.proofs.Ranges.{range_append}
use Rattle.image_info.specs.UnitCounts.{AreCounts, fault_in, is_anti_payload, is_faulty, is_free, is_superseded}

abbrev pub Reading : Type 0
Reading = Result (Option (Label × List ℕ)) SlotFault

-- ---- one slot more
pub count_more : (p : ℕ → Bool) (a n count new : ℕ) (b : Bool) → count ≡ count_by p (range_with_len a n) → p (a + n) ≡ b
    → new ≡ count + cond b 1 0 → new ≡ count_by p (range_with_len a (n + 1))
count_more p a n count new b so_far is grown =
    grown
    ∙ (λ i. so_far i + cond (sym is i) 1 0)
    ∙ sym (sum_by_push (λ slot. cond (p slot) 1 0) (range_with_len a n) (a + n))
    ∙ ap (count_by p) (range_append a n 1)

pub late : (cut epoch the_cut the_epoch : ℕ) → cut ≡ the_cut → epoch ≡ the_epoch → cut < epoch → nat_lt the_cut the_epoch ≡ true
late cut epoch the_cut the_epoch is at h = grind (arith, nat_tests)

pub early : (cut epoch the_cut the_epoch : ℕ) → cut ≡ the_cut → epoch ≡ the_epoch → epoch ≤ cut → nat_lt the_cut the_epoch ≡ false
early cut epoch the_cut the_epoch is at h = grind (arith, nat_tests)

-- ---- each record is live, superseded or an anti-payload
module _ (records : List Held) where
  one_of_three : (r : Held)
      → cond (is_live records r) 1 0 + cond (is_superseded records r) 1 0 + cond (is_anti_payload r) 1 0 ≡ 1
  one_of_three r = by (is_delete r.label.kind) (list_any (is_later r) records)
    where
      by : (deletes later : Bool)
          → cond (not deletes && not later) 1 0 + cond (not deletes && later) 1 0 + cond deletes 1 0 ≡ 1
      by true true = refl
      by true false = refl
      by false true = refl
      by false false = refl

  pub records_counted : (rs : List Held)
      → count_by (is_live records) rs + count_by (is_superseded records) rs + count_by is_anti_payload rs ≡ length rs
  records_counted [] = refl
  records_counted (r ∷ rs) =
      let live = sum_by-cons (λ q. cond (is_live records q) 1 0) r rs in
      let old = sum_by-cons (λ q. cond (is_superseded records q) 1 0) r rs in
      let deletes = sum_by-cons (λ q. cond (is_anti_payload q) 1 0) r rs in
      let one = one_of_three r in
      let rest = records_counted rs in
      omega (arith, live, old, deletes, one, rest)

pub live_counted : (records : List Held) → length (live_objects records) ≡ count_by (is_live records) records
live_counted records =
    length-map (filter (is_live records) records) object_of ∙ length-filter (is_live records) records

-- ---- only a closed slot reads as nothing
tried : (a b c : Bool) (x y z : SlotFault) (v : Label × List ℕ)
    → (if a then Err x else (if b then Err y else (if c then Err z else Ok (Some v)))) ≡ Ok None → ⊥
tried true b c x y z v e = cc
tried false true c x y z v e = cc
tried false false true x y z v e = cc
tried false false false x y z v e = cc

none_by_kind : (kind : Option Kind) (unit : ℕ) (words : List ℕ) → reading_of_kind kind unit words ≡ Ok None → ⊥
none_by_kind None unit words e = cc
none_by_kind (Some kind) unit words e = tried (not (slice_index words 1 % 256 == unit))
    (not (nat_le 1 (slice_index words 2) && nat_le (slice_index words 2) LAST)) (not (is_version_of kind (slice_index words 3)))
    (faults.Unit (slice_index words 1)) (faults.Identity (slice_index words 2)) (faults.Version (slice_index words 3))
    (label_at kind words, body_at words) e

closed_of_nothing : (unit : ℕ) (words : List ℕ) → reading unit words ≡ Ok None → slice_index words 0 ≡ 0
closed_of_nothing unit words e = go (slice_index words 0 == 0) refl e
  where
    go : (b : Bool) → (slice_index words 0 == 0) ≡ b
        → (if b then Ok None else reading_of_kind (kind_of_number (slice_index words 1 / 256)) unit words) ≡ Ok None
        → slice_index words 0 ≡ 0
    go true is e = eqb-true (slice_index words 0) 0 is
    go false is e = absurd (none_by_kind (kind_of_number (slice_index words 1 / 256)) unit words e)

-- ---- each slot is closed, beyond the cut, or within it with a record or a fault
abbrev pub marks : {A : Type 0} → Option A → ℕ
marks o = cond (is_some o) 1 0

module _ (s : Shape) (image : List ℕ) where
  abbrev reading_at : ℕ → Reading
  reading_at slot = reading (unit_of_slot s slot) (words_at image slot)

  -- what is read within the cut
  held_or_faulty : (slot : ℕ) (o : Reading) → (o ≡ Ok None → ⊥) → marks (record_read slot o) + marks (fault_in o) ≡ 1
  held_or_faulty slot (Err fault) some = refl
  held_or_faulty slot (Ok None) some = absurd (some refl)
  held_or_faulty slot (Ok (Some r)) some = refl

  one_of_four : (slot : ℕ)
      → cond (is_free image slot) 1 0 + cond (is_lost image slot) 1 0 + marks (record_at s image slot) + cond (is_faulty s image slot) 1 0
      ≡ 1
  one_of_four slot = ⊎_elim
      (λ (none : epoch_at image slot ≡ 0). closed none (slot_closed s image slot (epoch_at image slot) refl none))
      (λ (some : epoch_at image slot ≡ 0 → ⊥). ⊎_elim
      (λ (late : cut_of image < epoch_at image slot).
      beyond some (slot_beyond s image slot (epoch_at image slot) refl late))
      (λ (early : epoch_at image slot ≤ cut_of image).
      within some (slot_within s image slot (epoch_at image slot) refl (omega arith) early))
      (cases_lt (cut_of image) (epoch_at image slot)))
      (cases_eq (epoch_at image slot) 0)
    where
      Counts : Bool → Bool → Bool → Type 0
      Counts free lost kept =
          cond free 1 0 + cond lost 1 0 + marks (if kept then record_read slot (reading_at slot) else None)
          + marks (if kept then fault_in (reading_at slot) else None) ≡ 1

      closed : epoch_at image slot ≡ 0 → (is_in_cut image slot ≡ false) × (is_lost image slot ≡ false)
          → Counts (is_free image slot) (is_lost image slot) (is_in_cut image slot)
      closed none is = rw (eq-eqb (epoch_at image slot) 0 none, is.0, is.1) refl

      beyond : (epoch_at image slot ≡ 0 → ⊥) → (is_in_cut image slot ≡ false) × (is_lost image slot ≡ true)
          → Counts (is_free image slot) (is_lost image slot) (is_in_cut image slot)
      beyond some is = rw (ne_eqb (epoch_at image slot) 0 some, is.0, is.1) refl

      within : (epoch_at image slot ≡ 0 → ⊥) → (is_in_cut image slot ≡ true) × (is_lost image slot ≡ false)
          → Counts (is_free image slot) (is_lost image slot) (is_in_cut image slot)
      within some is =
          let one = held_or_faulty slot (reading_at slot) (λ none. not_closed s image slot is.0
          (closed_of_nothing (unit_of_slot s slot) (words_at image slot) none)) in
          rw (ne_eqb (epoch_at image slot) 0 some, is.0, is.1) (omega (arith, one))

  length_held : (o : Option Held) (rest : List Held) → length (cons_option o rest) ≡ marks o + length rest
  length_held None rest = omega arith
  length_held (Some r) rest = omega arith

  pub slots_counted : (slots : List ℕ)
      → count_by (is_free image) slots + count_by (is_lost image) slots + length (filter_map (record_at s image) slots)
      + count_by (is_faulty s image) slots ≡ length slots
  slots_counted [] = refl
  slots_counted (slot ∷ slots) =
      let free = sum_by-cons (λ k. cond (is_free image k) 1 0) slot slots in
      let lost = sum_by-cons (λ k. cond (is_lost image k) 1 0) slot slots in
      let held = length_held (record_at s image slot) (filter_map (record_at s image) slots) in
      let faulty = sum_by-cons (λ k. cond (is_faulty s image k) 1 0) slot slots in
      let one = one_of_four slot in
      let rest = slots_counted slots in
      omega (arith, free, lost, held, faulty, one, rest)

-- ---- what is counted of the records of a unit, and of its slots
pub record RecordParts (s : Shape) (image : List ℕ) (unit kept live deletes : ℕ) : Type 0 where
  pub all_kept : kept ≡ length (records_of s image unit)
  pub all_live : live ≡ count_by (is_live (records_of s image unit)) (records_of s image unit)
  pub all_deletes : deletes ≡ count_by is_anti_payload (records_of s image unit)

pub record SlotParts (s : Shape) (image : List ℕ) (unit free beyond slots : ℕ) : Type 0 where
  pub all_free : free ≡ count_by (is_free image) (slots_of s unit)
  pub all_beyond : beyond ≡ count_by (is_lost image) (slots_of s unit)
  pub all_slots : slots ≡ s.slots

pub record_parts : (s : Shape) (image : List ℕ) (unit : ℕ) (held front again : List Held) (objects : List Object) (kept live deletes : ℕ)
    → held ≡ records_of s image unit → kept ≡ length held → front ≡ held → objects ≡ live_objects front → live ≡ length objects
    → again ≡ held → deletes ≡ count_by is_anti_payload again → RecordParts s image unit kept live deletes
record_parts s image unit held front again objects kept live deletes found all same lives are too gone = record {
  all_kept = all ∙ ap (λ (rs : List Held). length rs) found;
  all_live = are ∙ ap (λ (os : List Object). length os) (lives ∙ ap live_objects (same ∙ found)) ∙ live_counted (records_of s image unit);
  all_deletes = gone ∙ ap (count_by is_anti_payload) (too ∙ found);
}

module _ (s : Shape) (image : List ℕ) (unit kept live deletes : ℕ) (r : RecordParts s image unit kept live deletes) where
  of_records : live + count_by (is_superseded (records_of s image unit)) (records_of s image unit) + deletes ≡ kept
  of_records =
      let whole = records_counted (records_of s image unit) (records_of s image unit) in
      omega (arith, r.all_kept, r.all_live, r.all_deletes, whole)

  pub lives_fit : live ≤ kept
  lives_fit = let whole = of_records in omega (arith, whole)

  pub deletes_fit : deletes ≤ kept - live
  deletes_fit = let whole = of_records in omega (arith, whole)

  module _ (free beyond slots : ℕ) (p : SlotParts s image unit free beyond slots) where
    of_slots : free + beyond + kept + count_by (is_faulty s image) (slots_of s unit) ≡ slots
    of_slots =
        let whole = slots_counted s image (slots_of s unit) in
        let long = length-range_with_len (unit * s.slots) s.slots in
        omega (arith, r.all_kept, p.all_free, p.all_beyond, p.all_slots, whole, long)

    pub free_fits : free ≤ slots
    free_fits = let whole = of_slots in omega (arith, whole)

    pub beyond_fits : beyond ≤ slots - free
    beyond_fits = let whole = of_slots in omega (arith, whole)

    pub kept_fits : kept ≤ slots - free - beyond
    kept_fits = let whole = of_slots in omega (arith, whole)

    pub are_counts : AreCounts s image unit (record {
      free = free;
      live = live;
      superseded = kept - live - deletes;
      anti_payloads = deletes;
      beyond = beyond;
      faulty = slots - free - beyond - kept;
    })
    are_counts =
        let records = of_records in
        let all = of_slots in
        record {
          free = p.all_free;
          live = r.all_live;
          superseded = omega (arith, records);
          anti_payloads = r.all_deletes;
          beyond = p.all_beyond;
          faulty = omega (arith, all);
          whole = omega (arith, records, all, p.all_slots);
        }
