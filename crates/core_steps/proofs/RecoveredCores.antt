-- The core that recovery opens with, and the structures, of each image that it accepts.
use Rattle.std.proofs.Common.{◌≡◌, ℕ, zero, suc, ◌+◌, ◌*◌, ◌<◌, ◌≤◌, Bool, true, List, [], ◌∷◌, length, map, refl, ap, ◌∙◌, subst, arith}
use Rattle.std.specs.Prelude.{slice_get, nat_lt, Some}
use Rattle.std.specs.List.{range_with_len}
use Rattle.std.proofs.lemmas.Bool.Decides.{nat_tests}
use Rattle.std.proofs.lemmas.List.{length-map}
use Rattle.std.proofs.lemmas.List.FromFn.{length-range_with_len}
use Rattle.std.proofs.lemmas.List.Kept.{AllPairs-filter}
use Rattle.std.proofs.lemmas.Option.{same_Some, slice_get_within}
use Rattle.mont_base.specs.Layout.{Shape, units_of}
use Rattle.mont_base.specs.Image.{cut_of, epoch_at, slots_of, records_of, IsWellFormed}
use Rattle.mont_base.specs.State.{State}
use Rattle.mont_base.specs.Structure.{IsStructure}
use Rattle.mont_base.specs.Versions.{live_objects}
use Rattle.mont_laws.proofs.Mapped.{range_rises}
use Rattle.mont_laws.proofs.Members.{kept_element, element_kept}
use Rattle.mont_laws.proofs.UnitSlots.{unit_of_member, member_of_unit}
use Rattle.core_steps.specs.Places.{EachAt}
use Rattle.core_steps.specs.Opened.{AreLeftOpen, IsRecoveredUnit, by_version, slots_beyond, recovered_unit, ImagesAreRecovered}
use Rattle.core_steps.proofs.RowFacts.{row_of_map}
use Rattle.core_steps.proofs.VersionOrder.{versions_rise, versions_same}

-- ---- lists by their places
-- so many items, each as it is wanted
list_of : {A : Type 0} (P : ℕ → A → Type 0) (n : ℕ) → ((i : ℕ) → i < n → (a : A) × P i a)
    → (all : List A) × (length all ≡ n) × EachAt P all
list_of P zero each = ([], refl, λ i a e. absurd (cc))
list_of {A = A} P (suc n) each =
    let first = each 0 (omega arith) in
    let rest = list_of (λ i a. P (suc i) a) n (λ i low. each (suc i) (omega arith)) in
    (first.0 ∷ rest.0, ap suc rest.1, at first.0 first.1 rest.0 rest.2)
  where
    at : (b : A) → P 0 b → (bs : List A) → EachAt (λ i a. P (suc i) a) bs → EachAt P (b ∷ bs)
    at b h bs later zero a e = subst (P 0) (same_Some b a e) h
    at b h bs later (suc i) a e = later i a e

-- a range has its numbers at their places
range_at : (a n i x : ℕ) → slice_get (range_with_len a n) i ≡ Some x → i + a ≡ x
range_at a zero i x e = absurd (cc)
range_at a (suc n) zero x e = let is = same_Some a x e in omega (arith, is)
range_at a (suc n) (suc i) x e = let is = range_at (a + 1) n i x e in omega (arith, is)

-- ---- the slots beyond the cut
module _ (s : Shape) (image : List ℕ) (u : ℕ) (some : 1 ≤ s.slots) where
  abbrev is_beyond : ℕ → Bool
  is_beyond slot = nat_lt (cut_of image) (epoch_at image slot)

  beyond : (slot : ℕ) → is_beyond slot ≡ true → cut_of image < epoch_at image slot
  beyond slot e = grind (arith, nat_tests)

  is_so : (slot : ℕ) → cut_of image < epoch_at image slot → is_beyond slot ≡ true
  is_so slot l = grind (arith, nat_tests)

  beyond_are_open : AreLeftOpen s image u (slots_beyond s image u)
  beyond_are_open = record {
    members = λ slot. (
      (λ h. let k = kept_element is_beyond slot (slots_of s u) h in (unit_of_member s u slot some k.0, beyond slot k.1)),
      (λ h. element_kept is_beyond slot (slots_of s u) (member_of_unit s u slot some h.0) (is_so slot h.1)),
    );
    rising = AllPairs-filter (λ (a b : ℕ). a < b) is_beyond (slots_of s u) (range_rises (u * s.slots) s.slots);
  }

-- ---- the whole core
module _ (s : Shape) (image : List ℕ) (well : IsWellFormed s image) where
  some_slots : 1 ≤ s.slots
  some_slots = let l = well.layout.some_slots in omega arith

  unit_at : (u : ℕ) → u < units_of s → IsRecoveredUnit s image u (recovered_unit s image u)
  unit_at u low = record {
    stage = refl;
    history = refl;
    records = refl;
    retired = record {
      sorted = by_version (records_of s image u);
      rising = versions_rise (records_of s image u);
      same = versions_same (records_of s image u) (well.apart u low);
      is = refl;
    };
    written = refl;
    writing = refl;
    lost = beyond_are_open s image u some_slots;
    durable = refl;
    frozen = refl;
  }

  units_at : EachAt (IsRecoveredUnit s image) (map (recovered_unit s image) (range_with_len 0 (units_of s)))
  units_at u p e =
      let from = row_of_map (recovered_unit s image) (range_with_len 0 (units_of s)) u p e in
      let found = range_at 0 (units_of s) u from.0 from.1 in
      let is : u ≡ from.0 = omega (arith, found) in
      let within = slice_get_within (range_with_len 0 (units_of s)) u from.0 from.1 in
      let low : u < units_of s = subst (λ n. u < n) (length-range_with_len 0 (units_of s)) within in
      subst (IsRecoveredUnit s image u) (ap (recovered_unit s image) is ∙ from.2) (unit_at u low)

pub images_are_recovered : ImagesAreRecovered
images_are_recovered s image callers well = (
  record {
    layout = refl;
    current = refl;
    durable = refl;
    told = refl;
    unit_count = length-map (range_with_len 0 (units_of s)) (recovered_unit s image) ∙ length-range_with_len 0 (units_of s);
    units = units_at s image well;
    advancer = refl;
    odd = refl;
    caller_parts = refl;
  },
  (states.0, (states.1, states.2)),
)
  where
    states : (all : List State) × (length all ≡ units_of s)
        × EachAt (λ u (state : State). IsStructure s u (live_objects (records_of s image u)) state) all
    states = list_of (λ u (state : State). IsStructure s u (live_objects (records_of s image u)) state) (units_of s) well.defined
