-- Which slots are a unit's, with k slots for each unit.
use Rattle.std.proofs.Common.{◌≡◌, ℕ, ◌+◌, ◌*◌, ◌/◌, ◌<◌, ◌≤◌, ⊎_elim, arith}
use Rattle.std.specs.List.{Contains}
use Rattle.std.proofs.lemmas.Bool.{cases_lt}
use Rattle.std.proofs.lemmas.List.FromFn.{length-range_with_len}
use Rattle.std.proofs.Math.Nat.{div-lt_iff_lt-mul}
use Rattle.mont_base.specs.Layout.{Shape, unit_of_slot}
use Rattle.mont_base.specs.Image.{slots_of}
use Rattle.mont_laws.specs.SlotWords.{UnitsHaveSlots, SlotsHaveUnits}
use Rattle.mont_laws.proofs.Mapped.{range_bounds, in_range, range_rises}

slot_of_range : (k u slot : ℕ) → 1 ≤ k → u * k ≤ slot → slot < u * k + k → slot / k ≡ u
slot_of_range k u slot some low high =
    let more : (u + 1) * k ≡ u * k + k = grind arith in
    let below : slot / k < u + 1 = (div-lt_iff_lt-mul some).1 (omega arith) in
    ⊎_elim
    (λ (l : slot / k < u). let short : slot < u * k = (div-lt_iff_lt-mul some).0 l in absurd (omega arith))
    (λ (l : u ≤ slot / k). omega arith)
    (cases_lt (slot / k) u)

range_of_slot : (k u slot : ℕ) → 1 ≤ k → slot / k ≡ u → (u * k ≤ slot) × (slot < u * k + k)
range_of_slot k u slot some is =
    let more : (u + 1) * k ≡ u * k + k = grind arith in
    let below : slot < (u + 1) * k = (div-lt_iff_lt-mul some).0 (omega arith) in
    let above : u * k ≤ slot = ⊎_elim
    (λ (l : slot < u * k). let short : slot / k < u = (div-lt_iff_lt-mul some).1 l in absurd (omega arith))
    (λ (l : u * k ≤ slot). l)
    (cases_lt slot (u * k)) in
    (above, omega arith)

-- the slots of a unit are those of its range
pub unit_of_member : (s : Shape) (unit slot : ℕ) → 1 ≤ s.slots → Contains (slots_of s unit) slot → unit_of_slot s slot ≡ unit
unit_of_member s unit slot some h =
    let range = range_bounds slot (unit * s.slots) s.slots h in slot_of_range s.slots unit slot some range.0 range.1

pub member_of_unit : (s : Shape) (unit slot : ℕ) → 1 ≤ s.slots → unit_of_slot s slot ≡ unit → Contains (slots_of s unit) slot
member_of_unit s unit slot some is =
    let range = range_of_slot s.slots unit slot some is in in_range slot (unit * s.slots) s.slots range.0 range.1

pub units_have_slots : UnitsHaveSlots
units_have_slots s unit some = record {
  many = length-range_with_len (unit * s.slots) s.slots;
  rising = range_rises (unit * s.slots) s.slots;
  members = λ slot. (
    λ h. unit_of_member s unit slot some (h),
    λ is. member_of_unit s unit slot some is,
  );
}

pub slots_have_units : SlotsHaveUnits
slots_have_units s slot some = ((div-lt_iff_lt-mul some).1, (div-lt_iff_lt-mul some).0)
