-- Versions that stand twice among the records of all units, and those of each unit.
use Rattle.std.proofs.Common.{◌≡◌, ℕ, ◌*◌, ◌<◌, ◌≤◌, List, get_or, refl, sym, ap, ◌∙◌, subst, arith, inl, inr, ◌⊎◌}
use Rattle.std.specs.Prelude.{Option, Some, AllPairs}
use Rattle.std.specs.List.{Contains, filter_map}
use Rattle.std.proofs.lemmas.List.Elements.{Contains-get_or}
use Rattle.mont_base.specs.declared.record.Held.{Held}
use Rattle.mont_base.specs.Image.{DiffersFrom, slots_of}
use Rattle.mont_base.specs.Layout.{Shape, total_of, unit_of_slot, units_of}
use Rattle.mont_laws.specs.UnitRecords.{HasLowerSlot}
use Rattle.mont_laws.proofs.Mapped.{mapped_from, mapped_to, in_range, range_bounds}
use Rattle.mont_laws.proofs.Members.{pair_cases}
use Rattle.mont_laws.proofs.UnitSlots.{member_of_unit, slots_have_units, unit_of_member}
use Rattle.scan.specs.Scanned.{all_slots}
use Rattle.image_units.specs.UnitSlots.{slot_of}
use Rattle.image_units.specs.FoundVersions.{HasNoRepeat, Repeats}
use Rattle.image_units.proofs.UnitParts.{slots_rise}

-- what each slot holds of its unit, if it holds a record
module _ (s : Shape) (held : ℕ → Option Held) (at_slot : (slot : ℕ) (r : Held) → held slot ≡ Some r → r.slot ≡ slot) where
  abbrev pub all_held : List Held
  all_held = filter_map held (all_slots s)

  abbrev pub held_of : ℕ → List Held
  held_of unit = filter_map held (slots_of s unit)

  pub all_rise : AllPairs HasLowerSlot all_held
  all_rise = slots_rise held slot_of at_slot 0 (total_of s)

  module _ (of_unit : (slot : ℕ) (r : Held) → held slot ≡ Some r → r.label.unit ≡ unit_of_slot s slot) (some : 1 ≤ s.slots) where
    -- a unit's record is one of all
    one_of_all : (unit : ℕ) (r : Held) → unit < units_of s → Contains (held_of unit) r → Contains all_held r × (r.label.unit ≡ unit)
    one_of_all unit r inside h =
        let at = mapped_from held r (slots_of s unit) h in
        let there = unit_of_member s unit at.0 some at.1 in
        let within = (slots_have_units s at.0 some).1 (subst (λ (u : ℕ). u < units_of s) (sym there) inside) in (
          mapped_to held at.0 r (all_slots s) (in_range at.0 0 (total_of s) (omega arith) (omega arith)) at.2,
          of_unit at.0 r at.2 ∙ there,
        )

    -- and each of all is its unit's
    one_of_unit : (r : Held) → Contains all_held r → (r.label.unit < units_of s) × Contains (held_of r.label.unit) r
    one_of_unit r h =
        let at = mapped_from held r (all_slots s) h in
        let inside = (range_bounds at.0 0 (total_of s) at.1).1 in
        let there = of_unit at.0 r at.2 in (
          subst (λ (u : ℕ). u < units_of s) (sym there) ((slots_have_units s at.0 some).0 (omega arith)),
          mapped_to held at.0 r (slots_of s r.label.unit) (member_of_unit s r.label.unit at.0 some (sym there)) at.2,
        )

    pub units_apart : HasNoRepeat all_held → (unit : ℕ) → unit < units_of s → AllPairs DiffersFrom (held_of unit)
    units_apart none unit inside i j d low high same =
        let earlier = get_or (held_of unit) i d in
        let later = get_or (held_of unit) j d in
        let a = one_of_all unit earlier inside (Contains-get_or (held_of unit) i d (omega arith)) in
        let b = one_of_all unit later inside (Contains-get_or (held_of unit) j d high) in
        none later.slot earlier.slot (record {
          later = later;
          earlier = earlier;
          has_later = b.0;
          has_earlier = a.0;
          stands = refl;
          stood = refl;
          lower = slots_rise held slot_of at_slot (unit * s.slots) s.slots i j d low high;
          same = record { unit = b.1 ∙ sym a.1; identity = sym same.0; version = sym same.1 };
        })

    pub repeats_refuse : (slot other : ℕ) → Repeats all_held slot other
        → ((unit : ℕ) → unit < units_of s → AllPairs DiffersFrom (held_of unit)) → ⊥
    repeats_refuse slot other h apart =
        let unit = h.later.label.unit in
        let a = one_of_unit h.later h.has_later in
        let b = one_of_unit h.earlier h.has_earlier in
        let there = subst (λ (u : ℕ). Contains (held_of u) h.earlier) (sym h.same.unit) b.1 in
        by (pair_cases DiffersFrom (held_of unit) h.later h.earlier (apart unit a.0) a.1 there)
      where
        by : (h.later ≡ h.earlier) ⊎ (DiffersFrom h.later h.earlier ⊎ DiffersFrom h.earlier h.later) → ⊥
        by (inl e) =
            let same : h.later.slot ≡ h.earlier.slot = ap (λ (r : Held). r.slot) e in
            absurd (omega (arith, h.stands, h.stood, h.lower))
        by (inr (inl differs)) = differs (h.same.identity, h.same.version)
        by (inr (inr differs)) = differs (sym h.same.identity, sym h.same.version)
