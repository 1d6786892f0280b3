-- When an image is well-formed, unit by unit.
use Rattle.std.proofs.Common.{◌≡◌, ℕ, ◌+◌, ◌*◌, ◌%◌, ◌≤◌, ◌<◌, ◌==◌, Bool, true, false, ◌/◌, List, [], length, map, get_or, sym, ap, subst, ◌∙◌, arith, eq-eqb}
use Rattle.std.specs.Prelude.{◌↔◌, IsTrue, AllPairs}
use Rattle.std.specs.Bool.{Decides}
use Rattle.std.specs.Cmp.{eq_by_cmp_equiv}
use Rattle.std.specs.Ordering.{eq_by_cmp}
use Rattle.std.specs.BTreeSet.{BTreeSet, IsFromIterResult, btree_set_len}
use Rattle.std.proofs.Math.Nat.{mod-lt}
use Rattle.std.proofs.lemmas.Nat.{div-mul-add, div-add-mod'}
use Rattle.std.proofs.lemmas.List.{length-map, get_or-map}
use Rattle.std.proofs.lemmas.Bool.Decides.{Decides-eqb}
use Rattle.std.proofs.lemmas.Map.Views.{tells_apart, btree_set_len-from_list}
use Rattle.std.proofs.lemmas.Map.Made.{IsDistinct-from_count, distinct_count-from_IsDistinct, AllPairs-from_IsDistinct, IsDistinct-from_AllPairs}
use Rattle.mont_base.specs.declared.record.Held.{Held}
use Rattle.mont_base.specs.declared.record.Kind.TheVariants as kinds
use Rattle.mont_base.specs.declared.constants.TheConstants.{LEAST_SLOTS}
use Rattle.mont_base.specs.Layout.{Shape, IsLayout, units_of, unit_of_slot}
use Rattle.mont_base.specs.State.{edge_cmp}
use Rattle.mont_base.specs.Image.{DiffersFrom, IsWellFormed}
use Rattle.plain.specs.Acceptable.{HasClock, IsReadable, IsAcceptableUnit, Reads, version_key}
use Rattle.plain.proofs.Maps.{edges_total, edges_differ}

module _ (s : Shape) (image : List ℕ) where
  -- a place of a unit is a slot of it
  pub slot_of_unit : (unit place slots : ℕ) → slots ≡ s.slots → place < slots → unit_of_slot s (unit * slots + place) ≡ unit
  slot_of_unit unit place slots same within =
      subst (λ (n : ℕ). (unit * slots + place) / n ≡ unit) same (div-mul-add unit slots place within)

  pub unread : (unit place slots : ℕ) (result : Bool) → slots ≡ s.slots → place < slots
      → IsTrue result ↔ Reads image unit (unit * slots + place) → result ≡ false → IsReadable s image unit → IsTrue false
  unread unit place slots result same within decided refused all = sym refused
      ∙ decided.1 (all (unit * slots + place) (slot_of_unit unit place slots same within))

  -- each slot of a unit is at one of its places
  pub each_place : (unit : ℕ) → LEAST_SLOTS ≤ s.slots → ((place : ℕ) → place < s.slots → Reads image unit (unit * s.slots + place))
      → IsReadable s image unit
  each_place unit some each slot is =
      let back : unit * s.slots + slot % s.slots ≡ slot =
      subst (λ (u : ℕ). u * s.slots + slot % s.slots ≡ slot) is (div-add-mod' slot s.slots) in
      subst (λ (n : ℕ). Reads image unit n) back (each (slot % s.slots) (mod-lt slot (omega arith)))

  pub well_formed : IsLayout s → HasClock s image → ((unit : ℕ) → unit < units_of s → IsAcceptableUnit s image unit) → IsWellFormed s image
  well_formed layout clock each = record {
    layout = layout;
    size = clock.size;
    clock_begun = clock.begun;
    clock_last = clock.last;
    readable = λ unit slot u is. (each unit u).readable slot is;
    apart = λ unit u. (each unit u).apart;
    defined = λ unit u. (each unit u).defined;
  }

  pub clock_of_well_formed : IsWellFormed s image → HasClock s image
  clock_of_well_formed h = record { size = h.size; begun = h.clock_begun; last = h.clock_last }

  pub unit_of_well_formed : IsWellFormed s image → (unit : ℕ) → unit < units_of s → IsAcceptableUnit s image unit
  unit_of_well_formed h unit u =
      record { readable = λ slot is. h.readable unit slot u is; apart = h.apart unit u; defined = h.defined unit u }

one_edge : (a b : ℕ × ℕ) → Decides (eq_by_cmp edge_cmp a b) (a ≡ b)
one_edge a b =
    (tells_apart edges_differ a b, λ e. subst (λ (c : ℕ × ℕ). eq_by_cmp edge_cmp a c ≡ true) e ((eq_by_cmp_equiv edges_total).refl a))

abbrev Differ : ℕ × ℕ → ℕ × ℕ → Type 0
Differ a b = a ≡ b → ⊥

module _ (held : List Held) where
  some_held : ℕ × ℕ → Held
  some_held k = record { slot = 0; label = record { epoch = 0; kind = kinds.New; unit = 0; identity = k.0; version = k.1 }; body = [] }

  records_apart : AllPairs Differ (map version_key held) → AllPairs DiffersFrom held
  records_apart h i j d lt within same =
      h i j (version_key d) lt (rw length-map within)
      (get_or-map version_key held i d (version_key d) (omega arith) ∙ (λ t. (same.0 t, same.1 t))
      ∙ sym (get_or-map version_key held j d (version_key d) within))

  keys_apart : AllPairs DiffersFrom held → AllPairs Differ (map version_key held)
  keys_apart h i j k lt within same =
      let inside : j < length held = omega (arith, length-map held version_key) in
      let d = some_held k in
      let e : version_key (get_or held i d) ≡ version_key (get_or held j d) = sym (get_or-map version_key held i d k (omega arith)) ∙ same
      ∙ get_or-map version_key held j d k inside in
      h i j d lt inside (ap (λ (p : ℕ × ℕ). p.0) e, ap (λ (p : ℕ × ℕ). p.1) e)

  -- no version stands twice where there are as many versions as records
  pub apart_by_count : (versions : BTreeSet (ℕ × ℕ)) (n : ℕ) → IsFromIterResult edge_cmp (map version_key held) versions
      → n ≡ btree_set_len versions → IsTrue (n == length held) ↔ AllPairs DiffersFrom held
  apart_by_count versions n made counted =
      let laws = eq_by_cmp_equiv edges_total in
      let keys = map version_key held in
      let long = length-map held version_key in
      let distinct = counted ∙ btree_set_len-from_list edges_total keys versions made in (
        λ e. records_apart (AllPairs-from_IsDistinct one_edge keys (IsDistinct-from_count laws keys (sym distinct
            ∙ (Decides-eqb n (length held)).0 e ∙ sym long))),
        λ h. eq-eqb n (length held) (distinct
            ∙ distinct_count-from_IsDistinct laws keys (IsDistinct-from_AllPairs one_edge keys (keys_apart h)) ∙ long),
      )
