-- Which records have their slots in the list that an advance writes back.
use Rattle.std.proofs.Common.{◌≡◌, ℕ, zero, suc, ◌<◌, List, [], ◌∷◌, ◌++◌, length, map, set, sym, refl, ap, ◌∙◌, subst, ⊎_elim}
use Rattle.std.specs.Prelude.{slice_get, Some, ◌==◌, filter}
use Rattle.std.specs.List.{Contains, flat_map}
use Rattle.std.proofs.lemmas.Bool.{eqb-true, eq-eqb}
use Rattle.std.proofs.lemmas.List.Elements.{Contains-append_left, Contains-append_right, Contains-append_cases}
use Rattle.std.proofs.lemmas.Option.{same_Some, slice_get_within, get_or_from_slice_get, slice_get_read}
use Rattle.mont_base.specs.declared.record.Held.{Held}
use Rattle.mont_laws.proofs.Members.{no_element, first_element, later_element, element_cases, kept_element, element_kept}
use Rattle.core_steps.specs.declared.parts.UnitPart.{UnitPart}
use Rattle.core_steps.specs.Flushing.{unit_list, all_listed}

-- the item at a place is in the list, and each item of the list is at a place
pub at_in : {A : Type 0} → (xs : List A) (i : ℕ) (x : A) → slice_get xs i ≡ Some x → Contains xs x
at_in xs i x e = (i, slice_get_within xs i x e, get_or_from_slice_get xs i x x e)

pub in_at : {A : Type 0} → (xs : List A) (x : A) → Contains xs x → (i : ℕ) × (i < length xs) × (slice_get xs i ≡ Some x)
in_at xs x h = (h.0, h.1, slice_get_read xs (length xs) h.0 x refl h.1 (sym h.2))

-- the slots of records
in_slots : (rs : List Held) (n : ℕ) → Contains (map (λ (r : Held). r.slot) rs) n → (r : Held) × (r.slot ≡ n) × Contains rs r
in_slots [] n h = absurd (no_element n h)
in_slots (r ∷ rs) n h = ⊎_elim
    (λ (e : n ≡ r.slot). (r, sym e, first_element r rs))
    (λ (k : Contains (map (λ (r : Held). r.slot) rs) n). let m = in_slots rs n k in (m.0, m.1, later_element r rs m.0 m.2))
    (element_cases r.slot (map (λ (r : Held). r.slot) rs) n h)

slots_in : (rs : List Held) (r : Held) → Contains rs r → Contains (map (λ (r : Held). r.slot) rs) r.slot
slots_in [] r h = absurd (no_element r h)
slots_in (q ∷ rs) r h = ⊎_elim
    (λ (e : r ≡ q).
    subst (λ (n : ℕ). Contains (q.slot ∷ map (λ (r : Held). r.slot) rs) n) (ap (λ (x : Held). x.slot) (sym e))
    (first_element q.slot (map (λ (r : Held). r.slot) rs)))
    (λ (k : Contains rs r). later_element q.slot (map (λ (r : Held). r.slot) rs) r.slot (slots_in rs r k))
    (element_cases q rs r h)

-- the items of the lists that parts give
in_flat :
    (g : UnitPart → List ℕ) (ps : List UnitPart) (n : ℕ) → Contains (flat_map g ps) n
    → (u : ℕ) × (p : UnitPart) × (slice_get ps u ≡ Some p) × Contains (g p) n
in_flat g [] n h = absurd (no_element n h)
in_flat g (p ∷ ps) n h = ⊎_elim
    (λ (k : Contains (g p) n). (0, p, refl, k))
    (λ (k : Contains (flat_map g ps) n). let r = in_flat g ps n k in (suc r.0, r.1, r.2, r.3))
    (Contains-append_cases (g p) (flat_map g ps) n h)

flat_in :
    (g : UnitPart → List ℕ) (ps : List UnitPart) (n u : ℕ) (p : UnitPart) → slice_get ps u ≡ Some p → Contains (g p) n
    → Contains (flat_map g ps) n
flat_in g [] n u p e h = absurd (cc)
flat_in g (q ∷ ps) n zero p e h =
    Contains-append_left (g q) (flat_map g ps) n (subst (λ (x : UnitPart). Contains (g x) n) (sym (same_Some q p e)) h)
flat_in g (q ∷ ps) n (suc u) p e h = Contains-append_right (g q) (flat_map g ps) n (flat_in g ps n u p e h)

flat_set :
    (g : UnitPart → List ℕ) (ps : List UnitPart) (u : ℕ) (p q : UnitPart) → slice_get ps u ≡ Some p → g q ≡ g p
    → flat_map g (set ps u q) ≡ flat_map g ps
flat_set g [] u p q e same = refl
flat_set g (x ∷ ps) zero p q e same = ap (λ (l : List ℕ). l ++ flat_map g ps) (same ∙ ap g (sym (same_Some x p e)))
flat_set g (x ∷ ps) (suc u) p q e same = ap (λ (l : List ℕ). g x ++ l) (flat_set g ps u p q e same)

-- a listed slot is that of a record of the epoch
pub record IsListed (x : ℕ) (units : List UnitPart) (slot : ℕ) : Type 0 where
  pub unit : ℕ
  pub part : UnitPart
  pub held : Held
  pub at : slice_get units unit ≡ Some part
  pub there : Contains part.records held
  pub in_slot : held.slot ≡ slot
  pub of_epoch : held.label.epoch ≡ x

pub of_listed : (x : ℕ) (units : List UnitPart) (slot : ℕ) → Contains (all_listed x units) slot → IsListed x units slot
of_listed x units slot h =
    let at = in_flat (unit_list x) units slot h in
    let m = in_slots (filter (λ (r : Held). r.label.epoch == x) at.1.records) slot at.3 in
    let k = kept_element (λ (r : Held). r.label.epoch == x) m.0 at.1.records m.2 in record {
      unit = at.0;
      part = at.1;
      held = m.0;
      at = at.2;
      there = k.0;
      in_slot = m.1;
      of_epoch = eqb-true m.0.label.epoch x k.1;
    }

-- and each record of the epoch has its slot listed
pub in_listed :
    (x : ℕ) (units : List UnitPart) (u : ℕ) (p : UnitPart) (r : Held) → slice_get units u ≡ Some p → Contains p.records r
    → r.label.epoch ≡ x → Contains (all_listed x units) r.slot
in_listed x units u p r at h is = flat_in (unit_list x) units r.slot u p at
    (slots_in (filter (λ (q : Held). q.label.epoch == x) p.records) r
    (element_kept (λ (q : Held). q.label.epoch == x) r p.records h (eq-eqb r.label.epoch x is)))

-- a part with the same list leaves the whole list
pub listed_set :
    (x : ℕ) (units : List UnitPart) (u : ℕ) (p q : UnitPart) → slice_get units u ≡ Some p → unit_list x q ≡ unit_list x p
    → all_listed x (set units u q) ≡ all_listed x units
listed_set x units u p q at same = flat_set (unit_list x) units u p q at same
