-- Why a unit's list has room for all that it writes: slots of records and of what was written are apart,
-- and all are of the unit.
use Rattle.std.proofs.Common.{◌≡◌, ◌≢◌, ℕ, zero, suc, ◌+◌, ◌-◌, ◌*◌, ◌<◌, ◌≤◌, List, [], ◌∷◌, ◌++◌, length, map, get_or, refl, subst, ⊎_elim, arith, Bool, true, false, cond, length-append, eqb, ne_eqb}
use Rattle.std.specs.Prelude.{slice_get, Some, All, AllPairs, filter, ◌==◌}
use Rattle.std.specs.List.{Contains, IsDistinct, AllByRecursion, list_any}
use Rattle.std.proofs.lemmas.Bool.{eqb-true}
use Rattle.std.proofs.lemmas.List.{length-map}
use Rattle.std.proofs.lemmas.Option.{same_Some}
use Rattle.std.proofs.lemmas.List.Elements.{Contains-append_cases}
use Rattle.std.proofs.lemmas.Map.Steps.{length-le_from_distinct_below}
use Rattle.atomic_table.specs.Table.{State}
use Rattle.mont_base.specs.declared.record.Held.{Held}
use Rattle.mont_base.specs.Layout.{total_of, unit_of_slot}
use Rattle.mont_laws.proofs.Mapped.{range_bounds}
use Rattle.mont_laws.proofs.Members.{no_element, first_element, later_element, element_cases, all_elements, kept_element}
use Rattle.mont_laws.proofs.UnitSlots.{member_of_unit}
use Rattle.core_steps.specs.declared.parts.UnitPart.{UnitPart}
use Rattle.core_steps.specs.Clock.{clock}
use Rattle.core_steps.specs.Stages.{epoch_of}
use Rattle.core_steps.specs.Flushing.{unit_list, all_listed}
use Rattle.core_steps.proofs.Decisions.{either_true}
use Rattle.core_steps.proofs.FlushLists.{in_at}
use Rattle.core_steps.proofs.RoleFacts.{record_inside, record_unit, written_unit, written_no_record, new_slots}
use Rattle.core_steps.proofs.StoreLaws.{some_slots}
use Rattle.heap_rule.specs.declared.rule.Opening.{Opening}
use Rattle.heap_rule.specs.declared.views.View.{View}
use Rattle.heap_rule.specs.Views.{Cell}
use Rattle.heap_rule.specs.Rule.{ShowsCore}

-- ---- records in slots of their own, each with those after it
abbrev Apart : List Held → Type 0
Apart [] = Unit {0}
Apart (r ∷ rs) = ((q : Held) → Contains rs q → r.slot ≢ q.slot) × Apart rs

apart_from : (rs : List Held) → AllPairs (λ (r q : Held). r.slot ≢ q.slot) rs → Apart rs
apart_from [] a = tt
apart_from (r ∷ rs) a = (
  λ q h. let i = in_at rs q h in
      let inside = i.1 in
      subst (λ (z : Held). r.slot ≢ z.slot) (slice_get_at rs i.0 q r i.2) (a 0 (suc i.0) r (omega arith) (omega arith)),
  apart_from rs (λ i j d l m. a (suc i) (suc j) d (omega arith) (omega arith)),
)
  where
    slice_get_at : (xs : List Held) (i : ℕ) (x d : Held) → slice_get xs i ≡ Some x → get_or xs i d ≡ x
    slice_get_at [] i x d e = absurd (cc)
    slice_get_at (y ∷ ys) zero x d e = same_Some y x e
    slice_get_at (y ∷ ys) (suc i) x d e = slice_get_at ys i x d e

apart_filter : (P : Held → Bool) (rs : List Held) → Apart rs → Apart (filter P rs)
apart_filter P [] a = tt
apart_filter P (r ∷ rs) a = by (P r) (apart_filter P rs a.1)
  where
    by : (b : Bool) → Apart (filter P rs) → Apart (cond b (r ∷ filter P rs) (filter P rs))
    by true rest = ((λ q h. a.0 q (kept_element P q rs h).0), rest)
    by false rest = rest

apart_append : (rs ws : List Held) → Apart rs → Apart ws → ((r w : Held) → Contains rs r → Contains ws w → r.slot ≢ w.slot)
    → Apart (rs ++ ws)
apart_append [] ws a b off = b
apart_append (r ∷ rs) ws a b off = (
  λ q h. ⊎_elim (λ (x : Contains rs q). a.0 q x) (λ (x : Contains ws q). off r q (first_element r rs) x)
      (Contains-append_cases rs ws q h),
  apart_append rs ws a.1 b (λ x w h k. off x w (later_element r rs x h) k),
)

-- ---- slots counted from the unit's first
abbrev from_first : ℕ → Held → ℕ
from_first b r = r.slot - b

others : (b : ℕ) (r : Held) (rs : List Held) → b ≤ r.slot → ((q : Held) → Contains rs q → (b ≤ q.slot) × (r.slot ≢ q.slot))
    → AllByRecursion (λ y. eqb (from_first b r) y ≡ false) (map (from_first b) rs)
others b r [] low all = tt
others b r (q ∷ qs) low all =
    let first = all q (first_element q qs) in
    let above = first.0 in (
      ne_eqb (from_first b r) (from_first b q) (λ e. first.1 (omega arith)),
      others b r qs low (λ x h. all x (later_element q qs x h)),
    )

distinct_slots : (b : ℕ) (rs : List Held) → Apart rs → ((r : Held) → Contains rs r → b ≤ r.slot) → IsDistinct eqb (map (from_first b) rs)
unfolding IsDistinct
distinct_slots b [] a low = tt
distinct_slots b (r ∷ rs) a low = (
  others b r rs (low r (first_element r rs)) (λ q h. (low q (later_element r rs q h), a.0 q h)),
  distinct_slots b rs a.1 (λ q h. low q (later_element r rs q h)),
)

slots_below : (b n : ℕ) (rs : List Held) → ((r : Held) → Contains rs r → (b ≤ r.slot) × (r.slot < b + n)) → (q : ℕ)
    → list_any (eqb q) (map (from_first b) rs) ≡ true → q < n
slots_below b n [] within q e = absurd (cc)
slots_below b n (r ∷ rs) within q e = ⊎_elim
    (λ (z : eqb q (from_first b r) ≡ true).
    let is = eqb-true q (from_first b r) z in
    let range = within r (first_element r rs) in
    let low = range.0 in
    let high = range.1 in
    omega arith)
    (λ (z : list_any (eqb q) (map (from_first b) rs) ≡ true). slots_below b n rs (λ x h. within x (later_element r rs x h)) q z)
    (either_true (eqb q (from_first b r)) (list_any (eqb q) (map (from_first b) rs)) e)

-- so many slots are enough
enough : (b n : ℕ) (rs : List Held) → Apart rs → ((r : Held) → Contains rs r → (b ≤ r.slot) × (r.slot < b + n)) → length rs ≤ n
enough b n rs a within =
    let many = length-map rs (from_first b) in
    let few = length-le_from_distinct_below (map (from_first b) rs) n (distinct_slots b rs a (λ r h. (within r h).0))
    (slots_below b n rs within) in
    omega arith

-- ---- of a sound core
module _ (o : Opening) (s : State Cell View) (k : ShowsCore o s) (u : ℕ) (p : UnitPart) (at : slice_get k.board.core.units u
    ≡ Some p) where
  in_unit : (slot : ℕ) → unit_of_slot k.board.core.layout slot ≡ u
      → (u * k.board.core.layout.slots ≤ slot) × (slot < u * k.board.core.layout.slots + k.board.core.layout.slots)
  in_unit slot is =
      let l = k.board.core.layout in
      range_bounds slot (u * l.slots) l.slots (member_of_unit l u slot (some_slots l k.sound.sizes.layout) is)

  has_room_of : length (unit_list (epoch_of p.stage) p) + length p.written ≤ k.board.core.layout.slots
  has_room_of =
      let core = k.board.core in
      let of_epoch = filter (λ (r : Held). r.label.epoch == epoch_of p.stage) p.records in
      let rs : List Held = of_epoch ++ p.written in
      let apart : Apart rs = apart_append of_epoch p.written
      (apart_filter (λ (r : Held). r.label.epoch == epoch_of p.stage) p.records (apart_from p.records
      (k.sound.units u p at).versions.apart.slots))
      (apart_from p.written (new_slots core.layout (clock core) core.cur core.dur core.units u p k.sound.slots at).apart)
      (λ r w h j. written_no_record core.layout (clock core) core.cur core.dur core.units u p k.sound.slots at w r j
      (kept_element (λ (r : Held). r.label.epoch == epoch_of p.stage) r p.records h).0) in
      let few = enough (u * core.layout.slots) core.layout.slots rs apart
      (λ r h. in_unit r.slot (⊎_elim
      (λ (x : Contains of_epoch r). record_unit core.layout (clock core) core.cur core.dur core.units u p k.sound.slots at r
      (kept_element (λ (r : Held). r.label.epoch == epoch_of p.stage) r p.records x).0)
      (λ (x : Contains p.written r). written_unit core.layout (clock core) core.cur core.dur core.units u p k.sound.slots at r x)
      (Contains-append_cases of_epoch p.written r h))) in
      let both = length-append of_epoch p.written in
      let many = length-map of_epoch (λ (r : Held). r.slot) in
      omega arith

  pub has_room : (room : ℕ) → k.board.core.layout.slots ≡ room → length (unit_list (epoch_of p.stage) p) + length p.written ≤ room
  has_room room is = subst (λ (n : ℕ). length (unit_list (epoch_of p.stage) p) + length p.written ≤ n) is has_room_of

  -- and so are the unit's own for all that it lists
  pub lists_few : (x : ℕ) → length (unit_list x p) ≤ k.board.core.layout.slots
  lists_few x =
      let core = k.board.core in
      let of_epoch = filter (λ (r : Held). r.label.epoch == x) p.records in
      let few = enough (u * core.layout.slots) core.layout.slots of_epoch
      (apart_filter (λ (r : Held). r.label.epoch == x) p.records (apart_from p.records
      (k.sound.units u p at).versions.apart.slots))
      (λ r h. in_unit r.slot (record_unit core.layout (clock core) core.cur core.dur core.units u p k.sound.slots at r
      (kept_element (λ (r : Held). r.label.epoch == x) r p.records h).0)) in
      let many = length-map of_epoch (λ (r : Held). r.slot) in
      omega arith

  -- what a unit lists are slots of the store
  pub lists_inside : (x : ℕ) → All (λ slot. slot < total_of k.board.core.layout) (unit_list x p)
  lists_inside x = all_elements (λ slot. slot < total_of k.board.core.layout) (unit_list x p)
      (λ slot h. by (filter (λ (r : Held). r.label.epoch == x) p.records)
      (λ r j. record_inside k.board.core.layout (clock k.board.core) k.board.core.cur k.board.core.dur k.board.core.units u p
      k.sound.slots at r
      (kept_element (λ (r : Held). r.label.epoch == x) r p.records j).0) slot h)
    where
      by : (rs : List Held) → ((r : Held) → Contains rs r → r.slot < total_of k.board.core.layout) → (slot : ℕ)
          → Contains (map (λ (r : Held). r.slot) rs) slot → slot < total_of k.board.core.layout
      by [] all slot h = absurd (no_element slot h)
      by (r ∷ rs) all slot h = ⊎_elim
          (λ (e : slot ≡ r.slot). let l = all r (first_element r rs) in omega arith)
          (λ (j : Contains (map (λ (r : Held). r.slot) rs) slot). by rs (λ q i. all q (later_element r rs q i)) slot j)
          (element_cases r.slot (map (λ (r : Held). r.slot) rs) slot h)

-- ---- of all units together
pub all_few : (x m : ℕ) (ps : List UnitPart) → ((u : ℕ) (p : UnitPart) → slice_get ps u ≡ Some p → length (unit_list x p) ≤ m)
    → length (all_listed x ps) ≤ length ps * m
all_few x m [] each = omega arith
all_few x m (p ∷ ps) each =
    let first = each 0 p refl in
    let rest = all_few x m ps (λ u q at. each (suc u) q at) in
    let both = length-append (unit_list x p) (all_listed x ps) in
    omega arith
