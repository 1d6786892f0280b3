-- What an index with the live keys says of records, and of the pairs that these show.
use Rattle.std.proofs.Common.{◌≡◌, ℕ, List, [], ◌∷◌, sym, refl, ap, ◌∙◌, arith, Bool, true, false, cond, inl, inr}
use Rattle.std.specs.Prelude.{Option, Some, None, ◌==◌}
use Rattle.std.specs.List.{Contains}
use Rattle.std.specs.FinMap as finite
use Rattle.std.specs.Ordering.{eq_by_cmp}
use Rattle.std.proofs.lemmas.Bool.Decides.{nat_tests}
use Rattle.std.proofs.lemmas.Option.{same_Some}
use Rattle.mont_base.specs.declared.record.Held.{Held}
use Rattle.mont_base.specs.declared.kinds.UnitKind.{UnitKind}
use Rattle.mont_base.specs.declared.kinds.UnitKind.TheVariants as unit_kinds
use Rattle.mont_base.specs.Layout.{Shape, kind_of, is_of_kind, code_of}
use Rattle.mont_base.specs.State.{State, MapOf, QueueOf, GraphOf, Graph, Key, Value, Pairs, key_cmp, is_kind_of}
use Rattle.mont_base.specs.Structure.{pairs_of}
use Rattle.mont_base.specs.Versions.{live_objects}
use Rattle.mont_laws.specs.Records.{AreApart, live_of}
use Rattle.mont_laws.specs.Shows.{live_things, Shows}
use Rattle.mont_laws.specs.Structures.{pair_for, HasPairs, HasStructure}
use Rattle.mont_laws.proofs.Edits.{live_facts}
use Rattle.mont_laws.proofs.Holders.{live_holder, held_live}
use Rattle.mont_laws.proofs.Keys.{one_text}
use Rattle.mont_laws.proofs.Made.{entries_shown, made_pairs}
use Rattle.mont_laws.proofs.Members.{no_element, element_cases, first_element, later_element}
use Rattle.mont_laws.proofs.Apart.{same_slot}
use Rattle.mont_laws.proofs.Newest.{IsNewest, newest_is}
use Rattle.mont_laws.proofs.SameKind.{maps_no_queues, maps_no_graphs}
use Rattle.index_kit.specs.Index.{Places}
use Rattle.slots.specs.Books.{record_in}
use Rattle.shard_map.specs.LiveKeys.{key_in_slot, key_of_live, live_keys, HoldsLiveKeys}
use Rattle.shard_map.specs.MapShard.{KeepsPairs}

-- ---- the record of a slot
-- what is in a slot is among the records, and there
found_record : (rs : List Held) (slot : ℕ) (r : Held) → Contains rs r → r.slot ≡ slot
    → (q : Held) × (record_in rs slot ≡ Some q) × Contains rs q × (q.slot ≡ slot)
found_record [] slot r a is = absurd (no_element r a)
found_record (p ∷ rs) slot r a is = by (p.slot == slot) refl (λ b. found_record rs slot r b is)
  where
    by : (t : Bool) → (p.slot == slot) ≡ t
        → (Contains rs r → (q : Held) × (record_in rs slot ≡ Some q) × Contains rs q × (q.slot ≡ slot))
        → (q : Held) × (cond t (Some p) (record_in rs slot) ≡ Some q) × Contains (p ∷ rs) q × (q.slot ≡ slot)
    by true e rest = (p, refl, first_element p rs, grind (arith, nat_tests))
    by false e rest = elim (element_cases p rs r a) [
      | inl same ↦ let s : r.slot ≡ p.slot = ap (λ (h : Held). h.slot) same in absurd (grind (arith, nat_tests))
      | inr b ↦ let c = rest b in (c.0, c.1, later_element p rs c.0 c.2, c.3)
    ]

pub record_there : (rs : List Held) (r : Held) → AreApart rs → Contains rs r → record_in rs r.slot ≡ Some r
record_there rs r apart a = let b = found_record rs r.slot r a refl in b.1 ∙ ap Some (same_slot rs apart b.0 r b.2 a b.3)

-- a live record is among the records, with its identity
pub record LiveRecord (rs : List Held) (i : ℕ) (r : Held) : Type 0 where
  pub there : Contains rs r
  pub identity : r.label.identity ≡ i
  pub live : live_of r.label.identity rs ≡ Some r

pub live_record_of : (rs : List Held) (i : ℕ) (r : Held) → live_of i rs ≡ Some r → LiveRecord rs i r
live_record_of rs i r e =
    let n : IsNewest i rs r = newest_is i rs r (live_facts _ r e).0 in
    record { there = n.there; identity = n.identity; live = ap (λ (j : ℕ). live_of j rs) n.identity ∙ e }

module _ (s : Shape) (unit : ℕ) (rs : List Held) where
  -- ---- a live record with its pair
  pub record KeptAt (i : ℕ) (key : Key) (slot : ℕ) : Type 0 where
    pub kept : Held
    pub live : live_of i rs ≡ Some kept
    pub in_slot : kept.slot ≡ slot
    pub value : Value
    pub holds : pair_for s unit kept.body ≡ Some (key, value)

  pub kept_at : (i : ℕ) (key : Key) (slot : ℕ) → live_keys s unit rs i ≡ Some (Some (key, slot)) → KeptAt i key slot
  kept_at i key slot e = by (live_of i rs) refl e
    where
      of : (r : Held) → live_of i rs ≡ Some r → (o : Option (Key × Value)) → pair_for s unit r.body ≡ o
          → key_in_slot r.slot o ≡ Some (key, slot) → KeptAt i key slot
      of r f None g h = absurd (cc)
      of r f (Some p) g h =
          let same : (p.0, r.slot) ≡ (key, slot) = same_Some (p.0, r.slot) (key, slot) h in
          record {
            kept = r;
            live = f;
            in_slot = ap (λ (b : Key × ℕ). b.1) same;
            value = p.1;
            holds = g ∙ ap (λ (k : Key). Some (k, p.1)) (ap (λ (b : Key × ℕ). b.0) same);
          }

      by : (o : Option Held) → live_of i rs ≡ o → key_of_live s unit o ≡ Some (Some (key, slot)) → KeptAt i key slot
      by None f g = absurd (cc)
      by (Some r) f g = of r f (pair_for s unit r.body) refl (same_Some _ _ g)

  pub key_kept : (i : ℕ) (r : Held) (p : Key × Value) → live_of i rs ≡ Some r → pair_for s unit r.body ≡ Some p
      → live_keys s unit rs i ≡ Some (Some (p.0, r.slot))
  key_kept i r p e f = ap (key_of_live s unit) e ∙ ap (λ (o : Option (Key × Value)). Some (key_in_slot r.slot o)) f

  key_unread : (i : ℕ) (r : Held) → live_of i rs ≡ Some r → pair_for s unit r.body ≡ None → live_keys s unit rs i ≡ Some None
  key_unread i r e f = ap (key_of_live s unit) e ∙ ap (λ (o : Option (Key × Value)). Some (key_in_slot r.slot o)) f

  pub unread_at : (i : ℕ) → live_keys s unit rs i ≡ Some None → live_things (pair_for s unit) rs i ≡ Some None
  unread_at i e = by (live_of i rs) refl e
    where
      of : (r : Held) → live_of i rs ≡ Some r → (o : Option (Key × Value)) → pair_for s unit r.body ≡ o
          → key_in_slot r.slot o ≡ None → live_things (pair_for s unit) rs i ≡ Some None
      of r f None g h = held_live (pair_for s unit) rs i r f ∙ ap Some g
      of r f (Some p) g h = absurd (cc)

      by : (o : Option Held) → live_of i rs ≡ o → key_of_live s unit o ≡ Some None → live_things (pair_for s unit) rs i ≡ Some None
      by None f g = absurd (cc)
      by (Some r) f g = of r f (pair_for s unit r.body) refl (same_Some _ _ g)

  -- the value of a place's record
  abbrev second : Option (Key × Value) → Option Value
  second None = None
  second (Some p) = Some p.1

  abbrev value_in : Option Held → Option Value
  value_in None = None
  value_in (Some r) = second (pair_for s unit r.body)

  abbrev value_at : Option ℕ → Option Value
  value_at None = None
  value_at (Some slot) = value_in (record_in rs slot)

  -- ---- an index with the live keys
  module _ (places : Places) (holds : HoldsLiveKeys s unit rs places) where
    -- the place of a live record's key
    pub place_of : (i : ℕ) (r : Held) (p : Key × Value) → live_of i rs ≡ Some r → pair_for s unit r.body ≡ Some p
        → finite.get places p.0 ≡ Some r.slot
    place_of i r p e f = holds.found i p.0 r.slot (key_kept i r p e f)

    -- what stands at a place
    pub at_place : (key : Key) (slot : ℕ) → finite.get places key ≡ Some slot → (i : ℕ) × KeptAt i key slot
    at_place key slot e = let b = holds.there key slot e in (b.0, kept_at b.0 key slot b.1)

    -- ---- beside the pairs that the records show
    module _ (pairs : Pairs) (shown : HasPairs s unit rs pairs) where
      pub value_kept : (i : ℕ) (key : Key) (slot : ℕ) (k : KeptAt i key slot) → finite.get pairs key ≡ Some k.value
      value_kept i key slot k = shown.found i key k.value (held_live (pair_for s unit) rs i k.kept k.live ∙ ap Some k.holds)

      pub no_value : (key : Key) → finite.get places key ≡ None → finite.get pairs key ≡ None
      no_value key e = by (finite.get pairs key) refl
        where
          by : (o : Option Value) → finite.get pairs key ≡ o → o ≡ None
          by None f = refl
          by (Some v) f =
              let b = shown.there key v f in
              let c = live_holder (pair_for s unit) rs b.0 (Some (key, v)) b.1 in
              let g = place_of b.0 c.0 (key, v) c.1 c.2 in
              absurd (cc)

      pub no_place : (key : Key) → finite.get pairs key ≡ None → finite.get places key ≡ None
      no_place key e = by (finite.get places key) refl
        where
          by : (o : Option ℕ) → finite.get places key ≡ o → o ≡ None
          by None f = refl
          by (Some slot) f =
              let b = at_place key slot f in
              let g = value_kept b.0 key slot b.1 in
              absurd (cc)

    -- ---- there are pairs that they show
    module _ (apart : AreApart rs) where
      abbrev value_by : Key → Option Value
      value_by key = value_at (finite.get places key)

      value_of_live : (i : ℕ) (r : Held) (p : Key × Value) → live_of i rs ≡ Some r → pair_for s unit r.body ≡ Some p
          → value_by p.0 ≡ Some p.1
      value_of_live i r p e f =
          ap value_at (place_of i r p e f)
          ∙ ap value_in (record_there rs r apart (live_record_of rs i r e).there)
          ∙ ap second f

      value_there : (key : Key) (v : Value) → value_by key ≡ Some v
          → (i : ℕ) × (live_things (pair_for s unit) rs i ≡ Some (Some (key, v)))
      value_there key v e = by (finite.get places key) refl e
        where
          of : (slot : ℕ) → (b : (i : ℕ) × KeptAt i key slot) → (i : ℕ) × (live_things (pair_for s unit) rs i ≡ Some (Some (key, v)))
          of slot b =
              let k : KeptAt b.0 key slot = b.1 in
              let same : k.value ≡ v = same_Some k.value v (sym (value_of_live b.0 k.kept (key, k.value) k.live k.holds) ∙ e) in
              (b.0, held_live (pair_for s unit) rs b.0 k.kept k.live ∙ ap Some k.holds ∙ ap (λ (w : Value). Some (Some (key, w))) same)

          by : (o : Option ℕ) → finite.get places key ≡ o → value_at o ≡ Some v
              → (i : ℕ) × (live_things (pair_for s unit) rs i ≡ Some (Some (key, v)))
          by None f g = absurd (cc)
          by (Some slot) f g = of slot (at_place key slot f)

      pairs_shown : Shows (live_things (pair_for s unit) rs) value_by
      pairs_shown = record {
        readable = λ i e. let b = live_holder (pair_for s unit) rs i None e in holds.readable i (key_unread i b.0 b.1 b.2);
        found = λ i key v e. let b = live_holder (pair_for s unit) rs i (Some (key, v)) e in value_of_live i b.0 (key, v) b.1 b.2;
        there = value_there;
        once = λ i j key v w e f.
            let b = live_holder (pair_for s unit) rs i (Some (key, v)) e in
            let c = live_holder (pair_for s unit) rs j (Some (key, w)) f in
            holds.once i j key b.0.slot c.0.slot (key_kept i b.0 (key, v) b.1 b.2) (key_kept j c.0 (key, w) c.1 c.2);
      }

      pub has_pairs : HasPairs s unit rs (pairs_of (live_objects rs))
      has_pairs =
          let b = entries_shown (eq_by_cmp key_cmp) one_text (pair_for s unit) rs apart value_by pairs_shown in
          made_pairs s unit rs b.0 b.1 apart

-- ---- units that keep pairs
pub may_have : (o : Option UnitKind) (m : Pairs) → KeepsPairs o → is_kind_of o (MapOf m) ≡ true
may_have None m h = absurd h
may_have (Some kind) m h = h

pub no_queue : (o : Option UnitKind) → KeepsPairs o → is_of_kind o unit_kinds.Queue ≡ false
no_queue None h = absurd h
no_queue (Some kind) h = maps_no_queues (code_of kind) h

no_items : (o : Option UnitKind) (items : List ℕ) → KeepsPairs o → is_kind_of o (QueueOf items) ≡ true → ⊥
no_items None items h e = h
no_items (Some kind) items h e = let f = maps_no_queues (code_of kind) h in cc

no_parts : (o : Option UnitKind) (g : Graph) → KeepsPairs o → is_kind_of o (GraphOf g) ≡ true → ⊥
no_parts None g h e = h
no_parts (Some kind) g h e = let f = maps_no_graphs (code_of kind) h in cc

-- their state is a map
pub map_state : (s : Shape) (u : ℕ) (rs : List Held) (state : State) → KeepsPairs (kind_of s u) → HasStructure s u rs state
    → (m : Pairs) × (state ≡ MapOf m) × HasPairs s u rs m
map_state s u rs (MapOf m) k h = (m, refl, h.things)
map_state s u rs (QueueOf items) k h = absurd (no_items (kind_of s u) items k h.of_unit)
map_state s u rs (GraphOf graph) k h = absurd (no_parts (kind_of s u) graph k h.of_unit)
