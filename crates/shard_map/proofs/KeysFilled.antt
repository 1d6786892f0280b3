-- An index with the keys of the live objects has the live keys.
use Rattle.std.proofs.Common.{◌≡◌, ℕ, ◌+◌, ◌<◌, List, [], ◌∷◌, ◌++◌, length, take, get_or, map, sym, refl, ap, ◌∙◌, subst, Bool, true, false, cond, inl, inr}
use Rattle.std.specs.Prelude.{Some, None, is_some}
use Rattle.std.specs.Cmp.Lexicographic.{nat_list_cmp_total}
use Rattle.std.specs.FinMap as finite
use Rattle.std.specs.List.{Contains}
use Rattle.std.specs.Ordering.{eq_by_cmp}
use Rattle.std.proofs.lemmas.List.{take_more}
use Rattle.std.proofs.lemmas.List.Elements.{Contains-push, Contains-push_cases, Contains-append_left}
use Rattle.std.proofs.lemmas.Option.{same_Some}
use Rattle.mont_base.specs.declared.record.Held.{Held}
use Rattle.mont_base.specs.declared.record.Object.{Object}
use Rattle.mont_base.specs.Bodies.{pair_in}
use Rattle.mont_base.specs.Layout.{Shape}
use Rattle.mont_base.specs.State.{Key, Value, Pairs, key_cmp}
use Rattle.mont_base.specs.Structure.{pair_at, keeps_key}
use Rattle.mont_base.specs.Versions.{object_of, live_objects}
use Rattle.mont_laws.specs.Records.{AreApart, live_of}
use Rattle.mont_laws.specs.Shows.{live_things}
use Rattle.mont_laws.specs.Structures.{pair_for, HasPairs}
use Rattle.mont_laws.proofs.Holders.{fitted, sure_fit, held_live}
use Rattle.mont_laws.proofs.Keys.{one_text, some_there}
use Rattle.mont_laws.proofs.LiveObjects.{live_records, live_record, record_live}
use Rattle.mont_laws.proofs.Members.{no_element, first_element, later_element, element_cases}
use Rattle.index_kit.specs.Index.{Places}
use Rattle.shard_map.specs.LiveKeys.{key_of_live, live_keys, HoldsLiveKeys}
use Rattle.shard_map.specs.MapBeginning.{IsObjectAt, HasKeysOf}
use Rattle.shard_map.proofs.KeyFacts.{KeptAt, kept_at, key_kept, unread_at}

-- ---- objects and their records
record_of_object : (rs : List Held) (o : Object) → Contains (map object_of rs) o → (r : Held) × Contains rs r × (object_of r ≡ o)
record_of_object [] o a = absurd (no_element o a)
record_of_object (r ∷ rs) o a = elim (element_cases (object_of r) (map object_of rs) o a) [
  | inl e ↦ (r, first_element r rs, sym e)
  | inr b ↦ let c = record_of_object rs o b in (c.0, later_element r rs c.0 c.1, c.2)
]

object_of_record : (rs : List Held) (r : Held) → Contains rs r → Contains (map object_of rs) (object_of r)
object_of_record [] r a = absurd (no_element r a)
object_of_record (q ∷ rs) r a = elim (element_cases q rs r a) [
  | inl e ↦ subst (λ (o : Object). Contains (map object_of (q ∷ rs)) o) (ap object_of (sym e))
      (first_element (object_of q) (map object_of rs))
  | inr b ↦ later_element (object_of q) (map object_of rs) (object_of r) (object_of_record rs r b)
]

-- ---- filling
-- an empty index has the keys of no objects
pub no_keys : (places : Places) → finite.len places ≡ 0 → HasKeysOf [] places
no_keys places e = record {
  each = λ o p a f. absurd (no_element o a);
  only = λ key slot f.
      let none : finite.get places key ≡ None =
      ap (λ (m : Places). finite.get m key) (finite.empty_of_len places e) ∙ finite.get-empty key_cmp key in
      absurd (cc);
}

module _ (os : List Object) (o : Object) (places : Places) (h : HasKeysOf os places) where
  -- an object whose body is no pair has no key
  pub keys_past : pair_at o ≡ None → HasKeysOf (os ++ o ∷ []) places
  keys_past none = record {
    each = λ q p a f. elim (Contains-push_cases os o q a) [
      | inl b ↦ h.each q p b f
      | inr same ↦ let g : pair_at q ≡ None = ap pair_at (sym same) ∙ none in absurd (cc)
    ];
    only = λ key slot f. let b = h.only key slot f in record {
      object = b.object;
      there = Contains-append_left os (o ∷ []) b.object b.there;
      value = b.value;
      holds = b.holds;
      in_slot = b.in_slot;
    };
  }

  pub keys_with : (p : Key × Value) → pair_at o ≡ Some p → HasKeysOf (os ++ o ∷ []) (finite.insert places p.0 o.slot)
  keys_with p is = record { each = each; only = only }
    where
      got : (key : Key) → finite.get (finite.insert places p.0 o.slot) key
          ≡ cond (eq_by_cmp key_cmp key p.0) (Some o.slot) (finite.get places key)
      got key = finite.get-insert nat_list_cmp_total places p.0 o.slot key

      some : (t : Bool) (key : Key) → is_some (finite.get places key) ≡ true → is_some (cond t (Some o.slot) (finite.get places key)) ≡ true
      some true key e = refl
      some false key e = e

      each : (q : Object) (d : Key × Value) → Contains (os ++ o ∷ []) q → pair_at q ≡ Some d
          → finite.contains_key (finite.insert places p.0 o.slot) d.0 ≡ true
      each q d a f = elim (Contains-push_cases os o q a) [
        | inl b ↦ ap is_some (got d.0) ∙ some (eq_by_cmp key_cmp d.0 p.0) d.0 (h.each q d b f)
        | inr same ↦
            let g : d ≡ p = same_Some d p (sym f ∙ ap pair_at (sym same) ∙ is) in
            ap is_some (got d.0)
            ∙ ap (λ (t : Bool). is_some (cond t (Some o.slot) (finite.get places d.0)))
            ((one_text d.0 p.0).1 (ap (λ (b : Key × Value). b.0) g))
      ]

      by : (key : Key) (slot : ℕ) (t : Bool) → eq_by_cmp key_cmp key p.0 ≡ t
          → cond t (Some o.slot) (finite.get places key) ≡ Some slot → IsObjectAt (os ++ o ∷ []) key slot
      by key slot true e f = record {
        object = o;
        there = Contains-push os o;
        value = p.1;
        holds = is ∙ ap (λ (k : Key). Some (k, p.1)) (sym ((one_text key p.0).0 e));
        in_slot = same_Some o.slot slot f;
      }
      by key slot false e f = let b = h.only key slot f in record {
        object = b.object;
        there = Contains-append_left os (o ∷ []) b.object b.there;
        value = b.value;
        holds = b.holds;
        in_slot = b.in_slot;
      }

      only : (key : Key) (slot : ℕ) → finite.get (finite.insert places p.0 o.slot) key ≡ Some slot → IsObjectAt (os ++ o ∷ []) key slot
      only key slot f = by key slot (eq_by_cmp key_cmp key p.0) refl (sym (got key) ∙ f)

module _ (os : List Object) (i : ℕ) (d : Object) (places : Places) (inside : i < length os) (h : HasKeysOf (take i os) places) where
  pub next_past : pair_at (get_or os i d) ≡ None → HasKeysOf (take (i + 1) os) places
  next_past none = subst (λ (zs : List Object). HasKeysOf zs places) (sym (take_more os i d inside))
      (keys_past (take i os) (get_or os i d) places h none)

  pub next_with : (p : Key × Value) → pair_at (get_or os i d) ≡ Some p
      → HasKeysOf (take (i + 1) os) (finite.insert places p.0 (get_or os i d).slot)
  next_with p is = subst (λ (zs : List Object). HasKeysOf zs (finite.insert places p.0 (get_or os i d).slot))
      (sym (take_more os i d inside)) (keys_with (take i os) (get_or os i d) places h p is)

-- ---- what a filled index has
-- where nothing is live no key is
pub keys_of_none : (s : Shape) (unit : ℕ) (rs : List Held) → ((i : ℕ) → live_of i rs ≡ None) → HoldsLiveKeys s unit rs finite.empty
keys_of_none s unit rs none = record {
  readable = λ i e. let f = ap (key_of_live s unit) (none i) in absurd (cc);
  found = λ i key slot e. let f = ap (key_of_live s unit) (none i) in absurd (cc);
  there = λ key slot e. let f : finite.get {X = ℕ} {R = key_cmp} finite.empty key ≡ None = finite.get-empty key_cmp key in absurd (cc);
  once = λ i j key v w e f. let g = ap (key_of_live s unit) (none i) in absurd (cc);
}

module _ (s : Shape) (unit : ℕ) (rs : List Held) (apart : AreApart rs) (pairs : Pairs) (shown : HasPairs s unit rs pairs)
    (places : Places) (h : HasKeysOf (live_objects rs) places) where
  -- the live record of an object at a place
  pub record RecordAt (key : Key) (slot : ℕ) : Type 0 where
    pub kept : Held
    pub live : live_of kept.label.identity rs ≡ Some kept
    pub in_slot : kept.slot ≡ slot
    pub value : Value
    pub holds : pair_for s unit kept.body ≡ Some (key, value)

  record_at : (key : Key) (slot : ℕ) → IsObjectAt (live_objects rs) key slot → RecordAt key slot
  record_at key slot b =
      let c = record_of_object (live_records rs) b.object b.there in
      let live = live_record rs apart c.0 c.1 in
      record {
        kept = c.0;
        live = live;
        in_slot = ap (λ (o : Object). o.slot) c.2 ∙ b.in_slot;
        value = b.value;
        holds = sure_fit (λ (p : Key × Value). keeps_key s unit p.0) (pair_in c.0.body) (key, b.value)
            (ap pair_at c.2 ∙ b.holds)
            (λ e. shown.readable c.0.label.identity (held_live (pair_for s unit) rs c.0.label.identity c.0 live ∙ ap Some e));
      }

  thing_of : (i : ℕ) (r : Held) (p : Key × Value) → live_of i rs ≡ Some r → pair_for s unit r.body ≡ Some p
      → live_things (pair_for s unit) rs i ≡ Some (Some p)
  thing_of i r p e f = held_live (pair_for s unit) rs i r e ∙ ap Some f

  found : (i : ℕ) (key : Key) (slot : ℕ) → live_keys s unit rs i ≡ Some (Some (key, slot)) → finite.get places key ≡ Some slot
  found i key slot e =
      let k : KeptAt s unit rs i key slot = kept_at s unit rs i key slot e in
      let object = object_of_record (live_records rs) k.kept (record_live rs i k.kept k.live) in
      let read = (fitted (λ (p : Key × Value). keeps_key s unit p.0) (pair_in k.kept.body) (key, k.value) k.holds).0 in
      let there = some_there (finite.get places key) (h.each (object_of k.kept) (key, k.value) object read) in
      let b : RecordAt key there.0 = record_at key there.0 (h.only key there.0 there.1) in
      let one : i ≡ b.kept.label.identity = shown.once i b.kept.label.identity key k.value b.value
      (thing_of i k.kept (key, k.value) k.live k.holds)
      (thing_of b.kept.label.identity b.kept (key, b.value) b.live b.holds) in
      let same : k.kept ≡ b.kept = same_Some k.kept b.kept (sym k.live ∙ ap (λ (j : ℕ). live_of j rs) one ∙ b.live) in
      there.1 ∙ ap Some (sym b.in_slot ∙ ap (λ (r : Held). r.slot) (sym same) ∙ k.in_slot)

  pub keys_filled : HoldsLiveKeys s unit rs places
  keys_filled = record {
    readable = λ i e. shown.readable i (unread_at s unit rs i e);
    found = found;
    there = λ key slot e. let b : RecordAt key slot = record_at key slot (h.only key slot e) in (
      b.kept.label.identity,
      key_kept s unit rs b.kept.label.identity b.kept (key, b.value) b.live b.holds
          ∙ ap (λ (n : ℕ). Some (Some (key, n))) b.in_slot,
    );
    once = λ i j key v w e f.
        let k : KeptAt s unit rs i key v = kept_at s unit rs i key v e in
        let l : KeptAt s unit rs j key w = kept_at s unit rs j key w f in
        shown.once i j key k.value l.value (thing_of i k.kept (key, k.value) k.live k.holds)
        (thing_of j l.kept (key, l.value) l.live l.holds);
  }
