-- How the live keys change with the record that an operation writes.
use Rattle.std.proofs.Common.{◌≡◌, ℕ, List, [], ◌∷◌, ◌++◌, append-nil, sym, refl, ap, ◌∙◌, subst, arith, Bool, true, false, inl, inr}
use Rattle.std.specs.Prelude.{◌≢◌, Option, Some, None, ◌==◌, if◌then◌else◌}
use Rattle.std.specs.Cmp.Lexicographic.{nat_list_cmp_total}
use Rattle.std.specs.FinMap as finite
use Rattle.std.specs.Map.{update}
use Rattle.std.specs.Ordering.{eq_by_cmp}
use Rattle.std.proofs.Math.Path.{fun_ext}
use Rattle.std.proofs.lemmas.Bool.Decides.{nat_tests}
use Rattle.mont_base.specs.declared.effect.Effect.TheVariants.{Inserts, Replaces, Removes}
use Rattle.mont_base.specs.declared.effect.Thing.TheVariants.{Pair}
use Rattle.mont_base.specs.declared.operation.Op.{Op}
use Rattle.mont_base.specs.declared.operation.Op.TheVariants as ops
use Rattle.mont_base.specs.declared.record.Held.{Held}
use Rattle.mont_base.specs.Bodies.{pair_body}
use Rattle.mont_base.specs.Layout.{Shape}
use Rattle.mont_base.specs.State.{Key, Value, Pairs, key_cmp, set_effects, map_step, map_del}
use Rattle.mont_base.specs.Structure.{keeps_key}
use Rattle.mont_base.specs.Versions.{newest_of}
use Rattle.mont_laws.specs.Effects.{IsEffect, AreEffects, IsOpOf, IsNextVersion}
use Rattle.mont_laws.specs.Records.{live_if, live_of}
use Rattle.mont_laws.specs.Shows.{Shows}
use Rattle.mont_laws.specs.Structures.{pair_for, HasPairs}
use Rattle.mont_laws.proofs.Bodies.{own_key, ordered_key, IsKeptPair, kept_pair, pair_back, pair_fits}
use Rattle.mont_laws.proofs.Edits.{next_above, no_zip, one_zip}
use Rattle.mont_laws.proofs.Keys.{one_text, texts_exact, is_some_not, insert_update, remove_update}
use Rattle.mont_laws.proofs.Newest.{IsAbove, newest_push}
use Rattle.mont_laws.proofs.Shows.{IsUpdate, is_update, decided, holding, MayEdit, shows_update}
use Rattle.index_kit.specs.Index.{Places}
use Rattle.shard_map.specs.LiveKeys.{key_in_slot, key_of_live, live_keys, HoldsLiveKeys}
use Rattle.shard_map.specs.MapCall.{places_behind}
use Rattle.shard_map.proofs.KeyFacts.{no_place, key_kept}

-- what holds by the live records holds of others of which the same are live
pub keys_of_same_live : (s : Shape) (unit : ℕ) (rs qs : List Held) (places : Places) → ((i : ℕ) → live_of i qs ≡ live_of i rs)
    → HoldsLiveKeys s unit rs places → HoldsLiveKeys s unit qs places
keys_of_same_live s unit rs qs places same h =
    subst (λ (l : ℕ → Option (Option (Key × ℕ))). Shows l (finite.get places)) (fun_ext (λ i. ap (key_of_live s unit) (sym (same i)))) h

-- the slot in which the one record of an operation stands
abbrev pub slot_of_one : List Held → Option ℕ
slot_of_one (w ∷ []) = Some w.slot
slot_of_one _ = None

module _ (s : Shape) (unit : ℕ) (rs : List Held) (places : Places) (holds : HoldsLiveKeys s unit rs places) where
  -- a version above all of its identity
  keys_push : (w : Held) → IsAbove (newest_of w.label.identity rs) w
      → IsUpdate (live_keys s unit rs) w.label.identity (key_of_live s unit (live_if (Some w))) (live_keys s unit (rs ++ w ∷ []))
  keys_push w above = record {
    here = ap (λ o. key_of_live s unit (live_if o))
        (newest_push w.label.identity rs w above ∙ at (w.label.identity == w.label.identity) refl);
    other = λ j ne. ap (λ o. key_of_live s unit (live_if o))
        (newest_push j rs w above ∙ else_at j ne (w.label.identity == j) refl);
  }
    where
      at : (t : Bool) → (w.label.identity == w.label.identity) ≡ t → (if t then Some w else newest_of w.label.identity rs) ≡ Some w
      at true e = refl
      at false e = absurd (grind (arith, nat_tests))

      else_at : (j : ℕ) → j ≢ w.label.identity → (t : Bool) → (w.label.identity == j) ≡ t
          → (if t then Some w else newest_of j rs) ≡ newest_of j rs
      else_at j ne true e = absurd (ne (grind (arith, nat_tests)))
      else_at j ne false e = refl

  -- The record changes the place of one key.
  record IsKeyEdit (key : Key) (o : Option ℕ) (w : Held) : Type 0 where
    above : IsAbove (newest_of w.label.identity rs) w
    leaves : key_of_live s unit (live_if (Some w)) ≡ holding key o
    finds : MayEdit (live_keys s unit rs w.label.identity) (finite.get places) key

  edited : (key : Key) (o : Option ℕ) (w : Held) (after : Places) → IsKeyEdit key o w
      → update (eq_by_cmp key_cmp) (finite.get places) key o ≡ finite.get after → HoldsLiveKeys s unit (rs ++ w ∷ []) after
  edited key o w after e to =
      subst (λ (f : Key → Option ℕ). Shows (live_keys s unit (rs ++ w ∷ [])) f) to
      (shows_update (decided (eq_by_cmp key_cmp) one_text) (live_keys s unit rs) (live_keys s unit (rs ++ w ∷ [])) (finite.get places)
      (update (eq_by_cmp key_cmp) (finite.get places) key o) w.label.identity key o holds e.finds
      (subst (λ (p : Option (Option (Key × ℕ))). IsUpdate (live_keys s unit rs) w.label.identity p (live_keys s unit (rs ++ w ∷ [])))
      e.leaves (keys_push w e.above))
      (is_update Key ℕ (eq_by_cmp key_cmp) one_text (finite.get places) key o))

  -- what the next version supersedes is the record of the key
  finds_last : (key : Key) (v u : Value) (w : Held) → (next : IsNextVersion rs (Pair key v) w)
      → pair_for s unit next.last.body ≡ Some (key, u) → MayEdit (live_keys s unit rs w.label.identity) (finite.get places) key
  finds_last key v u w next e =
      inr (next.last.slot, key_kept s unit rs w.label.identity next.last (key, u) next.live e)

  module _ (pairs : Pairs) (shown : HasPairs s unit rs pairs) where
    unchanged : (ws : List Held) → AreEffects unit rs [] ws → (op : Op) → places_behind places op None ≡ places
        → HoldsLiveKeys s unit (rs ++ ws) (places_behind places op (slot_of_one ws))
    unchanged ws are op stays = by ws (no_zip (IsEffect unit rs) ws are)
      where
        by : (ws : List Held) → ws ≡ [] → HoldsLiveKeys s unit (rs ++ ws) (places_behind places op (slot_of_one ws))
        by [] e = subst (λ (qs : List Held). HoldsLiveKeys s unit qs (places_behind places op None)) (sym (append-nil rs))
            (subst (HoldsLiveKeys s unit rs) (sym stays) holds)
        by (w ∷ ws) e = absurd (cc)

    one : (op : Op) (ws : List Held) (w : Held) → ws ≡ w ∷ [] → HoldsLiveKeys s unit (rs ++ w ∷ []) (places_behind places op (Some w.slot))
        → HoldsLiveKeys s unit (rs ++ ws) (places_behind places op (slot_of_one ws))
    one op ws w is h = subst (λ (zs : List Held). HoldsLiveKeys s unit (rs ++ zs) (places_behind places op (slot_of_one zs))) (sym is) h

    put_edit : (k : Key) (v : Value) (w : Held) → IsKeptPair s unit k v → (t : Bool) → finite.contains_key pairs k ≡ t
        → AreEffects unit rs (set_effects t (Pair k v)) (w ∷ []) → IsKeyEdit k (Some w.slot) w
    put_edit k v w op true e are =
        let h = are.0.writes in
        let body : pair_for s unit w.body ≡ Some (k, v) = ap (pair_for s unit) h.2
        ∙ pair_fits s unit k v (pair_body k v) op.kept (pair_back k v op.key op.value) in
        record {
          above = next_above (Pair k v) h.1;
          leaves = rw h.0 (ap (λ (o : Option (Key × Value)). Some (key_in_slot w.slot o)) body);
          finds = finds_last k v h.1.named.0 w h.1 (pair_fits s unit k h.1.named.0 h.1.last.body op.kept h.1.named.1);
        }
    put_edit k v w op false e are =
        let h = are.0.writes in
        let body : pair_for s unit w.body ≡ Some (k, v) = ap (pair_for s unit) h.2
        ∙ pair_fits s unit k v (pair_body k v) op.kept (pair_back k v op.key op.value) in
        record {
          above = rw h.1.unused tt;
          leaves = rw h.0 (ap (λ (o : Option (Key × Value)). Some (key_in_slot w.slot o)) body);
          finds = inl (rw h.1.unused refl, no_place s unit rs places holds pairs shown k (is_some_not (finite.get pairs k) e));
        }

    -- an operation that sets a key
    put_follows : (op : Op) (k : Key) (v : Value) (ws : List Held) → IsKeptPair s unit k v
        → ((slot : ℕ) → places_behind places op (Some slot) ≡ finite.insert places k slot) → (t : Bool) → finite.contains_key pairs k ≡ t
        → AreEffects unit rs (set_effects t (Pair k v)) ws
        → HoldsLiveKeys s unit (rs ++ ws) (places_behind places op (slot_of_one ws))
    put_follows op k v ws kept puts t e are = by t e are
      where
        put : (w : Held) → ws ≡ w ∷ [] → IsKeyEdit k (Some w.slot) w
            → HoldsLiveKeys s unit (rs ++ ws) (places_behind places op (slot_of_one ws))
        put w is edit = one op ws w is (subst (HoldsLiveKeys s unit (rs ++ w ∷ [])) (sym (puts w.slot))
            (edited k (Some w.slot) w (finite.insert places k w.slot) edit (insert_update nat_list_cmp_total texts_exact places k w.slot)))

        by : (t : Bool) → finite.contains_key pairs k ≡ t → AreEffects unit rs (set_effects t (Pair k v)) ws
            → HoldsLiveKeys s unit (rs ++ ws) (places_behind places op (slot_of_one ws))
        by true e are = let b = one_zip (IsEffect unit rs) (Replaces (Pair k v)) ws are in
            put b.0 b.1 (put_edit k v b.0 kept true e (b.2, tt))
        by false e are = let b = one_zip (IsEffect unit rs) (Inserts (Pair k v)) ws are in
            put b.0 b.1 (put_edit k v b.0 kept false e (b.2, tt))

    -- and one that removes it
    del_follows : (op : Op) (k : Key) (ws : List Held) → keeps_key s unit k ≡ true
        → ((slot : ℕ) → places_behind places op (Some slot) ≡ finite.remove places k) → places_behind places op None ≡ places
        → (o : Option Value) → AreEffects unit rs (map_del pairs k o).effects ws
        → HoldsLiveKeys s unit (rs ++ ws) (places_behind places op (slot_of_one ws))
    del_follows op k ws kept dels stays None are = unchanged ws are op stays
    del_follows op k ws kept dels stays (Some v) are =
        let b = one_zip (IsEffect unit rs) (Removes (Pair k v)) ws are in
        let h = b.2.writes in
        let edit : IsKeyEdit k None b.0 = record {
          above = next_above (Pair k v) h.1;
          leaves = rw h.0 refl;
          finds = finds_last k v h.1.named.0 b.0 h.1 (pair_fits s unit k h.1.named.0 h.1.last.body kept h.1.named.1);
        } in
        one op ws b.0 b.1 (subst (HoldsLiveKeys s unit (rs ++ b.0 ∷ [])) (sym (dels b.0.slot))
        (edited k None b.0 (finite.remove places k) edit (remove_update nat_list_cmp_total texts_exact places k)))

    -- the index follows what an operation wrote
    pub keys_follow : (op : Op) (ws : List Held) → IsOpOf s unit op → AreEffects unit rs (map_step pairs op).effects ws
        → HoldsLiveKeys s unit (rs ++ ws) (places_behind places op (slot_of_one ws))
    keys_follow (ops.Put k v) ws op are = put_follows (ops.Put k v) k v ws (kept_pair s unit k v (own_key s unit k op.of_unit) op.texts)
        (λ slot. refl) (finite.contains_key pairs k) refl are
    keys_follow (ops.Get k) ws op are = unchanged ws are (ops.Get k) refl
    keys_follow (ops.Del k) ws op are =
        del_follows (ops.Del k) k ws (own_key s unit k op.of_unit) (λ slot. refl) refl (finite.get pairs k) are
    keys_follow (ops.Enq unit item) ws op are = unchanged ws are (ops.Enq unit item) refl
    keys_follow (ops.Deq unit) ws op are = unchanged ws are (ops.Deq unit) refl
    keys_follow (ops.Len unit) ws op are = unchanged ws are (ops.Len unit) refl
    keys_follow (ops.AddV unit vertex attr) ws op are = unchanged ws are (ops.AddV unit vertex attr) refl
    keys_follow (ops.DelV unit vertex) ws op are = unchanged ws are (ops.DelV unit vertex) refl
    keys_follow (ops.AddE unit from to attr) ws op are = unchanged ws are (ops.AddE unit from to attr) refl
    keys_follow (ops.DelE unit from to) ws op are = unchanged ws are (ops.DelE unit from to) refl
    keys_follow (ops.Vertex unit vertex) ws op are = unchanged ws are (ops.Vertex unit vertex) refl
    keys_follow (ops.Degree unit vertex) ws op are = unchanged ws are (ops.Degree unit vertex) refl
    keys_follow (ops.OPut u k v) ws op are = put_follows (ops.OPut u k v) k v ws
        (kept_pair s unit k v (ordered_key s u unit k op.of_unit) op.texts) (λ slot. refl) (finite.contains_key pairs k) refl are
    keys_follow (ops.OGet u k) ws op are = unchanged ws are (ops.OGet u k) refl
    keys_follow (ops.ODel u k) ws op are =
        del_follows (ops.ODel u k) k ws (ordered_key s u unit k op.of_unit) (λ slot. refl) refl (finite.get pairs k) are
    keys_follow (ops.OFloor u k) ws op are = unchanged ws are (ops.OFloor u k) refl
    keys_follow (ops.ORank u k) ws op are = unchanged ws are (ops.ORank u k) refl
    keys_follow (ops.ORange u from to most) ws op are = unchanged ws are (ops.ORange u from to most) refl
