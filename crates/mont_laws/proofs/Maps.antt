-- What map operations do to the pairs that records show.
use Rattle.std.proofs.Common.{◌≡◌, ℕ, List, [], ◌∷◌, ◌++◌, append-nil, sym, refl, ap, ◌∙◌, subst, Bool, true, false}
use Rattle.std.specs.Prelude.{Option, Some, None}
use Rattle.std.specs.Cmp.Lexicographic.{nat_list_cmp_total}
use Rattle.std.specs.Ordering.{eq_by_cmp}
use Rattle.std.specs.FinMap as finite
use Rattle.std.specs.Map.{update}
use Rattle.mont_base.specs.declared.record.Held.{Held}
use Rattle.mont_base.specs.declared.operation.Op.{Op}
use Rattle.mont_base.specs.declared.operation.Op.TheVariants as ops
use Rattle.mont_base.specs.declared.effect.Thing.TheVariants.{Pair}
use Rattle.mont_base.specs.declared.effect.Effect.TheVariants.{Inserts, Replaces, Removes}
use Rattle.mont_base.specs.Layout.{Shape}
use Rattle.mont_base.specs.Structure.{keeps_key}
use Rattle.mont_base.specs.State.{Key, Value, Pairs, key_cmp, set_effects, map_step, map_del}
use Rattle.mont_base.specs.Bodies.{pair_body}
use Rattle.mont_laws.specs.Shows.{live_things, Shows}
use Rattle.mont_laws.specs.Structures.{pair_for, HasPairs, HasThings}
use Rattle.mont_laws.specs.Effects.{IsEffect, AreEffects, IsOpOf}
use Rattle.mont_laws.proofs.Keys.{is_some_not, one_text, texts_exact, insert_update, remove_update}
use Rattle.mont_laws.proofs.Bodies.{own_key, ordered_key, IsKeptPair, kept_pair, pair_back, pair_fits}
use Rattle.mont_laws.proofs.Shows.{shows_once, IsEdit, shows_edit}
use Rattle.mont_laws.proofs.Edits.{inserted, replaced, removed, no_zip, one_zip}

module _ (s : Shape) (unit : ℕ) (rs : List Held) where
  -- at most one map is shown
  pub pairs_once : (m n : Pairs) → HasPairs s unit rs m → HasPairs s unit rs n → m ≡ n
  pairs_once m n g h = finite.same_map nat_list_cmp_total texts_exact m n
      (λ q. ap (λ (f : Key → Option Value). f q) (shows_once (live_things (pair_for s unit) rs) (finite.get m) (finite.get n) g h))

  module _ (m : Pairs) (shown : HasPairs s unit rs m) where
    edited : (k : Key) (o : Option Value) (n : Pairs) (w : Held) → update (eq_by_cmp key_cmp) (finite.get m) k o ≡ finite.get n
        → IsEdit (pair_for s unit) rs (finite.get m) k o w → HasPairs s unit (rs ++ w ∷ []) n
    edited k o n w e edit = subst (λ (f : Key → Option Value). Shows (live_things (pair_for s unit) (rs ++ w ∷ [])) f) e
        (shows_edit (eq_by_cmp key_cmp) one_text (pair_for s unit) rs (finite.get m) k o w shown edit)

    unchanged : (ws : List Held) → AreEffects unit rs [] ws → HasPairs s unit (rs ++ ws) m
    unchanged ws are = subst (λ (zs : List Held). HasPairs s unit zs m)
        (sym (append-nil rs) ∙ ap (λ (zs : List Held). rs ++ zs) (sym (no_zip (IsEffect unit rs) ws are))) shown

    put_edit : (k : Key) (v : Value) (w : Held) → IsKeptPair s unit k v → (t : Bool) → finite.contains_key m k ≡ t
        → (is : AreEffects unit rs (set_effects t (Pair k v)) (w ∷ [])) → IsEdit (pair_for s unit) rs (finite.get m) k (Some v) w
    put_edit k v w op true e are =
        let h = are.0.writes in
        let body : pair_for s unit w.body ≡ Some (k, v) = ap (pair_for s unit) h.2
        ∙ pair_fits s unit k v (pair_body k v) op.kept (pair_back k v op.key op.value) in
        replaced (pair_for s unit) rs (finite.get m) k w (Pair k v) h.1.named.0 v h.0 h.1
        (pair_fits s unit k h.1.named.0 h.1.last.body op.kept h.1.named.1) body
    put_edit k v w op false e are =
        let h = are.0.writes in
        let body : pair_for s unit w.body ≡ Some (k, v) = ap (pair_for s unit) h.2
        ∙ pair_fits s unit k v (pair_body k v) op.kept (pair_back k v op.key op.value) in
        inserted (pair_for s unit) rs (finite.get m) k w v h.0 h.1 body (is_some_not (finite.get m k) e)

    put_lead : (k : Key) (v : Value) (ws : List Held) → IsKeptPair s unit k v → (t : Bool) → finite.contains_key m k ≡ t
        → AreEffects unit rs (set_effects t (Pair k v)) ws → HasPairs s unit (rs ++ ws) (finite.insert m k v)
    put_lead k v ws op t e are = by t e are
      where
        one : (w : Held) → ws ≡ w ∷ [] → IsEdit (pair_for s unit) rs (finite.get m) k (Some v) w
            → HasPairs s unit (rs ++ ws) (finite.insert m k v)
        one w is edit = subst (λ (zs : List Held). HasPairs s unit (rs ++ zs) (finite.insert m k v)) (sym is)
            (edited k (Some v) (finite.insert m k v) w (insert_update nat_list_cmp_total texts_exact m k v) edit)

        by : (t : Bool) → finite.contains_key m k ≡ t → AreEffects unit rs (set_effects t (Pair k v)) ws
            → HasPairs s unit (rs ++ ws) (finite.insert m k v)
        by true e are = let b = one_zip (IsEffect unit rs) (Replaces (Pair k v)) ws are in
            one b.0 b.1 (put_edit k v b.0 op true e (b.2, tt))
        by false e are = let b = one_zip (IsEffect unit rs) (Inserts (Pair k v)) ws are in
            one b.0 b.1 (put_edit k v b.0 op false e (b.2, tt))

    del_lead : (k : Key) (ws : List Held) → keeps_key s unit k ≡ true → (o : Option Value)
        → AreEffects unit rs (map_del m k o).effects ws → HasThings s unit (rs ++ ws) (map_del m k o).state
    del_lead k ws kept None are = unchanged ws are
    del_lead k ws kept (Some v) are =
        let b = one_zip (IsEffect unit rs) (Removes (Pair k v)) ws are in
        let h = b.2.writes in
        let edit = removed (pair_for s unit) rs (finite.get m) k b.0 (Pair k v) h.1.named.0 h.0 h.1
        (pair_fits s unit k h.1.named.0 h.1.last.body kept h.1.named.1) in
        subst (λ (zs : List Held). HasPairs s unit (rs ++ zs) (finite.remove m k)) (sym b.1)
        (edited k None (finite.remove m k) b.0 (remove_update nat_list_cmp_total texts_exact m k) edit)

    pub map_leads : (op : Op) (ws : List Held) → IsOpOf s unit op → AreEffects unit rs (map_step m op).effects ws
        → HasThings s unit (rs ++ ws) (map_step m op).state
    map_leads (ops.Put k v) ws op are =
        put_lead k v ws (kept_pair s unit k v (own_key s unit k op.of_unit) op.texts) (finite.contains_key m k) refl are
    map_leads (ops.Del k) ws op are = del_lead k ws (own_key s unit k op.of_unit) (finite.get m k) are
    map_leads (ops.OPut u k v) ws op are =
        put_lead k v ws (kept_pair s unit k v (ordered_key s u unit k op.of_unit) op.texts) (finite.contains_key m k) refl are
    map_leads (ops.ODel u k) ws op are = del_lead k ws (ordered_key s u unit k op.of_unit) (finite.get m k) are
    map_leads _ ws op are = unchanged ws are
