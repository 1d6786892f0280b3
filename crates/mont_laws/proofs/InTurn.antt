-- The effects of an operation, judged at once or one after the other, and the identities that they have.
use Rattle.std.proofs.Common.{◌≡◌, ℕ, List, [], ◌∷◌, sym, subst, arith, inl, inr, ◌⊎◌}
use Rattle.std.specs.Prelude.{◌≢◌, ◌↔◌, AllPairs}
use Rattle.mont_base.specs.declared.record.Held.{Held}
use Rattle.mont_base.specs.declared.operation.Op.{Op}
use Rattle.mont_base.specs.declared.effect.Effect.{Effect}
use Rattle.mont_base.specs.State.{State, step}
use Rattle.mont_laws.specs.Effects.{AreEffects, AreEffectsInTurn}
use Rattle.mont_laws.proofs.Removals.{removed_in_turn, removed_at_once, removed_apart}
use Rattle.mont_laws.proofs.Forms.{HaveForm, step_form}

-- no two have one identity
abbrev pub OtherIdentities : List Held → Type 0
OtherIdentities ws = AllPairs (λ (w z : Held). w.label.identity ≢ z.label.identity) ws

module _ (unit : ℕ) (rs : List Held) where
  none_in_turn : (ws : List Held) → AreEffects unit rs [] ws → AreEffectsInTurn unit rs [] ws
  none_in_turn [] h = tt
  none_in_turn (w ∷ ws) h = h

  none_at_once : (ws : List Held) → AreEffectsInTurn unit rs [] ws → AreEffects unit rs [] ws
  none_at_once [] h = tt
  none_at_once (w ∷ ws) h = h

  one_in_turn : (e : Effect) (ws : List Held) → AreEffects unit rs (e ∷ []) ws → AreEffectsInTurn unit rs (e ∷ []) ws
  one_in_turn e [] h = h
  one_in_turn e (w ∷ []) h = h
  one_in_turn e (w ∷ z ∷ ws) h = absurd h.1

  one_at_once : (e : Effect) (ws : List Held) → AreEffectsInTurn unit rs (e ∷ []) ws → AreEffects unit rs (e ∷ []) ws
  one_at_once e [] h = h
  one_at_once e (w ∷ []) h = h
  one_at_once e (w ∷ z ∷ ws) h = absurd h.1

  few_apart : (es : List Effect) (ws : List Held) → (es ≡ []) ⊎ ((e : Effect) × (es ≡ e ∷ [])) → AreEffects unit rs es ws
      → OtherIdentities ws
  few_apart es ws (inl e) h = by ws (subst (λ (es : List Effect). AreEffects unit rs es ws) e h)
    where
      by : (ws : List Held) → AreEffects unit rs [] ws → OtherIdentities ws
      by [] h = λ i j d lt within. absurd (omega arith)
      by (w ∷ ws) h = absurd h
  few_apart es ws (inr b) h = by ws (subst (λ (es : List Effect). AreEffects unit rs es ws) b.1 h)
    where
      by : (ws : List Held) → AreEffects unit rs (b.0 ∷ []) ws → OtherIdentities ws
      by [] h = absurd h
      by (w ∷ []) h = λ i j d lt within. absurd (omega arith)
      by (w ∷ z ∷ ws) h = absurd h.1

  forms_agree : (es : List Effect) (ws : List Held) → HaveForm es → AreEffects unit rs es ws ↔ AreEffectsInTurn unit rs es ws
  forms_agree es ws (inl e) = subst (λ (es : List Effect). AreEffects unit rs es ws ↔ AreEffectsInTurn unit rs es ws) (sym e)
      (none_in_turn ws, none_at_once ws)
  forms_agree es ws (inr (inl b)) = subst (λ (es : List Effect). AreEffects unit rs es ws ↔ AreEffectsInTurn unit rs es ws) (sym b.1)
      (one_in_turn b.0 ws, one_at_once b.0 ws)
  forms_agree es ws (inr (inr b)) = subst (λ (es : List Effect). AreEffects unit rs es ws ↔ AreEffectsInTurn unit rs es ws) (sym b.2)
      (removed_in_turn unit b.0 rs ws b.1, removed_at_once unit b.0 rs ws b.1)

  forms_apart : (es : List Effect) (ws : List Held) → HaveForm es → AreEffects unit rs es ws → OtherIdentities ws
  forms_apart es ws (inl e) h = few_apart es ws (inl e) h
  forms_apart es ws (inr (inl b)) h = few_apart es ws (inr b) h
  forms_apart es ws (inr (inr b)) h = removed_apart unit b.0 rs ws b.1 (subst (λ (es : List Effect). AreEffects unit rs es ws) b.2 h)

  -- the effects of an operation may be judged at once, or one after the other
  pub step_in_turn : (ws : List Held) (state : State) (op : Op) → AreEffects unit rs (step state op).effects ws
      ↔ AreEffectsInTurn unit rs (step state op).effects ws
  step_in_turn ws state op = forms_agree (step state op).effects ws (step_form state op)

  -- and they are of different identities
  pub step_apart : (ws : List Held) (state : State) (op : Op) → AreEffects unit rs (step state op).effects ws → OtherIdentities ws
  step_apart ws state op = forms_apart (step state op).effects ws (step_form state op)
