-- Operations that change something, and what they retire.
use Rattle.std.proofs.Common.{◌≡◌, ◌≢◌, ◌⊎◌, ℕ, ◌+◌, ◌<◌, Bool, true, false, List, [], ◌∷◌, drop, get_or, length, inl, inr, refl, sym, ap, subst, ◌∙◌}
use Rattle.std.specs.Prelude.{sum_by, if◌then◌else◌}
use Rattle.mont_base.specs.declared.effect.Effect.{Effect}
use Rattle.mont_base.specs.declared.operation.Entry.{Entry}
use Rattle.mont_base.specs.Room.{retires}
use Rattle.mont_base.specs.State.{State, step}
use Rattle.plain.specs.Changes.{SomeChanges}
use Rattle.plain.proofs.Lists.{opened}

-- what retires something is an effect
pub none_or_some : (es : List Effect) → (sum_by retires es ≡ 0) ⊎ (es ≢ [])
none_or_some [] = inl refl
none_or_some (e ∷ es) = inr (λ h. cc)

pub late_or_some :
    (late : Bool) (es : List Effect) (n : ℕ) → n ≡ (if late then sum_by retires es else 0) → (n ≡ 0) ⊎ (es ≢ [])
late_or_some true es n is = elim (none_or_some es) [
  | inl nothing ↦ inl (is ∙ nothing)
  | inr some ↦ inr some
]
late_or_some false es n is = inl is

-- ---- an entry of a history
module _ (s : State) (h : List Entry) (i : ℕ) (e : Entry) (inside : i < length h) (is : e ≡ get_or h i e) where
  here : drop i h ≡ e ∷ drop (i + 1) h
  here = opened h i e inside ∙ ap (λ (x : Entry). x ∷ drop (i + 1) h) (sym is)

  -- what it changes is changed by what is left
  pub changed_here : (step s e.op).effects ≢ [] → SomeChanges s (drop i h)
  changed_here some = subst (SomeChanges s) (sym here) (inl some)

  -- and so is what is changed after it
  pub changed_behind : (next : State) → next ≡ (step s e.op).state → SomeChanges next (drop (i + 1) h) → SomeChanges s (drop i h)
  changed_behind next stepped some =
      subst (SomeChanges s) (sym here) (inr (subst (λ (t : State). SomeChanges t (drop (i + 1) h)) stepped some))
