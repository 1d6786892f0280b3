-- The condition of a store, where the field isn't that of the label's epoch.
use Rattle.std.proofs.Common.{◌≡◌, ◌≢◌, ℕ, zero, suc, ◌-◌, refl, subst, arith}
use Rattle.core_steps.specs.declared.parts.UnitPart.{UnitPart}
use Rattle.core_steps.specs.Storing.{CanStoreField, CanStore}

module _ (may : Type 0) (u : ℕ) (p : UnitPart) (slot value : ℕ) where
  pub store_from_field : (field : ℕ) → field ≢ 0 → CanStoreField may u p slot (field - 1) value → CanStore may u p slot field value
  store_from_field zero some can = absurd (some refl)
  store_from_field (suc n) some can =
      let before : suc n - 1 ≡ n = omega arith in subst (λ (m : ℕ). CanStoreField may u p slot m value) before can

  pub field_from_store : (field : ℕ) → field ≢ 0 → CanStore may u p slot field value → CanStoreField may u p slot (field - 1) value
  field_from_store zero some can = absurd (some refl)
  field_from_store (suc n) some can =
      let before : n ≡ suc n - 1 = omega arith in subst (λ (m : ℕ). CanStoreField may u p slot m value) before can
