-- What is decided of parts decides whether the core allows a step.
use Rattle.std.proofs.Common.{◌≡◌, ℕ, Bool, sym, refl, subst}
use Rattle.std.specs.Prelude.{◌↔◌, ◌≢◌, Option, Some, Result, Ok, Err, IfOk, IsTrue}
use Rattle.core_steps.specs.declared.event.Event.{Event}
use Rattle.core_steps.specs.declared.event.Event.TheVariants as events
use Rattle.core_steps.specs.declared.parts.Core.{Core}
use Rattle.core_steps.specs.declared.parts.Part.{Part}
use Rattle.core_steps.specs.declared.parts.Note.{Note}
use Rattle.core_steps.specs.Places.{RowHas}
use Rattle.core_steps.specs.Events.{AreNoneLost, UnitMay, IsAllowed}

-- ---- what is decided of an item that was found is decided of the row
row_decided : {A E : Type 0} (r : Result Bool E) (o : Option A) (a : A) (P : A → Type 0) → o ≡ Some a → IfOk r (λ b. IsTrue b ↔ P a)
    → IfOk r (λ b. IsTrue b ↔ RowHas o P)
row_decided r o a P at told = subst (λ t. IfOk r (λ b. IsTrue b ↔ RowHas t P)) (sym at) told

-- and so it is of two
pub rows_decided :
    {A B E : Type 0} (r : Result Bool E) (o : Option A) (a : A) (t : Option B) (b : B) (P : A → B → Type 0) → o ≡ Some a → t ≡ Some b
    → IfOk r (λ x. IsTrue x ↔ P a b) → IfOk r (λ x. IsTrue x ↔ RowHas o (λ p. RowHas t (P p)))
rows_decided r o a t b P at there told =
    row_decided r o a (λ p. RowHas t (P p)) at (row_decided r t b (P a) there told)

-- ---- steps that wait for lost slots
-- the step isn't one of those by which a store is looked at and swept
pub record Waits (e : Event) : Type 0 where
  pub not_look : (u : ℕ) → e ≢ events.Look u
  pub not_load : (part : Part) → e ≢ events.LoadDurable part
  pub not_close : (u slot : ℕ) → e ≢ events.CloseLabel u slot
  pub not_persist : (u : ℕ) → e ≢ events.PersistClose u
  pub not_split : (part : Part) → e ≢ events.Split part
  pub not_join : (part : Part) (note : Note) → e ≢ events.Join part note
  pub not_exchange : (part : Part) → e ≢ events.Exchange part

-- it is allowed where the unit may make it, once no slot is lost
allowed_unswept : (c : Core) (e : Event) → Waits e → AreNoneLost c.units → UnitMay c e ↔ IsAllowed c e
allowed_unswept c (events.Look u) w none = absurd (w.not_look u refl)
allowed_unswept c (events.Tell u x) w none = (λ may. (none, may), λ a. a.1)
allowed_unswept c (events.Confirm u) w none = (λ may. (none, may), λ a. a.1)
allowed_unswept c (events.Store u slot field value) w none = (λ may. (none, may), λ a. a.1)
allowed_unswept c (events.Leave u k op reply) w none = (λ may. (none, may), λ a. a.1)
allowed_unswept c (events.Read u k op reply) w none = (λ may. (none, may), λ a. a.1)
allowed_unswept c (events.Withdraw u) w none = (λ may. (none, may), λ a. a.1)
allowed_unswept c (events.Freeze u k) w none = (λ may. (none, may), λ a. a.1)
allowed_unswept c (events.LoadDurable part) w none = absurd (w.not_load part refl)
allowed_unswept c (events.CloseLabel u slot) w none = absurd (w.not_close u slot refl)
allowed_unswept c (events.PersistClose u) w none = absurd (w.not_persist u refl)
allowed_unswept c events.Check w none = (λ may. (none, may), λ a. a.1)
allowed_unswept c events.LoadWord w none = (λ may. (none, may), λ a. a.1)
allowed_unswept c events.PersistWord w none = (λ may. (none, may), λ a. a.1)
allowed_unswept c events.SetClock w none = (λ may. (none, may), λ a. a.1)
allowed_unswept c events.PersistClock w none = (λ may. (none, may), λ a. a.1)
allowed_unswept c (events.Split part) w none = absurd (w.not_split part refl)
allowed_unswept c (events.Join part note) w none = absurd (w.not_join part note refl)
allowed_unswept c (events.Exchange part) w none = absurd (w.not_exchange part refl)

pub unswept_decided : {E : Type 0} (r : Result Bool E) (c : Core) (e : Event) → Waits e → AreNoneLost c.units
    → IfOk r (λ b. IsTrue b ↔ UnitMay c e) → IfOk r (λ b. IsTrue b ↔ IsAllowed c e)
unswept_decided (Ok b) c e w none told =
    let same = allowed_unswept c e w none in (λ t. same.0 (told.0 t), λ a. told.1 (same.1 a))
unswept_decided (Err x) c e w none told = tt
