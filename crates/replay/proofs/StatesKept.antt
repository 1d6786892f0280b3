-- The states to which the histories of all units lead, from event to event.
use Rattle.std.proofs.Common.{◌≡◌, ℕ, suc, zero, Option, Some, None, List, slice_get, refl, sym, ap, ◌∙◌}
use Rattle.std.specs.Prelude.{slice_set, map}
use Rattle.std.proofs.Math.Seq.{map-set_same}
use Rattle.std.proofs.lemmas.Option.{get_or_from_slice_get}
use Rattle.mont_base.specs.declared.operation.Entry.{Entry}
use Rattle.core_steps.specs.declared.event.Event.{Event}
use Rattle.core_steps.specs.declared.event.Event.TheVariants as events
use Rattle.core_steps.specs.declared.parts.Core.{Core}
use Rattle.core_steps.specs.declared.parts.Part.TheVariants as parts
use Rattle.core_steps.specs.declared.parts.UnitPart.{UnitPart}
use Rattle.core_steps.specs.declared.parts.CallerPart.{CallerPart}
use Rattle.core_steps.specs.Places.{on_row}
use Rattle.core_steps.specs.Clock.{clock, durable_clock}
use Rattle.core_steps.specs.Notes.{histories_of, hear}
use Rattle.core_steps.specs.Announcing.{tell, after_tell, confirm, after_confirm, withdraw, after_withdraw, freeze, after_freeze}
use Rattle.core_steps.specs.Storing.{store, after_store}
use Rattle.core_steps.specs.Closing.{load_durable, after_load_durable, see_durable, close_label, after_close_label, persist_close, after_persist_close}
use Rattle.core_steps.specs.Events.{after, closing_of}

-- ---- units of which something stays
module _ {A : Type 0} (f : UnitPart → A) where
  unit_kept : (us : List UnitPart) (u : ℕ) (p q : UnitPart) → slice_get us u ≡ Some p → f q ≡ f p → map f (slice_set us u q) ≡ map f us
  unit_kept us u p q at same = map-set_same f us u q p (same ∙ ap f (sym (get_or_from_slice_get us u p p at)))

  pub unit_row : (c : Core) (u : ℕ) (o : Option UnitPart) (h : UnitPart → Core) (g : UnitPart → UnitPart) → slice_get c.units u ≡ o
      → ((p : UnitPart) → (h p).units ≡ slice_set c.units u (g p)) → ((p : UnitPart) → f (g p) ≡ f p)
      → map f (on_row o c h).units ≡ map f c.units
  unit_row c u None h g at sets kept = refl
  unit_row c u (Some p) h g at sets kept = ap (map f) (sets p) ∙ unit_kept c.units u p (g p) at (kept p)

  pub caller_row : (c : Core) (o : Option CallerPart) (h : CallerPart → Core) → ((q : CallerPart) → (h q).units ≡ c.units)
      → map f (on_row o c h).units ≡ map f c.units
  caller_row c None h same = refl
  caller_row c (Some q) h same = ap (map f) (same q)

  -- where a unit and a caller are changed
  pub both_rows : (c : Core) (u : ℕ) (o : Option UnitPart) (r : Option CallerPart) (h : UnitPart → CallerPart → Core)
      → (g : UnitPart → CallerPart → UnitPart) → slice_get c.units u ≡ o
      → ((p : UnitPart) (q : CallerPart) → (h p q).units ≡ slice_set c.units u (g p q))
      → ((p : UnitPart) (q : CallerPart) → f (g p q) ≡ f p)
      → map f (on_row o c (λ p. on_row r c (λ q. h p q))).units ≡ map f c.units
  both_rows c u None r h g at sets kept = refl
  both_rows c u (Some p) None h g at sets kept = refl
  both_rows c u (Some p) (Some q) h g at sets kept = ap (map f) (sets p q) ∙ unit_kept c.units u p (g p q) at (kept p q)

-- ---- units whose histories stay
abbrev history : UnitPart → List Entry
history p = p.history

store_kept : (p : UnitPart) (slot field value : ℕ) → (after_store p slot field value).history ≡ p.history
store_kept p slot zero value = refl
store_kept p slot (suc n) value = refl

-- an event that answers nobody
abbrev pub IsQuiet : Event → Type 0
IsQuiet (events.Leave u k o r) = ⊥
IsQuiet (events.Read u k o r) = ⊥
IsQuiet _ = Unit {0}

pub quiet_kept : (c : Core) (e : Event) → IsQuiet e → histories_of (after c e).units ≡ histories_of c.units
quiet_kept c (events.Look u) quiet = refl
quiet_kept c (events.Tell u e) quiet = unit_row history c u _ (λ p. tell c u p e) (λ p. after_tell p e) refl (λ p. refl) (λ p. refl)
quiet_kept c (events.Confirm u) quiet = unit_row history c u _ (λ p. confirm c u p) (λ p. after_confirm p (clock c)) refl
    (λ p. refl) (λ p. refl)
quiet_kept c (events.Store u slot field value) quiet =
    unit_row history c u _ (λ p. store c u p slot field value) (λ p. after_store p slot field value) refl (λ p. refl)
    (λ p. store_kept p slot field value)
quiet_kept c (events.Leave u k op reply) quiet = absurd quiet
quiet_kept c (events.Read u k op reply) quiet = absurd quiet
quiet_kept c (events.Withdraw u) quiet = unit_row history c u _ (λ p. withdraw c u p) (λ p. after_withdraw p) refl (λ p. refl) (λ p. refl)
quiet_kept c (events.Freeze u k) quiet =
    both_rows history c u _ _ (λ p q. freeze c u p k q) (λ p q. after_freeze p k) refl (λ p q. refl) (λ p q. refl)
quiet_kept c (events.LoadDurable (parts.Unit u)) quiet =
    unit_row history c u _ (λ p. load_durable c u p) (λ p. after_load_durable p (durable_clock c)) refl (λ p. refl) (λ p. refl)
quiet_kept c (events.LoadDurable parts.Advancer) quiet = refl
quiet_kept c (events.LoadDurable (parts.Caller k)) quiet = caller_row history c _ (λ q. see_durable c k q) (λ q. refl)
quiet_kept c (events.CloseLabel u slot) quiet =
    unit_row history c u _ (λ p. close_label c u p slot) (λ p. after_close_label p slot) refl (λ p. refl) (λ p. refl)
quiet_kept c (events.PersistClose u) quiet =
    unit_row history c u _ (λ p. persist_close c u p (closing_of p.stage)) (λ p. after_persist_close p (closing_of p.stage)) refl
    (λ p. refl) (λ p. refl)
quiet_kept c events.Check quiet = refl
quiet_kept c events.LoadWord quiet = refl
quiet_kept c events.PersistWord quiet = refl
quiet_kept c events.SetClock quiet = refl
quiet_kept c events.PersistClock quiet = refl
quiet_kept c (events.Split part) quiet = refl
quiet_kept c (events.Join (parts.Unit u) note) quiet = refl
quiet_kept c (events.Join parts.Advancer note) quiet = refl
quiet_kept c (events.Join (parts.Caller k) note) quiet = caller_row history c _ (λ q. hear c k q note) (λ q. refl)
quiet_kept c (events.Exchange part) quiet = refl
