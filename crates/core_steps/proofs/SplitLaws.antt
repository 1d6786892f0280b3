-- What a part of a sound core shows is true of the core.
use Rattle.std.proofs.Common.{◌≡◌, ◌<◌, length, refl, subst}
use Rattle.std.specs.Prelude.{slice_get, Option, Some, None}
use Rattle.std.proofs.lemmas.Option.{same_Some}
use Rattle.core_steps.specs.declared.parts.Core.{Core}
use Rattle.core_steps.specs.declared.parts.Note.{Note}
use Rattle.core_steps.specs.declared.parts.Part.{Part}
use Rattle.core_steps.specs.declared.parts.Part.TheVariants as parts
use Rattle.core_steps.specs.declared.parts.UnitPart.{UnitPart}
use Rattle.core_steps.specs.Clock.{clock, durable_clock}
use Rattle.core_steps.specs.Notes.{unit_note, advancer_note, caller_note, note_of, histories_of, cuts_of, IsTrueNote}
use Rattle.core_steps.specs.Places.{on_row}
use Rattle.core_steps.specs.Sound.{Base, base_state, IsSound}
use Rattle.core_steps.specs.Stages.{passed_of}
use Rattle.core_steps.proofs.NoteLaws.{unit_note_true, advancer_note_true, caller_note_true}

-- what is shown of a row is that of the item in it
shown_of : {A B : Type 0} (f : A → B) (o : Option A) (b : B) → on_row o None (λ a. Some (f a)) ≡ Some b → (a : A) × (o ≡ Some a) × (f a ≡ b)
shown_of f None b e = absurd (cc)
shown_of f (Some a) b e = (a, refl, same_Some (f a) b e)

module _ (base : Base) (c : Core) (sound : IsSound base c) where
  -- the note of each part
  pub split_is_true : (part : Part) (note : Note) → note_of c part ≡ Some note → IsTrueNote c note
  split_is_true (parts.Unit u) note e =
      let p = shown_of (λ (p : UnitPart). unit_note (length c.units) u p) (slice_get c.units u) note e in
      subst (IsTrueNote c) p.2
      (unit_note_true c.layout base.clock (clock c) (durable_clock c) u (base_state base u)
      (u < passed_of (length c.units) c.advancer) c.units p.0 p.1 (sound.units u p.0 p.1) (sound.registration u p.0 p.1)
      (sound.clocks.of_units u p.0 p.1))
  split_is_true parts.Advancer note e =
      subst (IsTrueNote c) (same_Some (advancer_note (length c.units) (durable_clock c) c.odd) note e)
      (advancer_note_true (clock c) (durable_clock c) c.units c.callers c.odd sound.callers)
  split_is_true (parts.Caller k) note e =
      let q = shown_of caller_note (slice_get c.callers k) note e in
      subst (IsTrueNote c) q.2
      (caller_note_true (histories_of c.units) (cuts_of c.units) (clock c) (durable_clock c) k c.callers q.0 c.odd q.1 sound.callers
      (sound.clocks.of_callers k q.0 q.1))
