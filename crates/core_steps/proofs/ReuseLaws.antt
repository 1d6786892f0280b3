-- When a slot may be written again, and how many slots a unit has left.
use Rattle.std.proofs.Common.{◌≡◌, ℕ, ◌-◌, List, ap, subst, ⊎_elim, arith}
use Rattle.std.specs.Prelude.{slice_get, Some, None}
use Rattle.mont_base.specs.Image.{IsPermitted, epoch_at, words_at}
use Rattle.mont_base.specs.Layout.{word_of}
use Rattle.mont_laws.specs.UnitRecords.{ReadsUnit}
use Rattle.core_steps.specs.declared.parts.Core.{Core}
use Rattle.core_steps.specs.declared.parts.UnitPart.{UnitPart}
use Rattle.core_steps.specs.declared.parts.UnitStage.{UnitStage}
use Rattle.core_steps.specs.declared.parts.Writing.{Writing}
use Rattle.core_steps.specs.Clock.{clock, durable_clock}
use Rattle.core_steps.specs.Stages.{closing_slot}
use Rattle.core_steps.specs.Storing.{IsFreeSlot, LooksFree, CanStore}
use Rattle.core_steps.specs.Events.{IsSettled}
use Rattle.core_steps.specs.Sound.{Base, IsSound, base_state}
use Rattle.core_steps.specs.Reuse.{FreeSlotsAreUnseen, FirstStoresAreUnseen, ClosedSlotsAreUnneeded, ReclaimedHaveRoom}
use Rattle.core_steps.proofs.RoleFacts.{writing_fits, free_slot, free_fits}
use Rattle.core_steps.proofs.RoleImages.{free_in_images}
use Rattle.core_steps.proofs.RowFacts.{row_gives}
use Rattle.core_steps.proofs.StoreLaws.{some_slots, some_clock}
use Rattle.core_steps.proofs.CloseLaws.{lost_apart}
use Rattle.core_steps.proofs.CutLaws.{image_clock, image_unit}
use Rattle.core_steps.proofs.UnitCuts.{unit_closes_safely}
use Rattle.core_steps.proofs.UnitRoom.{unit_used_whole}

pub free_slots_are_unseen : FreeSlotsAreUnseen
free_slots_are_unseen base c image u slot p s at none free permitted =
    free_in_images c.layout (clock c) c.cur c.dur c.units u p s.slots at (some_slots c.layout s.sizes.layout) s.sizes.unit_count image slot
    permitted free none

-- the slot of a first store
module _ (base : Base) (c : Core) (image : List ℕ) (u slot : ℕ) (p : UnitPart) (s : IsSound base c)
    (at : slice_get c.units u ≡ Some p) (permitted : IsPermitted c.cur c.dur image) where
  unseen : p.writing ≡ None → LooksFree c.layout c.cur c.dur u p slot
      → (epoch_at image slot ≡ 0) × (words_at c.dur slot ≡ words_at c.cur slot)
  unseen none looks =
      let some = some_slots c.layout s.sizes.layout in
      let free : IsFreeSlot c.layout u p slot =
      free_slot c.layout (clock c) c.cur c.dur c.units u p s.slots at some s.sizes.unit_count slot looks none (some_clock base c s) in (
        free_slots_are_unseen base c image u slot p s at none free permitted,
        (free_fits c.layout (clock c) c.cur c.dur c.units u p s.slots at some s.sizes.unit_count slot free none).settled,
      )

  -- a record that is begun has a field already
  begun : (w : Writing) → p.writing ≡ Some w → w.stored ≡ 0 → ⊥
  begun w is none = let some = (writing_fits c.layout (clock c) c.cur c.dur c.units u p s.slots at w is).some in omega arith

pub first_stores_are_unseen : FirstStoresAreUnseen
first_stores_are_unseen base c image u slot value s may permitted =
    let k = row_gives
    (λ (p : UnitPart). CanStore (LooksFree c.layout c.cur c.dur u p slot) u p slot 1 value × IsSettled c.cur c.dur (word_of slot 1))
    (slice_get c.units u) may.1 in
    ⊎_elim
    (λ (t : (0 ≡ 0) × (k.0.writing ≡ None) × LooksFree c.layout c.cur c.dur u k.0 slot).
    unseen base c image u slot k.0 s k.1 permitted t.1 t.2)
    (λ (t : (w : Writing) × (k.0.writing ≡ Some w) × (w.slot ≡ slot) × (w.stored ≡ 0)).
    absurd (begun base c image u slot k.0 s k.1 permitted t.0 t.1 t.3))
    k.2.0.turn

pub closed_slots_are_unneeded : ClosedSlotsAreUnneeded
closed_slots_are_unneeded base c image u slot p s at can permitted state =
    let reads = subst (λ (x : UnitStage). ReadsUnit c.layout p.records (closing_slot x) image u) can.stage
    (image_unit base c image s permitted u p at) in
    unit_closes_safely c.layout base.clock (clock c) (durable_clock c) u (base_state base u) p image
    (some_slots c.layout s.sizes.layout) (s.units u p at) (λ n r h l. lost_apart base c u p s at n r h l) (s.clocks.of_units u p at)
    (image_clock base c image s permitted).0 slot can reads state

pub reclaimed_have_room : ReclaimedHaveRoom
reclaimed_have_room base c u p s at begun done = ap (λ (n : ℕ). c.layout.slots - n)
    (unit_used_whole c.layout base.clock (clock c) (durable_clock c) u (base_state base u) p (s.units u p at) begun done)
