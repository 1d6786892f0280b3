-- When a slot may be written again, and how many slots a unit has left.
use Rattle.std.specs.Prelude.{◌≡◌, ◌↔◌, ℕ, ◌+◌, ◌-◌, ◌<◌, ◌≤◌, List, length, slice_get, All, Some, None}
use Rattle.mont_base.specs.Image.{IsPermitted, epoch_at, records_of, words_at}
use Rattle.mont_base.specs.Room.{room_of}
use Rattle.mont_base.specs.State.{State}
use Rattle.mont_base.specs.Versions.{live_objects}
use Rattle.mont_base.specs.Structure.{IsStructure}
use Rattle.mont_laws.specs.declared.retiring.Retired.{Retired}
use Rattle.mont_laws.specs.Records.{without_slot}
use Rattle.core_steps.specs.declared.event.Event.TheVariants as events
use Rattle.core_steps.specs.declared.parts.Core.{Core}
use Rattle.core_steps.specs.declared.parts.UnitPart.{UnitPart}
use Rattle.core_steps.specs.Storing.{IsFreeSlot}
use Rattle.core_steps.specs.Closing.{CanClose}
use Rattle.core_steps.specs.Events.{IsAllowed}
use Rattle.core_steps.specs.Sound.{Base, base_state, IsSound}

-- A slot into which a first store may go is open in no image that a crash permits.
abbrev pub FreeSlotsAreUnseen : Type 0
FreeSlotsAreUnseen =
    (base : Base) (c : Core) (image : List ℕ) (u slot : ℕ) (p : UnitPart) → IsSound base c
    → slice_get c.units u ≡ Some p → p.writing ≡ None → IsFreeSlot c.layout u p slot
    → IsPermitted c.cur c.dur image → epoch_at image slot ≡ 0

-- A first store goes into such a slot alone, and no word of it has a store pending.
abbrev pub FirstStoresAreUnseen : Type 0
FirstStoresAreUnseen =
    (base : Base) (c : Core) (image : List ℕ) (u slot value : ℕ) → IsSound base c
    → IsAllowed c (events.Store u slot 1 value) → IsPermitted c.cur c.dur image
    → (epoch_at image slot ≡ 0) × (words_at c.dur slot ≡ words_at c.cur slot)

-- the live objects of the unit make the same state with and without the slot
abbrev pub IsUnneeded : Core → List ℕ → ℕ → ℕ → Type 0
IsUnneeded c image u slot =
    (state : State)
    → IsStructure c.layout u (live_objects (records_of c.layout image u)) state
    ↔ IsStructure c.layout u
    (live_objects (without_slot slot (records_of c.layout image u))) state

-- A label is closed only where no image that a crash then permits needs the slot.
abbrev pub ClosedSlotsAreUnneeded : Type 0
ClosedSlotsAreUnneeded =
    (base : Base) (c : Core) (image : List ℕ) (u slot : ℕ) (p : UnitPart) → IsSound base c
    → slice_get c.units u ≡ Some p → CanClose p slot → IsPermitted c.cur c.dur image
    → IsUnneeded c image u slot

-- all that may be closed by the durable clock that the unit knows is closed
abbrev pub IsReclaimed : UnitPart → Type 0
IsReclaimed p = All (λ (t : Retired). p.durable < t.epoch + 2) p.retired

-- Then the slots without a record are the room that the history tells at that clock.
abbrev pub ReclaimedHaveRoom : Type 0
ReclaimedHaveRoom =
    (base : Base) (c : Core) (u : ℕ) (p : UnitPart) → IsSound base c
    → slice_get c.units u ≡ Some p → base.clock ≤ p.durable → IsReclaimed p
    → c.layout.slots - length p.records
    ≡ room_of c.layout.slots (base_state base u) p.history p.durable
