-- What may have kept a call from being answered, told of what its unit was at some moment.
use Rattle.std.specs.Prelude.{◌≡◌, ◌↔◌, ℕ, ◌+◌, ◌-◌, ◌<◌, ◌≤◌, Bool, true, false, IsTrue, List, length, Any}
use Rattle.mont_base.specs.declared.constants.TheConstants.{LAST}
use Rattle.mont_base.specs.declared.operation.Op.{Op}
use Rattle.mont_base.specs.declared.operation.Op.TheVariants as ops
use Rattle.mont_base.specs.declared.effect.Effect.{Effect}
use Rattle.mont_base.specs.declared.record.Held.{Held}
use Rattle.mont_base.specs.declared.refusal.Which.{Which}
use Rattle.mont_base.specs.declared.refusal.Which.TheVariants as ends
use Rattle.mont_base.specs.State.{step, size_of}
use Rattle.mont_base.specs.Versions.{live_objects}
use Rattle.mont_base.specs.Counting.{LacksVersion, greatest_by, identity_of, is_enq, is_insertion, serial_of}
use Rattle.mont_base.specs.Room as full
use Rattle.mont_check.specs.declared.cause.Case.{Case}
use Rattle.mont_check.specs.declared.cause.Cause.{Cause}
use Rattle.mont_check.specs.declared.cause.Cause.TheVariants.{LacksRoom, NeedsMore, AtEnd}
use Rattle.mont_check.specs.declared.opened_numbers.Opening.{Opening}
use Rattle.mont_check.specs.OpenedNumbers.{IsOpening}
use Rattle.mont_check.specs.Walk.{Facts}

abbrev pub clock_of_cause : Cause → ℕ
clock_of_cause (LacksRoom need free clock) = clock
clock_of_cause (NeedsMore clock) = clock
clock_of_cause (AtEnd which calls) = 0

abbrev pub room_in : ℕ → Facts → ℕ
room_in slots f = slots - (size_of f.state + f.waiting)

abbrev pub LacksSerial : List Held → ℕ → Op → Type 0
LacksSerial records enqueued op =
    (is_enq op ≡ true)
    × (LAST ≤ greatest_by serial_of (live_objects records) + enqueued)

-- the number was at its end, where the operation would have had these effects
abbrev pub EndsWith : Which → ℕ → Op → List Held → Facts → List Effect → Type 0
EndsWith ends.Call calls op records f effects = LAST < calls
EndsWith ends.Place calls op records f effects = LAST < f.entries
EndsWith ends.Identity calls op records f effects =
    Any (λ e. is_insertion e ≡ true) effects × (LAST ≤ greatest_by identity_of records + f.inserted)
EndsWith ends.Version calls op records f effects =
    Any (LacksVersion (live_objects records) f.changed) effects
EndsWith ends.Serial calls op records f effects = LacksSerial records f.enqueued op

-- the cause of an operation on a unit of so many slots, which was opened with these records, where
-- this is true of the unit
abbrev pub IsCause : ℕ → Op → List Held → Cause → Facts → Type 0
IsCause slots op records (LacksRoom need free clock) f =
    full.LacksRoom (length (step f.state op).effects) (room_in slots f) need free
IsCause slots op records (NeedsMore clock) f =
    room_in slots f < length (step f.state op).effects
IsCause slots op records (AtEnd which calls) f =
    EndsWith which calls op records f (step f.state op).effects

abbrev pub HeldAfter : Case → List Held → Facts → Type 0
HeldAfter c records f = IsCause c.slots c.op records c.cause f

-- at most so many slots were free where the cause held
abbrev pub FreesAtMost : Case → ℕ → Type 0
FreesAtMost c most =
    (records : List Held) (f : Facts) → HeldAfter c records f → room_in c.slots f ≤ most

-- whichever the records were that tell this of the unit's opening
abbrev pub TellsHeld : Case → Opening → Facts → Bool → Type 0
TellsHeld c opening f b =
    (records : List Held) → IsOpening records opening → IsTrue b ↔ HeldAfter c records f

abbrev pub TellsEnd : Which → ℕ → Op → Opening → Facts → List Effect → Bool → Type 0
TellsEnd which calls op opening f effects b =
    (records : List Held) → IsOpening records opening
    → IsTrue b ↔ EndsWith which calls op records f effects

-- only the removal of a vertex changes several things
abbrev pub is_del_v : Op → Bool
is_del_v (ops.DelV unit vertex) = true
is_del_v _ = false
