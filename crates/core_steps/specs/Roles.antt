-- What a slot is to its unit, and what its words then are.
use Rattle.std.specs.Prelude.{◌≡◌, ◌≢◌, ℕ, ◌+◌, ◌<◌, ◌≤◌, ◌⊎◌, Bool, true, List, slice_index, AllPairs, Some}
use Rattle.std.specs.List.{Contains}
use Rattle.mont_base.specs.declared.constants.TheConstants.{FIELDS}
use Rattle.mont_base.specs.declared.record.Held.{Held}
use Rattle.mont_base.specs.Layout.{Shape, total_of, unit_of_slot}
use Rattle.mont_base.specs.Image.{words_at}
use Rattle.mont_laws.specs.SlotReadings.{held_words, IsRecordOf}
use Rattle.mont_laws.specs.SlotImages.{closed_if, IsEpochOf}
use Rattle.core_steps.specs.declared.parts.UnitPart.{UnitPart}
use Rattle.core_steps.specs.declared.parts.UnitStage.TheVariants.{Within}
use Rattle.core_steps.specs.declared.parts.Writing.{Writing}
use Rattle.core_steps.specs.Places.{EachAt}
use Rattle.core_steps.specs.Stages.{is_closing}
use Rattle.core_steps.specs.Storing.{front_of}

-- A slot is free, or is being written, or was written in this epoch, or is a record's, or was left
-- open by a crash. The label of the last two may be closed, but not yet durably.
pub data Role : Type 0 where
  Free : Role
  Unfinished : (w : Writing) → Role
  Written : (w : Held) → Role
  Kept : (r : Held) (closing : Bool) → Role
  Lost : (closing : Bool) → Role

-- ---- In what follows ws are the current and ds the durable words of one slot.
pub record IsFree (ws ds : List ℕ) : Type 0 where
  pub closed : slice_index ws 0 ≡ 0
  pub settled : ds ≡ ws

-- no label in either memory, and no word beyond the stored fields has a store pending
pub record IsBegun (stored : ℕ) (ws ds : List ℕ) : Type 0 where
  pub closed : slice_index ws 0 ≡ 0
  pub was_closed : slice_index ds 0 ≡ 0
  pub settled : (f : ℕ) → stored < f → slice_index ds f ≡ slice_index ws f

-- the fields below this one, but for the label's epoch, are those of the record
abbrev pub HasFields : Held → ℕ → List ℕ → Type 0
HasFields r field ws =
    (f : ℕ) → 1 ≤ f → f < field → slice_index ws f ≡ slice_index (held_words r) f

-- What was stored are the first fields of a record.
pub record IsUnfinished (unit : ℕ) (w : Writing) (ws ds : List ℕ) : Type 0 where
  pub some : 1 ≤ w.stored
  pub few : w.stored < FIELDS
  pub begun : IsBegun w.stored ws ds
  pub whole : Held
  pub valid : IsRecordOf unit whole
  pub shown : w.change ≡ front_of whole w.stored
  pub in_slot : whole.slot ≡ w.slot
  pub fields : HasFields whole (w.stored + 1) ws

-- The record is current, and may be durable in part, but its durable label is its own or none.
pub record IsWritten (now unit : ℕ) (w : Held) (ws ds : List ℕ) : Type 0 where
  pub valid : IsRecordOf unit w
  pub near : now ≤ w.label.epoch + 1
  pub current : ws ≡ held_words w
  pub label : IsEpochOf w (slice_index ds 0)

-- A record two epochs old is durable word for word, and only such a one is being closed.
pub record IsKept (now unit : ℕ) (r : Held) (closing : Bool) (ws ds : List ℕ) : Type 0 where
  pub valid : IsRecordOf unit r
  pub current : ws ≡ closed_if closing (held_words r)
  pub label : IsEpochOf r (slice_index ds 0)
  pub old : r.label.epoch + 2 ≤ now → ds ≡ held_words r
  pub due : closing ≡ true → r.label.epoch + 2 ≤ now

-- A lost slot has a label beyond every cut that may come.
pub record IsLost (now : ℕ) (closing : Bool) (ws ds : List ℕ) : Type 0 where
  pub current : ws ≡ closed_if closing ds
  pub beyond : now < slice_index ds 0 + 2

abbrev pub SlotFits : ℕ → ℕ → Role → List ℕ → List ℕ → Type 0
SlotFits now unit Free ws ds = IsFree ws ds
SlotFits now unit (Unfinished w) ws ds = IsUnfinished unit w ws ds
SlotFits now unit (Written w) ws ds = IsWritten now unit w ws ds
SlotFits now unit (Kept r closing) ws ds = IsKept now unit r closing ws ds
SlotFits now unit (Lost closing) ws ds = IsLost now closing ws ds

-- ---- all slots
-- the words of each slot fit its role
abbrev pub WordsFit : Shape → (ℕ → Role) → ℕ → List ℕ → List ℕ → Type 0
WordsFit s role now cur dur =
    (slot : ℕ) → slot < total_of s
    → SlotFits now (unit_of_slot s slot) (role slot) (words_at cur slot) (words_at dur slot)

-- the part gives the slot this role
abbrev pub Says : UnitPart → ℕ → Role → Type 0
Says p slot Free = ⊥
Says p slot (Unfinished w) = (w.slot ≡ slot) × (p.writing ≡ Some w)
Says p slot (Written w) = (w.slot ≡ slot) × Contains p.written w
Says p slot (Kept r closing) =
    (r.slot ≡ slot) × (closing ≡ is_closing p.stage slot) × Contains p.records r
Says p slot (Lost closing) = (closing ≡ is_closing p.stage slot) × Contains p.lost slot

-- The slot has the role that the part gives it.
pub record HasRole (s : Shape) (role : ℕ → Role) (unit slot : ℕ) (x : Role) : Type 0 where
  pub inside : slot < total_of s
  pub of_unit : unit_of_slot s slot ≡ unit
  pub is : role slot ≡ x

-- The roles of a unit's slots are those that its part gives them, and every other slot is free. So
-- no slot has two roles.
pub record Shows (s : Shape) (role : ℕ → Role) (unit : ℕ) (p : UnitPart) : Type 0 where
  pub says : (slot : ℕ) (x : Role) → Says p slot x → HasRole s role unit slot x
  pub others : (slot : ℕ) → unit_of_slot s slot ≡ unit
      → (role slot ≡ Free) ⊎ Says p slot (role slot)
  pub writes : (w : Writing) → p.writing ≡ Some w → p.stage ≡ Within w.change.label.epoch
  pub wrote : (w : Held) → Contains p.written w → p.stage ≡ Within w.label.epoch
  -- none stands twice in a list
  pub written_once : AllPairs (λ (w z : Held). w.slot ≢ z.slot) p.written
  pub lost_once : AllPairs (λ (slot other : ℕ). slot ≢ other) p.lost

-- The words of a store are those of its units' slots.
pub record HasSlots (s : Shape) (now : ℕ) (cur dur : List ℕ) (units : List UnitPart) : Type 0 where
  pub role : ℕ → Role
  pub fits : WordsFit s role now cur dur
  pub shows : EachAt (Shows s role) units
