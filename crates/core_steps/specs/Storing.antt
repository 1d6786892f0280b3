-- How a unit writes a record into a slot: its fields from the second on, in their order, and the
-- label's epoch last.
use Rattle.std.specs.Prelude.{◌≡◌, ◌≢◌, ℕ, zero, suc, ◌+◌, ◌-◌, ◌/◌, ◌<◌, ◌⊎◌, List, [], ◌∷◌, ◌++◌, take, replicate, slice_index, slice_set, unwrap_or, Option, Some, None}
use Rattle.std.specs.List.{Contains}
use Rattle.mont_base.specs.declared.constants.TheConstants.{FIELDS}
use Rattle.mont_base.specs.declared.record.Held.{Held}
use Rattle.mont_base.specs.declared.record.Kind.{Kind}
use Rattle.mont_base.specs.declared.record.Kind.TheVariants as kinds
use Rattle.mont_base.specs.Layout.{Shape, word_of, unit_of_slot}
use Rattle.mont_base.specs.Record.{kind_of_number, label_at, body_at}
use Rattle.mont_base.specs.Image.{epoch_at}
use Rattle.mont_laws.specs.SlotReadings.{held_words, IsRecordOf}
use Rattle.core_steps.specs.declared.parts.Core.{Core}
use Rattle.core_steps.specs.declared.parts.UnitPart.{UnitPart}
use Rattle.core_steps.specs.declared.parts.UnitStage.TheVariants.{Within}
use Rattle.core_steps.specs.declared.parts.Writing.{Writing}
use Rattle.core_steps.specs.Stages.{epoch_of}

-- ---- a record that isn't written whole
-- the record that the words of a slot would be; where they show no kind, it is taken to be New
abbrev pub kind_shown : List ℕ → Kind
kind_shown words = unwrap_or (kind_of_number (slice_index words 1 / 256)) kinds.New

abbrev pub held_at : ℕ → List ℕ → Held
held_at slot words =
    record { slot = slot; label = label_at (kind_shown words) words; body = body_at words }

-- the first words of a record, its epoch and so many fields, and 0 for the others
abbrev pub front_words : Held → ℕ → List ℕ
front_words r stored = take (stored + 1) (held_words r) ++ replicate (FIELDS - (stored + 1)) 0

abbrev pub front_of : Held → ℕ → Held
front_of r stored = held_at r.slot (front_words r stored)

-- nothing but an epoch
abbrev pub blank : ℕ → ℕ → Held
blank slot epoch = held_at slot (epoch ∷ replicate (FIELDS - 1) 0)

abbrev pub with_field : Held → ℕ → ℕ → Held
with_field r field value = held_at r.slot (slice_set (held_words r) field value)

-- what the unit has written so far into a slot
abbrev pub change_in : Option Writing → ℕ → ℕ → Held
change_in None slot epoch = blank slot epoch
change_in (Some w) slot epoch = w.change

-- ---- what the step needs
-- a slot that nothing of the unit is in
pub record IsFreeSlot (s : Shape) (u : ℕ) (p : UnitPart) (slot : ℕ) : Type 0 where
  pub of_unit : unit_of_slot s slot ≡ u
  pub no_record : (r : Held) → Contains p.records r → r.slot ≢ slot
  pub none_written : (w : Held) → Contains p.written w → w.slot ≢ slot
  pub not_lost : Contains p.lost slot → ⊥

-- a slot that is closed in both memories and in no record
pub record LooksFree (s : Shape) (cur dur : List ℕ) (u : ℕ) (p : UnitPart) (slot : ℕ) : Type 0 where
  pub of_unit : unit_of_slot s slot ≡ u
  pub no_record : (r : Held) → Contains p.records r → r.slot ≢ slot
  pub closed : epoch_at cur slot ≡ 0
  pub was_closed : epoch_at dur slot ≡ 0

-- Nothing is being written and the slot may be begun, or n fields of it were stored.
abbrev pub IsTurn : Type 0 → UnitPart → ℕ → ℕ → Type 0
IsTurn may_begin p slot n =
    ((n ≡ 0) × (p.writing ≡ None) × may_begin)
    ⊎ ((w : Writing) × (p.writing ≡ Some w) × (w.slot ≡ slot) × (w.stored ≡ n))

-- The value of field n + 1 is that of a record of the unit, of the announced epoch, whose first
-- fields were stored.
pub record CanStoreField
    (may_begin : Type 0) (u : ℕ) (p : UnitPart) (slot n value : ℕ) : Type 0 where
  pub unfrozen : p.frozen ≡ None
  pub epoch : ℕ
  pub stage : p.stage ≡ Within epoch
  pub field : n + 1 < FIELDS
  pub turn : IsTurn may_begin p slot n
  pub whole : Held
  pub valid : IsRecordOf u whole
  pub in_slot : whole.slot ≡ slot
  pub of_epoch : whole.label.epoch ≡ epoch
  pub before : change_in p.writing slot epoch ≡ front_of whole n
  pub stores : value ≡ slice_index (held_words whole) (n + 1)

-- all other fields were stored
pub record CanStoreLabel (p : UnitPart) (slot value : ℕ) : Type 0 where
  pub unfrozen : p.frozen ≡ None
  pub stage : p.stage ≡ Within value
  pub writing : Writing
  pub is : p.writing ≡ Some writing
  pub in_slot : writing.slot ≡ slot
  pub last : writing.stored + 1 ≡ FIELDS

abbrev pub CanStore : Type 0 → ℕ → UnitPart → ℕ → ℕ → ℕ → Type 0
CanStore may_begin u p slot zero value = CanStoreLabel p slot value
CanStore may_begin u p slot (suc n) value = CanStoreField may_begin u p slot n value

-- ---- what the step leaves
abbrev pub after_store_field : UnitPart → ℕ → ℕ → ℕ → UnitPart
after_store_field p slot field value = record p {
  writing = Some (record {
    slot = slot;
    change = with_field (change_in p.writing slot (epoch_of p.stage)) field value;
    stored = field;
  });
}

abbrev pub after_store_label : UnitPart → ℕ → UnitPart
after_store_label p slot = record p {
  writing = None;
  written = p.written ++ change_in p.writing slot (epoch_of p.stage) ∷ [];
}

abbrev pub after_store : UnitPart → ℕ → ℕ → ℕ → UnitPart
after_store p slot zero value = after_store_label p slot
after_store p slot (suc n) value = after_store_field p slot (suc n) value

abbrev pub store : Core → ℕ → UnitPart → ℕ → ℕ → ℕ → Core
store c u p slot field value = record c {
  cur = slice_set c.cur (word_of slot field) value;
  units = slice_set c.units u (after_store p slot field value);
}
