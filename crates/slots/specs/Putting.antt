-- How a region writes a record, and what becomes of written records once the unit has answered.
use Rattle.std.specs.Prelude.{◌≡◌, ℕ, ◌+◌, ◌<◌, ◌≤◌, ◌⊎◌, List, [], ◌∷◌, ◌++◌, length, Some, None}
use Rattle.mont_base.specs.declared.constants.TheConstants.{FIELDS, LAST}
use Rattle.mont_base.specs.declared.operation.Entry.{Entry}
use Rattle.mont_base.specs.declared.operation.Receipt.{Receipt}
use Rattle.mont_base.specs.declared.record.Change.{Change}
use Rattle.mont_base.specs.declared.record.Held.{Held}
use Rattle.mont_base.specs.Layout.{Shape, total_of}
use Rattle.mont_base.specs.State.{State, step}
use Rattle.mont_laws.specs.Effects.{AreEffects}
use Rattle.mont_laws.specs.SlotReadings.{IsRecordOf}
use Rattle.mont_laws.specs.Structures.{HasStructure}
use Rattle.core_steps.specs.declared.parts.UnitPart.{UnitPart}
use Rattle.core_steps.specs.declared.parts.UnitStage.TheVariants.{Within}
use Rattle.core_steps.specs.CallAnswers.{after_leave, after_read}
use Rattle.core_steps.specs.Storing.{IsFreeSlot, front_of}
use Rattle.heap.specs.HeapShown.{UnitShown}
use Rattle.heap_rule.specs.declared.views.UnitKnown.{UnitKnown}
use Rattle.slots.specs.Books.{BooksShown, RegionShown, AreBooksOf, IsAtRest, as_written}
use Rattle.slots.specs.WrittenRecords.{identity_after, serial_after, record_by}

-- ---- the unit is registered at the epoch, and no slot is unfinished
pub record MayWrite (p : UnitPart) (epoch : ℕ) : Type 0 where
  pub stage : p.stage ≡ Within epoch
  pub whole : p.writing ≡ None
  pub some : 1 ≤ epoch
  pub last : epoch ≤ LAST

-- ---- what the stores of a record leave
-- its first fields after the label's epoch were stored, so many
abbrev pub unit_writing : UnitKnown → Held → ℕ → UnitKnown
unit_writing h w n = record h {
  part = record h.part {
    writing = Some (record { slot = w.slot; change = front_of w n; stored = n });
  };
  steps = h.steps + n;
}

-- all were
abbrev pub unit_put : UnitKnown → Held → UnitKnown
unit_put h w = record h {
  part = record h.part { writing = None; written = h.part.written ++ w ∷ [] };
  steps = h.steps + FIELDS;
}

-- Before the first store nothing changed.
pub record StoresBegin (h now : UnitKnown) (w : Held) : Type 0 where
  pub stored : ℕ
  pub some : 1 ≤ stored
  pub few : stored < FIELDS
  pub shows : now ≡ unit_writing h w stored

abbrev pub IsUnfinishedAt : UnitShown → UnitShown → Held → Type 0
IsUnfinishedAt old new w =
    (new ≡ old) ⊎ ((new.table ≡ old.table) × StoresBegin old.known new.known w)

-- what the stores of a record need
pub record MayStore (s : Shape) (h : UnitKnown) (w : Held) : Type 0 where
  pub running : h.part.frozen ≡ None
  pub registered : MayWrite h.part w.label.epoch
  pub unused : IsFreeSlot s h.unit h.part w.slot
  pub inside : w.slot < total_of s
  pub valid : IsRecordOf h.unit w

-- ---- what the region writes
abbrev pub put_by : RegionShown → Change → ℕ → ℕ → Held
put_by r change epoch slot =
    record_by r.books.unit r.books.identity r.seat.known.part.records change epoch slot

abbrev pub seat_put : RegionShown → Change → ℕ → ℕ → UnitShown
seat_put r change epoch slot =
    record r.seat { known = unit_put r.seat.known (put_by r change epoch slot) }

-- The first free slot is taken.
abbrev pub books_put : RegionShown → Change → ℕ → ℕ → List ℕ → BooksShown
books_put r change epoch slot rest = record r.books {
  free = rest;
  written = r.books.written
      ++ as_written r.seat.known.part.records (put_by r change epoch slot) ∷ [];
  identity = identity_after r.books.identity change;
  serial = serial_after r.books change;
}

pub record HasPut
    (old new : RegionShown) (change : Change) (epoch slot : ℕ) : Type 0 where
  pub rest : List ℕ
  pub first : old.books.free ≡ slot ∷ rest
  pub seat_is : new.seat ≡ seat_put old change epoch slot
  pub books_are : new.books ≡ books_put old change epoch slot rest

-- Nothing of the books changed, and the first free slot may be written in part.
abbrev pub FirstIsUnfinished : RegionShown → UnitShown → Change → ℕ → List ℕ → Type 0
FirstIsUnfinished old new change epoch [] = ⊥
FirstIsUnfinished old new change epoch (slot ∷ rest) =
    IsUnfinishedAt old.seat new (put_by old change epoch slot)

pub record WasCutPutting (old new : RegionShown) (change : Change) (epoch : ℕ) : Type 0 where
  pub books_are : new.books ≡ old.books
  pub unfinished : FirstIsUnfinished old new.seat change epoch old.books.free

-- ---- answers
-- the unit left its epoch with what was written, which are the effects of the operation on the
-- state that its records showed, or read
pub record HasLeft (s : Shape) (unit : ℕ) (before now : UnitPart) (e : Entry) : Type 0 where
  pub leaves : now ≡ after_leave before e
  pub state : State
  pub shown : HasStructure s unit before.records state
  pub changes : AreEffects unit before.records (step state e.op).effects before.written

-- the unit was at rest
pub record HasRead (before now : UnitPart) (e : Entry) : Type 0 where
  pub rests : IsAtRest before
  pub reads : now ≡ after_read before e

-- The books are still those of before the answer.
pub record HasJustAnswered (r : RegionShown) (receipt : Receipt) : Type 0 where
  pub before : UnitPart
  pub unit_is : r.books.unit ≡ r.seat.known.unit
  pub books_are : AreBooksOf before r.books
  pub place : receipt.place ≡ length before.history
  pub last : receipt.place ≤ LAST
  pub answered : HasLeft r.books.layout r.books.unit before r.seat.known.part receipt.entry
      ⊎ HasRead before r.seat.known.part receipt.entry
