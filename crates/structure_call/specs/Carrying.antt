-- What stands once a planned operation was carried out.
use Rattle.std.specs.Prelude.{◌≡◌, ℕ, ◌+◌, ◌-◌, ◌≤◌, false, List, [], ◌∷◌, ◌++◌, length, All, Option, Some, None, IsTrue, if◌then◌else◌}
use Rattle.mont_base.specs.declared.constants.TheConstants.{LAST}
use Rattle.mont_base.specs.declared.operation.Receipt.{Receipt}
use Rattle.mont_base.specs.declared.record.Change.{Change}
use Rattle.mont_base.specs.declared.record.Held.{Held}
use Rattle.mont_base.specs.declared.refusal.CallRefusal.{CallRefusal}
use Rattle.mont_base.specs.declared.refusal.CallRefusal.TheVariants.{Full, Cut}
use Rattle.mont_base.specs.Layout.{Shape}
use Rattle.mont_laws.specs.Records.{live_of}
use Rattle.heap.specs.HeapShown.{HeapShown, CallerShown}
use Rattle.op_guard.specs.declared.guard.Guard.{Guard}
use Rattle.op_guard.specs.Guarding.{IsFull}
use Rattle.op_guard.specs.Regions.{IsUnderWay, WasHalted}
use Rattle.slots.specs.Books.{BooksShown, RegionShown}
use Rattle.slots.specs.WrittenRecords.{NamesLive, inserts, identity_after, record_by, has_serial, serial_in, ends_version}

-- ---- what changes write into these slots, in their order
abbrev pub records_by : ℕ → ℕ → List Held → ℕ → List Change → List ℕ → List Held
records_by unit next kept epoch [] slots = []
records_by unit next kept epoch (c ∷ cs) [] = []
records_by unit next kept epoch (c ∷ cs) (slot ∷ slots) =
    record_by unit next kept c epoch slot
    ∷ records_by unit (identity_after next c) kept epoch cs slots

-- the last slot, if there is one
abbrev pub last_of : List ℕ → Option ℕ
last_of [] = None
last_of (n ∷ []) = Some n
last_of (n ∷ m ∷ ms) = last_of (m ∷ ms)

-- the serial that the next item is given after changes
abbrev pub serial_behind : Shape → ℕ → ℕ → List Change → ℕ
serial_behind s unit next [] = next
serial_behind s unit next (c ∷ cs) =
    serial_behind s unit (if has_serial s unit c then serial_in c + 1 else next) cs

-- ---- numbers
-- an item's serial isn't above the last number
abbrev pub HasSerialLeft : BooksShown → Change → Type 0
HasSerialLeft b c = IsTrue (has_serial b.layout b.unit c) → serial_in c ≤ LAST

-- there is a number for all that the changes are given
pub record CanPutAll (b : BooksShown) (records : List Held) (changes : List Change) : Type 0 where
  pub names : All (NamesLive records) changes
  pub identities : inserts changes ≤ LAST + 1 - b.identity
  pub versions : All (λ (c : Change). ends_version records c ≡ false) changes
  pub serials : All (HasSerialLeft b) changes

-- ---- what was carried out
-- The changes are written into slots, after records of which the same are live as before.
pub record HasCarried
    (old new : RegionShown) (changes : List Change) (receipt : Receipt) (last : Option ℕ)
    : Type 0 where
  pub kept : List Held
  pub live : (identity : ℕ)
      → live_of identity kept ≡ live_of identity old.seat.known.part.records
  pub slots : List ℕ
  pub each : length slots ≡ length changes
  pub last_is : last ≡ last_of slots
  pub records_are : new.seat.known.part.records
      ≡ kept ++ records_by old.books.unit old.books.identity kept receipt.entry.epoch changes slots
  pub identity : new.books.identity ≡ old.books.identity + inserts changes
  pub serial : new.books.serial
      ≡ serial_behind old.books.layout old.books.unit old.books.serial changes

-- The changes are written into slots at the guard's epoch, and of the unit nothing else changed.
pub record HasWrittenAll
    (heap : HeapShown) (old new : RegionShown) (before after : Guard) (changes : List Change)
    (last : Option ℕ) : Type 0 where
  pub slots : List ℕ
  pub each : length slots ≡ length changes
  pub last_is : last ≡ last_of slots
  pub guard_is : after ≡ record before { written = before.written + length changes }
  pub under_way : IsUnderWay heap after new
  pub part : new.seat.known.part ≡ record old.seat.known.part {
    writing = None;
    written = old.seat.known.part.written
        ++ records_by old.books.unit old.books.identity old.seat.known.part.records before.epoch
        changes slots;
  }
  pub of_unit : new.books.unit ≡ old.books.unit
  pub layout : new.books.layout ≡ old.books.layout
  pub identity : new.books.identity ≡ old.books.identity + inserts changes
  pub serial : new.books.serial
      ≡ serial_behind old.books.layout old.books.unit old.books.serial changes

-- too few slots are free for so many changes, or the gate cut
abbrev pub LeavesUncarried :
    HeapShown → RegionShown → RegionShown → CallerShown → CallerShown → ℕ → CallRefusal → Type 0
LeavesUncarried heap old new q r many (Full need free clock) =
    (need ≡ many) × IsFull heap old new q r need free clock
LeavesUncarried heap old new q r many (Cut unit) =
    (unit ≡ old.books.unit) × WasHalted heap old new q r
LeavesUncarried heap old new q r many _ = ⊥
