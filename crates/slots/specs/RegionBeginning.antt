-- With what a region begins.
use Rattle.std.specs.Prelude.{◌≡◌, ◌≢◌, ◌==◌, ℕ, ◌+◌, ◌≤◌, Bool, false, ◌||◌, not, List, [], filter, map, replicate, max, All, AllPairs, None, slice_index, IsTrue, if◌then◌else◌}
use Rattle.std.specs.List.{fold, list_any}
use Rattle.mont_base.specs.declared.constants.TheConstants.{LAST}
use Rattle.mont_base.specs.declared.record.Held.{Held}
use Rattle.mont_base.specs.declared.record.Object.{Object}
use Rattle.mont_base.specs.Image.{slots_of}
use Rattle.mont_base.specs.Layout.{Shape, unit_of_slot}
use Rattle.mont_base.specs.Versions.{live_objects}
use Rattle.mont_laws.specs.Records.{AreApart}
use Rattle.mont_laws.specs.Retiring.{retired_among}
use Rattle.mont_laws.specs.SlotReadings.{IsRecordOf}
use Rattle.core_steps.specs.declared.parts.UnitPart.{UnitPart}
use Rattle.core_steps.specs.Opened.{by_version}
use Rattle.slots.specs.Books.{BooksShown, IsAtRest, rows_of, slots_in}
use Rattle.slots.specs.Serials.{is_queue}

-- The unit is at rest, has answered nothing, and has these records and lost slots.
pub record BeginsWith (p : UnitPart) (records : List Held) (lost : List ℕ) : Type 0 where
  pub rests : IsAtRest p
  pub frozen : p.frozen ≡ None
  pub history : p.history ≡ []
  pub records_are : p.records ≡ records
  pub retired : p.retired ≡ retired_among (by_version records)
  pub lost_are : p.lost ≡ lost

-- ---- numbers
abbrev pub greatest : List ℕ → ℕ
greatest numbers = fold max 0 numbers

abbrev pub identities_in : List Held → List ℕ
identities_in records = map (λ (r : Held). r.label.identity) records

abbrev pub serial_of : Object → ℕ
serial_of o = slice_index o.body 0

abbrev pub live_serials : List Held → List ℕ
live_serials records = map serial_of (live_objects records)

-- the next serial of a queue, by its live items; 1 in another unit
abbrev pub serial_at_first : Shape → ℕ → List Held → ℕ
serial_at_first s unit records =
    if is_queue s unit then greatest (live_serials records) + 1 else 1

-- ---- Records and lost slots of a unit, each in a slot of its own. In a queue there is a number
-- after the serials of the live items.
pub record AreFound (s : Shape) (unit : ℕ) (records : List Held) (lost : List ℕ) : Type 0 where
  pub valid : All (IsRecordOf unit) records
  pub apart : AreApart records
  pub of_unit : All (λ (r : Held). unit_of_slot s r.slot ≡ unit) records
  pub lost_apart : AllPairs (λ (slot other : ℕ). slot ≢ other) lost
  pub lost_of_unit : All (λ slot. unit_of_slot s slot ≡ unit) lost
  pub beside : All (λ (r : Held). All (λ slot. r.slot ≢ slot) lost) records
  pub serials : IsTrue (is_queue s unit) → All (λ n. n ≤ LAST) (live_serials records)

-- ---- free slots: those that nothing is in
abbrev pub is_among : List ℕ → ℕ → Bool
is_among slots slot = list_any (λ s. s == slot) slots

abbrev pub is_closed : List Held → List ℕ → ℕ → Bool
is_closed records lost slot = not (is_among (slots_in records) slot || is_among lost slot)

abbrev pub free_at_first : Shape → ℕ → List Held → List ℕ → List ℕ
free_at_first s unit records lost = filter (is_closed records lost) (slots_of s unit)

abbrev pub first_books : Shape → ℕ → List Held → List ℕ → BooksShown
first_books s unit records lost = record {
  layout = s;
  unit = unit;
  rows = rows_of s unit records;
  free = free_at_first s unit records lost;
  retired = retired_among (by_version records);
  lost = lost;
  written = [];
  identity = greatest (identities_in records) + 1;
  serial = serial_at_first s unit records;
  places = 0;
  newest = 0;
  sweeping = false;
  halted = None;
}

-- nothing is stored, and all slots are free
abbrev pub fresh_books : Shape → ℕ → BooksShown
fresh_books s unit = record {
  layout = s;
  unit = unit;
  rows = replicate s.slots None;
  free = slots_of s unit;
  retired = [];
  lost = [];
  written = [];
  identity = 1;
  serial = 1;
  places = 0;
  newest = 0;
  sweeping = false;
  halted = None;
}
