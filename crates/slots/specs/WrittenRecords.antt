-- The record that a change writes, and the numbers that it is given.
use Rattle.std.specs.Prelude.{◌≡◌, ℕ, ◌+◌, ◌-◌, ◌≤◌, nat_lt, nat_le, Bool, true, false, ◌&&◌, List, count_by, slice_index, Option, Some, None, IsTrue, if◌then◌else◌}
use Rattle.std.specs.List.{list_any}
use Rattle.mont_base.specs.declared.constants.TheConstants.{LAST}
use Rattle.mont_base.specs.declared.record.Change.{Change}
use Rattle.mont_base.specs.declared.record.Change.TheVariants.{Insert, Replace, Remove}
use Rattle.mont_base.specs.declared.record.Held.{Held}
use Rattle.mont_base.specs.declared.record.Kind.{Kind}
use Rattle.mont_base.specs.declared.record.Kind.TheVariants as kinds
use Rattle.mont_base.specs.declared.refusal.Which.{Which}
use Rattle.mont_base.specs.declared.refusal.Which.TheVariants as ends
use Rattle.mont_base.specs.Bodies.{no_body}
use Rattle.mont_base.specs.Layout.{Shape}
use Rattle.mont_base.specs.Versions.{newest_of}
use Rattle.mont_laws.specs.Records.{live_of}
use Rattle.slots.specs.Books.{BooksShown}
use Rattle.slots.specs.Serials.{is_queue}

-- ---- what is written
abbrev pub kind_by : Change → Kind
kind_by (Insert body) = kinds.New
kind_by (Replace slot identity body) = kinds.Copy
kind_by (Remove slot identity) = kinds.Delete

-- a new object is given the next identity
abbrev pub identity_by : ℕ → Change → ℕ
identity_by next (Insert body) = next
identity_by next (Replace slot identity body) = identity
identity_by next (Remove slot identity) = identity

abbrev pub body_by : Change → List ℕ
body_by (Insert body) = body
body_by (Replace slot identity body) = body
body_by (Remove slot identity) = no_body

-- the greatest version of an identity, and 0 where it has none
abbrev pub version_in : Option Held → ℕ
version_in None = 0
version_in (Some r) = r.label.version

abbrev pub greatest_version : ℕ → List Held → ℕ
greatest_version identity records = version_in (newest_of identity records)

-- the next version of its identity
abbrev pub record_by : ℕ → ℕ → List Held → Change → ℕ → ℕ → Held
record_by unit next records change epoch slot = record {
  slot = slot;
  label = record {
    epoch = epoch;
    kind = kind_by change;
    unit = unit;
    identity = identity_by next change;
    version = greatest_version (identity_by next change) records + 1;
  };
  body = body_by change;
}

-- ---- numbers
abbrev pub is_insert : Change → Bool
is_insert (Insert body) = true
is_insert _ = false

abbrev pub identity_after : ℕ → Change → ℕ
identity_after next change = if is_insert change then next + 1 else next

-- an item of a queue has its serial in its first word
abbrev pub has_serial : Shape → ℕ → Change → Bool
has_serial s unit change = is_queue s unit && is_insert change

abbrev pub serial_in : Change → ℕ
serial_in change = slice_index (body_by change) 0

abbrev pub serial_after : BooksShown → Change → ℕ
serial_after b change =
    if has_serial b.layout b.unit change then serial_in change + 1 else b.serial

-- the slot of the version that it supersedes
abbrev pub slot_named : Change → Option ℕ
slot_named (Insert body) = None
slot_named (Replace slot identity body) = Some slot
slot_named (Remove slot identity) = Some slot

-- ---- what a change names
-- an identity is live, and its live record is in the slot
pub record IsLiveAt (records : List Held) (slot identity : ℕ) : Type 0 where
  pub live : Held
  pub is : live_of identity records ≡ Some live
  pub in_slot : live.slot ≡ slot

abbrev pub NamesLive : List Held → Change → Type 0
NamesLive records (Insert body) = Unit {0}
NamesLive records (Replace slot identity body) = IsLiveAt records slot identity
NamesLive records (Remove slot identity) = IsLiveAt records slot identity

-- ---- numbers at their end
abbrev pub inserts : List Change → ℕ
inserts changes = count_by is_insert changes

-- the next version would be above the last number
abbrev pub ends_version : List Held → Change → Bool
ends_version records (Insert body) = false
ends_version records (Replace slot identity body) = nat_le LAST (greatest_version identity records)
ends_version records (Remove slot identity) = nat_le LAST (greatest_version identity records)

-- no number of a change is at its end
pub record CanPut (b : BooksShown) (records : List Held) (change : Change) : Type 0 where
  pub names : NamesLive records change
  pub identity : IsTrue (is_insert change) → b.identity ≤ LAST
  pub version : ends_version records change ≡ false
  pub serial : IsTrue (has_serial b.layout b.unit change) → serial_in change ≤ LAST

-- The first number that an entry with these changes would be given above the last one. Fewer
-- identities may be left than objects are added.
abbrev pub first_end : BooksShown → List Held → List Change → Bool → Option Which
first_end b records changes serial =
    if nat_lt LAST b.places then Some ends.Place
    else (if nat_lt (LAST + 1 - b.identity) (inserts changes) then Some ends.Identity
    else (if list_any (ends_version records) changes then Some ends.Version
    else (if serial && nat_lt LAST b.serial then Some ends.Serial else None)))
