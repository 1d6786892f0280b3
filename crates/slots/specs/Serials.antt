-- The serial that a region of a queue gives to its next item.
use Rattle.std.specs.Prelude.{◌≡◌, ℕ, ◌+◌, ◌<◌, ◌≤◌, Bool, true, false, List, slice_index, if◌then◌else◌}
use Rattle.std.specs.List.{fold}
use Rattle.mont_base.specs.declared.kinds.UnitKind.TheVariants as unit_kinds
use Rattle.mont_base.specs.declared.record.Held.{Held}
use Rattle.mont_base.specs.declared.record.Kind.{Kind}
use Rattle.mont_base.specs.declared.record.Kind.TheVariants as kinds
use Rattle.mont_base.specs.Layout.{Shape, kind_of, is_of_kind}
use Rattle.mont_laws.specs.Effects.{HasLiveSerial}

abbrev pub is_queue : Shape → ℕ → Bool
is_queue s unit = is_of_kind (kind_of s unit) unit_kinds.Queue

abbrev pub is_new : Kind → Bool
is_new kinds.New = true
is_new kinds.Copy = false
is_new kinds.Delete = false

-- A new item has its serial in its first word, and the next item is given one more.
abbrev pub serial_past : ℕ → Held → ℕ
serial_past next w = if is_new w.label.kind then slice_index w.body 0 + 1 else next

-- Before any of these was written, the next serial was above those of the live items among the
-- records. New items that were written took theirs from it.
pub record IsNextSerial (records written : List Held) (serial : ℕ) : Type 0 where
  pub before : ℕ
  pub some : 1 ≤ before
  pub above : (other : ℕ) → HasLiveSerial records other → other < before
  pub is : serial ≡ fold serial_past before written
