-- How many slots of each unit hold what.
use Rattle.std.specs.Prelude.{◌≡◌, ℕ, ◌+◌, Bool, ◌&&◌, ◌==◌, not, List, length, count_by, slice_get, if◌then◌else◌, Option, Some, None, is_some, Result, Ok, Err}
use Rattle.std.specs.List.{list_any}
use Rattle.mont_base.specs.declared.record.Held.{Held}
use Rattle.mont_base.specs.declared.record.Label.{Label}
use Rattle.mont_base.specs.declared.record.SlotFault.{SlotFault}
use Rattle.mont_base.specs.Image.{epoch_at, is_in_cut, records_of, slots_of, words_at}
use Rattle.mont_base.specs.Layout.{Shape, unit_of_slot, units_of}
use Rattle.mont_base.specs.Record.{reading}
use Rattle.mont_base.specs.Versions.{is_delete, is_later, is_live}
use Rattle.scan.specs.Scanned.{is_lost}
use Rattle.image_info.specs.declared.unit_counts.UnitCounts.{UnitCounts}

-- a slot is closed
abbrev pub is_free : List ℕ → ℕ → Bool
is_free image slot = epoch_at image slot == 0

-- what can't be read, by its first fault
abbrev pub fault_in : Result (Option (Label × List ℕ)) SlotFault → Option SlotFault
fault_in (Ok read) = None
fault_in (Err fault) = Some fault

-- the first fault of a slot within the cut, if it has one
abbrev pub fault_at : Shape → List ℕ → ℕ → Option SlotFault
fault_at s image slot =
    if is_in_cut image slot then fault_in (reading (unit_of_slot s slot) (words_at image slot))
    else None

abbrev pub is_faulty : Shape → List ℕ → ℕ → Bool
is_faulty s image slot = is_some (fault_at s image slot)

abbrev pub is_anti_payload : Held → Bool
is_anti_payload r = is_delete r.label.kind

-- a record isn't the greatest version of its identity, and no anti-payload
abbrev pub is_superseded : List Held → Held → Bool
is_superseded records r = not (is_anti_payload r) && list_any (is_later r) records

-- The slots of a unit, counted by what they hold. Each of them is counted once.
pub record AreCounts (s : Shape) (image : List ℕ) (unit : ℕ) (c : UnitCounts) : Type 0 where
  pub free : c.free ≡ count_by (is_free image) (slots_of s unit)
  pub live : c.live ≡ count_by (is_live (records_of s image unit)) (records_of s image unit)
  pub superseded :
      c.superseded
      ≡ count_by (is_superseded (records_of s image unit)) (records_of s image unit)
  pub anti_payloads : c.anti_payloads ≡ count_by is_anti_payload (records_of s image unit)
  pub beyond : c.beyond ≡ count_by (is_lost image) (slots_of s unit)
  pub faulty : c.faulty ≡ count_by (is_faulty s image) (slots_of s unit)
  pub whole :
      c.free + c.live + c.superseded + c.anti_payloads + c.beyond + c.faulty ≡ s.slots

-- the counts of each unit, in the order of the units
pub record AreAllCounts (s : Shape) (image : List ℕ) (counts : List UnitCounts) : Type 0 where
  pub many : length counts ≡ units_of s
  pub each :
      (unit : ℕ) (c : UnitCounts) → slice_get counts unit ≡ Some c → AreCounts s image unit c
