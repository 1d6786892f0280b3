-- Word memory and the images that a crash leaves (buffered persistence, by single words).
use Rattle.std.specs.Prelude.{◌≡◌, ℕ, ◌*◌, ◌-◌, ◌<◌, ◌≤◌, ◌⊎◌, Bool, ◌&&◌, nat_le, List, length, take, drop, map, slice_index, slice_get, true, AllPairs, Option, Some, None, Result, Ok, Err, if◌then◌else◌}
use Rattle.std.specs.List.{filter_map, range_with_len}
use Rattle.mont_base.specs.declared.constants.TheConstants.{FIELDS, FIRST_CLOCK, LAST}
use Rattle.mont_base.specs.declared.record.Held.{Held}
use Rattle.mont_base.specs.declared.record.Label.{Label}
use Rattle.mont_base.specs.declared.record.SlotFault.{SlotFault}
use Rattle.mont_base.specs.Layout.{Shape, IsLayout, words_of, units_of, unit_of_slot, word_of}
use Rattle.mont_base.specs.Record.{reading}
use Rattle.mont_base.specs.State.{State, empty_state}
use Rattle.mont_base.specs.Versions.{live_objects}
use Rattle.mont_base.specs.Structure.{IsStructure}

-- After a crash each word is its durable value or its current one, each word by itself.
pub record IsPermitted (cur dur image : List ℕ) : Type 0 where
  pub as_long : length image ≡ length cur
  pub each :
      (w : ℕ) → w < length image
      → (slice_index image w ≡ slice_index cur w) ⊎ (slice_index image w ≡ slice_index dur w)

abbrev pub clock_of : List ℕ → ℕ
clock_of image = slice_index image 0

-- recovery keeps what ended two epochs before the clock or earlier (the recovery horizon of
-- Montage)
abbrev pub cut_of : List ℕ → ℕ
cut_of image = clock_of image - 2

abbrev pub words_at : List ℕ → ℕ → List ℕ
words_at image slot = take FIELDS (drop (word_of slot 0) image)

abbrev pub epoch_at : List ℕ → ℕ → ℕ
epoch_at image slot = slice_index image (word_of slot 0)

-- a slot is within the cut
abbrev pub is_in_cut : List ℕ → ℕ → Bool
is_in_cut image slot = nat_le 1 (epoch_at image slot) && nat_le (epoch_at image slot) (cut_of image)

-- what is read of a slot, if it is a label and a body
abbrev pub record_read : ℕ → Result (Option (Label × List ℕ)) SlotFault → Option Held
record_read slot (Err fault) = None
record_read slot (Ok None) = None
record_read slot (Ok (Some r)) = Some (record { slot = slot; label = r.0; body = r.1 })

abbrev pub record_at : Shape → List ℕ → ℕ → Option Held
record_at s image slot =
    if is_in_cut image slot then record_read slot
    (reading (unit_of_slot s slot) (words_at image slot)) else None

-- the slots of a unit
abbrev pub slots_of : Shape → ℕ → List ℕ
slots_of s unit = range_with_len (unit * s.slots) s.slots

-- the records of a unit within the cut, by rising slot
abbrev pub records_of : Shape → List ℕ → ℕ → List Held
records_of s image unit = filter_map (record_at s image) (slots_of s unit)

-- whether what a slot was read as is no fault
abbrev pub IsRead : {A : Type 0} → Result A SlotFault → Type 0
IsRead (Ok a) = Unit {0}
IsRead (Err fault) = ⊥

-- two records that aren't the same version of one identity
abbrev pub DiffersFrom : Held → Held → Type 0
DiffersFrom r q = (r.label.identity ≡ q.label.identity) × (r.label.version ≡ q.label.version) → ⊥

-- An image that recovery accepts.
pub record IsWellFormed (s : Shape) (image : List ℕ) : Type 0 where
  pub layout : IsLayout s
  pub size : length image ≡ words_of s
  pub clock_begun : FIRST_CLOCK ≤ clock_of image
  pub clock_last : clock_of image ≤ LAST
  -- each slot within the cut is read without fault
  pub readable :
      (unit slot : ℕ) → unit < units_of s → unit_of_slot s slot ≡ unit → is_in_cut image slot ≡ true
      → IsRead (reading unit (words_at image slot))
  -- no version of a unit stands twice
  pub apart : (unit : ℕ) → unit < units_of s → AllPairs DiffersFrom (records_of s image unit)
  -- the objects of each unit make a structure
  pub defined :
      (unit : ℕ) → unit < units_of s
      → (state : State) × IsStructure s unit (live_objects (records_of s image unit)) state

-- what recovery from an image rebuilds: the structure of each unit's live objects
abbrev pub IsRecovered : Shape → List ℕ → List State → Type 0
IsRecovered s image states =
    (length states ≡ units_of s) × ((unit : ℕ) (state : State) → slice_get states unit ≡ Some state
    → IsStructure s unit (live_objects (records_of s image unit)) state)

-- the states of a store that was never used, unit by unit
abbrev pub empty_states : Shape → List State
empty_states s = map empty_state s.kinds
