-- What is found among slots of an image.
use Rattle.std.specs.Prelude.{◌≡◌, ℕ, ◌<◌, Bool, true, nat_lt, List, ◌∷◌, ◌++◌, All, filter, Result, Ok, Err}
use Rattle.std.specs.List.{filter_map, range_with_len}
use Rattle.mont_base.specs.declared.record.Held.{Held}
use Rattle.mont_base.specs.declared.record.SlotFault.{SlotFault}
use Rattle.mont_base.specs.Image.{IsRead, cut_of, epoch_at, is_in_cut, record_at, words_at}
use Rattle.mont_base.specs.Layout.{Shape, total_of, unit_of_slot}
use Rattle.mont_base.specs.Record.{reading}
use Rattle.scan.specs.declared.scanned.Scan.{Scan}
use Rattle.scan.specs.declared.scanned.ScanRefusal.{ScanRefusal}
use Rattle.scan.specs.declared.scanned.ScanRefusal.TheVariants.{Slot, Memory}

-- the slots of an image
abbrev pub all_slots : Shape → List ℕ
all_slots s = range_with_len 0 (total_of s)

-- the records among slots, those within the cut
abbrev pub records_among : Shape → List ℕ → List ℕ → List Held
records_among s image slots = filter_map (record_at s image) slots

-- a slot is beyond the cut
abbrev pub is_lost : List ℕ → ℕ → Bool
is_lost image slot = nat_lt (cut_of image) (epoch_at image slot)

abbrev pub lost_among : List ℕ → List ℕ → List ℕ
lost_among image slots = filter (is_lost image) slots

-- a slot within the cut is read without fault
abbrev pub IsReadAt : Shape → List ℕ → ℕ → Type 0
IsReadAt s image slot =
    is_in_cut image slot ≡ true → IsRead (reading (unit_of_slot s slot) (words_at image slot))

-- a slot is within the cut and has a fault
abbrev pub HasFault : Shape → List ℕ → ℕ → SlotFault → Type 0
HasFault s image slot fault =
    (is_in_cut image slot ≡ true)
    × (reading (unit_of_slot s slot) (words_at image slot) ≡ Err fault)

abbrev pub IsReadable : Shape → List ℕ → Type 0
IsReadable s image = (slot : ℕ) → slot < total_of s → IsReadAt s image slot

-- the lowest slot with a fault
pub record IsLowestFault (s : Shape) (image : List ℕ) (slot : ℕ) (fault : SlotFault) : Type 0 where
  pub inside : slot < total_of s
  pub has : HasFault s image slot fault
  pub lower : (k : ℕ) → k < slot → IsReadAt s image k

-- ---- among the first slots that were looked at

pub record IsScanOf (s : Shape) (image slots : List ℕ) (found : Scan) : Type 0 where
  pub records : found.records ≡ records_among s image slots
  pub lost : found.lost ≡ lost_among image slots
  pub readable : All (IsReadAt s image) slots

pub record IsFirstFault
    (s : Shape) (image slots : List ℕ) (slot : ℕ) (fault : SlotFault) : Type 0 where
  pub before : List ℕ
  pub after : List ℕ
  pub among : slots ≡ before ++ slot ∷ after
  pub readable : All (IsReadAt s image) before
  pub has : HasFault s image slot fault

-- what was found among slots, or the first of them that can't be read
abbrev pub IsAnswer : Shape → List ℕ → List ℕ → Result Scan ScanRefusal → Type 0
IsAnswer s image slots (Ok found) = IsScanOf s image slots found
IsAnswer s image slots (Err (Slot slot fault)) = IsFirstFault s image slots slot fault
IsAnswer s image slots (Err Memory) = Unit {0}
