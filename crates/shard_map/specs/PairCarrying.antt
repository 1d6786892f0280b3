-- What stands once a planned operation on each of two units was carried out, or wasn't.
use Rattle.std.specs.Prelude.{◌≡◌, ℕ, ◌+◌, ◌⊎◌, ◌==◌, Bool, true, false, List, [], ◌∷◌, ◌++◌, slice_get, option_map, option_to_list, Option, Some, None, Err}
use Rattle.std.specs.declared.result.Result.{Result}
use Rattle.mont_base.specs.declared.operation.Receipt.{Receipt}
use Rattle.heap.specs.HeapShown.{HeapShown, CallerShown}
use Rattle.slots.specs.declared.books.Written.{Written}
use Rattle.slots.specs.Books.{RegionShown}
use Rattle.op_guard.specs.Guarding.{IsFull}
use Rattle.op_guard.specs.Regions.{WasHalted}
use Rattle.structure_call.specs.Calling.{HasAnsweredCall}
use Rattle.structure_call.specs.Carrying.{HasCarried}
use Rattle.structure_call.specs.Checking.{WasNoted}
use Rattle.structure_call.specs.Planning.{IsPlan}
use Rattle.xfer.specs.declared.pair_guard.PairRefusal.{PairRefusal}
use Rattle.xfer.specs.declared.pair_guard.PairRefusal.TheVariants as pairs
use Rattle.xfer.specs.PairBeginning.{HasRoomIn, WereCutIn}
use Rattle.shard_map.specs.declared.pair_carrying.CarriedOne.{CarriedOne}
use Rattle.shard_map.specs.declared.pair_carrying.CarriedPair.{CarriedPair}
use Rattle.shard_map.specs.declared.pair_carrying.PlannedChange.{PlannedChange}
use Rattle.shard_map.specs.declared.pair_carrying.PairUncarried.{PairUncarried}
use Rattle.shard_map.specs.declared.pair_carrying.PairUncarried.TheVariants.{Full, Cut}

abbrev pub IsPlanned : RegionShown → PlannedChange → Type 0
IsPlanned r plan = IsPlan r plan.op plan.reply (plan.change ∷ [])

-- the slot of the first record that was written
abbrev pub slot_written : Option Written → Option ℕ
slot_written None = None
slot_written (Some w) = Some w.held.slot

abbrev pub slot_first : List Written → Option ℕ
slot_first ws = slot_written (slice_get ws 0)

-- ---- carried out
-- one of the operations: an entry of the unit, and the record of its change
pub record HasCarriedOne
    (heap : HeapShown) (old new : RegionShown) (q r : CallerShown) (plan : PlannedChange)
    (carried : CarriedOne) : Type 0 where
  pub answered : HasAnsweredCall heap old new q r plan.op carried.receipt
  pub op : carried.receipt.entry.op ≡ plan.op
  pub reply : carried.receipt.entry.reply ≡ plan.reply
  pub wrote : HasCarried old new (plan.change ∷ []) carried.receipt carried.slot

-- Both are of one epoch, and their calls of the caller follow each other.
pub record HasCarriedPair
    (heap : HeapShown) (low low_now high high_now : RegionShown) (q r : CallerShown)
    (low_plan high_plan : PlannedChange) (both : CarriedPair) : Type 0 where
  pub between : CallerShown
  pub lower : HasCarriedOne heap low low_now q between low_plan both.low
  pub higher : HasCarriedOne heap high high_now between r high_plan both.high
  pub epoch : both.high.receipt.entry.epoch ≡ both.low.receipt.entry.epoch
  pub next_call : both.high.receipt.entry.call ≡ both.low.receipt.entry.call + 1

-- ---- not carried out
-- The lower unit is full, and of the other a note was taken, too.
pub record IsLowFull
    (heap : HeapShown) (low low_now high high_now : RegionShown) (q r : CallerShown)
    (free clock : ℕ) : Type 0 where
  pub between : CallerShown
  pub full : IsFull heap low low_now q between 1 free clock
  pub noted : WasNoted heap high high_now between r

-- The higher unit is full, and of the other, where there is room, a note was taken, too.
pub record IsHighFull
    (heap : HeapShown) (low low_now high high_now : RegionShown) (q r : CallerShown)
    (free clock : ℕ) : Type 0 where
  pub between : CallerShown
  pub emptied : RegionShown
  pub room : HasRoomIn heap low emptied q
  pub full : IsFull heap high high_now q between 1 free clock
  pub noted : WasNoted heap emptied low_now between r

-- The lower unit's operation was carried out alone. The other unit is left halted within the epoch
-- of its entry, as the caller keeps.
pub record WasCarriedAlone
    (heap : HeapShown) (low low_now high high_now : RegionShown) (q r : CallerShown)
    (plan : PlannedChange) (carried : CarriedOne) : Type 0 where
  pub between : CallerShown
  pub lower : HasCarriedOne heap low low_now q between plan carried
  pub higher : WasHalted heap high high_now between r
  pub within : r.known.within
      ≡ q.known.within
      ++ record { unit = high.books.unit; epoch = carried.receipt.entry.epoch } ∷ []

abbrev pub LeavesPairUncarried :
    HeapShown → RegionShown → RegionShown → RegionShown → RegionShown → CallerShown → CallerShown
    → PlannedChange → PairUncarried → Type 0
LeavesPairUncarried heap low low_now high high_now q r plan (Full unit need free clock) =
    (need ≡ 1)
    × (((unit ≡ low.books.unit) × IsLowFull heap low low_now high high_now q r free clock)
    ⊎ ((unit ≡ high.books.unit) × IsHighFull heap low low_now high high_now q r free clock))
LeavesPairUncarried heap low low_now high high_now q r plan (Cut unit None) =
    WereCutIn heap unit low low_now high high_now q r
LeavesPairUncarried heap low low_now high high_now q r plan (Cut unit (Some carried)) =
    (unit ≡ high.books.unit) × WasCarriedAlone heap low low_now high high_now q r plan carried

-- the gate cut while both units were to leave, and the lower one had left with this receipt
abbrev pub cut_behind : Option Receipt → ℕ → ℕ → Option ℕ → PairUncarried
cut_behind None low high slot = Cut low None
cut_behind (Some receipt) low high slot =
    Cut high (Some (record { receipt = receipt; slot = slot }))

-- where no operation was begun, a note was taken of the unit that isn't full
abbrev pub WasOtherNoted :
    Bool → HeapShown → RegionShown → RegionShown → RegionShown → RegionShown → CallerShown
    → CallerShown → Type 0
WasOtherNoted true heap low low_now high high_now q r =
    (low_now ≡ low) × WasNoted heap high high_now q r
WasOtherNoted false heap low low_now high high_now q r =
    (high_now ≡ high) × WasNoted heap low low_now q r

abbrev pub TellsUnbegun :
    HeapShown → RegionShown → RegionShown → RegionShown → RegionShown → CallerShown → CallerShown
    → PairRefusal → PairUncarried → Type 0
TellsUnbegun heap low low_now high high_now q r (pairs.Full unit need free clock) why =
    (why ≡ Full unit need free clock)
    × WasOtherNoted (unit == low.books.unit) heap low low_now high high_now q r
TellsUnbegun heap low low_now high high_now q r (pairs.Cut unit) why =
    (why ≡ Cut unit None) × (low_now ≡ low) × (high_now ≡ high) × (r ≡ q)

-- the receipts that are kept all the same
abbrev pub receipts_kept : PairUncarried → List Receipt
receipts_kept (Full unit need free clock) = []
receipts_kept (Cut unit first) = option_to_list (option_map (λ (c : CarriedOne). c.receipt) first)

abbrev pub was_cut : {T : Type 0} → Result T PairUncarried → Bool
was_cut (Err (Cut unit first)) = true
was_cut _ = false
