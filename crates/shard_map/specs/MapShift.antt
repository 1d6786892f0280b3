-- What a shift is and leaves, and why there is none: an amount goes from the number under a key of
-- one map unit to that under a key of another.
use Rattle.std.specs.Prelude.{◌≡◌, ℕ, ◌+◌, ◌-◌, ◌^◌, ◌<◌, ◌≤◌, ◌⊎◌, nat_lt, Bool, true, false, List, [], ◌∷◌, ◌++◌, option_map, option_to_list, decimal, Option, Some, None, Err, if◌then◌else◌}
use Rattle.std.specs.declared.result.Result.{Result}
use Rattle.mont_base.specs.declared.constants.TheConstants.{LAST}
use Rattle.mont_base.specs.declared.operation.Op.{Op}
use Rattle.mont_base.specs.declared.operation.Op.TheVariants as ops
use Rattle.mont_base.specs.declared.operation.Receipt.{Receipt}
use Rattle.mont_base.specs.declared.operation.Reply.{Reply}
use Rattle.mont_base.specs.declared.operation.Reply.TheVariants.{WasText}
use Rattle.mont_base.specs.declared.record.Change.{Change}
use Rattle.mont_base.specs.declared.record.Change.TheVariants.{Replace}
use Rattle.mont_base.specs.declared.refusal.Which.{Which}
use Rattle.mont_base.specs.declared.refusal.Which.TheVariants as ends
use Rattle.mont_base.specs.Layout.{unit_of_key}
use Rattle.mont_base.specs.Bodies.{pair_body}
use Rattle.mont_base.specs.State.{Key, Value, earlier_text}
use Rattle.core_steps.specs.declared.parts.CallerPart.{CallerPart}
use Rattle.heap.specs.HeapShown.{HeapShown, CallerShown}
use Rattle.op_guard.specs.Regions.{WasHalted}
use Rattle.slots.specs.Books.{RegionShown}
use Rattle.slots.specs.WrittenRecords.{first_end}
use Rattle.structure_call.specs.Calling.{HasAnsweredCall}
use Rattle.structure_call.specs.Checking.{WasNoted}
use Rattle.structure_call.specs.Planning.{adds_item}
use Rattle.structure_call.specs.Standing.{IsStanding}
use Rattle.xfer.specs.PairBeginning.{WereCutIn}
use Rattle.shard_map.specs.declared.pair_carrying.CarriedOne.{CarriedOne}
use Rattle.shard_map.specs.declared.pair_carrying.PlannedChange.{PlannedChange}
use Rattle.shard_map.specs.declared.pair_carrying.PairUncarried.{PairUncarried}
use Rattle.shard_map.specs.declared.pair_carrying.PairUncarried.TheVariants as uncarried
use Rattle.shard_map.specs.declared.shift_refusal.ShiftRefusal.{ShiftRefusal}
use Rattle.shard_map.specs.declared.shift_refusal.ShiftRefusal.TheVariants.{Halted, Missing, Short, Over, CountEnd, Memory, Full, Cut}
use Rattle.shard_map.specs.declared.map_plan.Found.{Found}
use Rattle.index_kit.specs.Index.{Places}
use Rattle.shard_map.specs.MapCall.{places_behind}
use Rattle.shard_map.specs.MapPlan.{HasValue, setting, value_found}
use Rattle.shard_map.specs.MapShard.{IsMapUnit, MapShown}
use Rattle.shard_map.specs.MovedNumbers.{CannotMove, of_high, of_low}
use Rattle.shard_map.specs.PairCarrying.{IsPlanned, IsLowFull, IsHighFull}

-- ---- keys
-- each unit keeps the key of its side
abbrev pub KeepsKey : RegionShown → Key → Type 0
KeepsKey r key = unit_of_key r.books.layout key ≡ Some r.books.unit

pub record KeepBoth (up : Bool) (low high : RegionShown) (from to : Key) : Type 0 where
  pub lower : KeepsKey low (of_low up (from, to))
  pub higher : KeepsKey high (of_high up (from, to))

-- ---- a unit after a shift, or a try of one: it is the same unit, and stands
pub record StandsBehind (heap : HeapShown) (old new : MapShown) : Type 0 where
  pub of_unit : new.region.books.unit ≡ old.region.books.unit
  pub stands : IsStanding heap new.region
  pub unit : IsMapUnit new.region new.places

-- ---- shifted
-- One operation puts a number that is less by the amount in place of the one that was there, and
-- the other one that is more by it.
pub record IsMove
    (from to : Key) (amount : ℕ) (out : Op) (out_reply : Reply) (into : Op) (into_reply : Reply)
    : Type 0 where
  pub have : ℕ
  pub had : ℕ
  pub enough : amount ≤ have
  pub short : have < 2 ^ 64
  pub fits : had + amount < 2 ^ 64
  pub less : out ≡ ops.Put from (decimal (have - amount))
  pub out_of : out_reply ≡ WasText (decimal have)
  pub more : into ≡ ops.Put to (decimal (had + amount))
  pub into_what : into_reply ≡ WasText (decimal had)

-- Each unit has one entry more, which is answered by the plain step on the state that the unit's
-- records showed. Both are of one epoch, and their calls of the caller follow each other.
pub record HaveAnswered
    (heap : HeapShown) (low low_now high high_now : RegionShown) (q r : CallerShown)
    (low_receipt high_receipt : Receipt) : Type 0 where
  pub between : CallerShown
  pub lower : HasAnsweredCall heap low low_now q between low_receipt.entry.op low_receipt
  pub higher : HasAnsweredCall heap high high_now between r high_receipt.entry.op high_receipt
  pub epoch : high_receipt.entry.epoch ≡ low_receipt.entry.epoch
  pub next_call : high_receipt.entry.call ≡ low_receipt.entry.call + 1

pub record HasShifted
    (heap : HeapShown) (up : Bool) (low low_now high high_now : RegionShown) (q r : CallerShown)
    (from to : Key) (amount : ℕ) (receipts : Receipt × Receipt) : Type 0 where
  pub answered : HaveAnswered heap low low_now high high_now q r (of_low up receipts)
      (of_high up receipts)
  pub moved : IsMove from to amount receipts.0.entry.op receipts.0.entry.reply
      receipts.1.entry.op receipts.1.entry.reply

-- ---- not shifted
-- A note was taken of both units, which are as they were.
pub record WereNoted
    (heap : HeapShown) (low low_now high high_now : RegionShown) (q r : CallerShown)
    : Type 0 where
  pub between : CallerShown
  pub lower : WasNoted heap low low_now q between
  pub higher : WasNoted heap high high_now between r

-- the lower unit's mark is looked at first
abbrev pub IsMarked : RegionShown → RegionShown → ℕ → ℕ → Type 0
IsMarked low high unit by =
    ((unit ≡ low.books.unit) × (low.books.halted ≡ Some by))
    ⊎ ((unit ≡ high.books.unit) × (low.books.halted ≡ None) × (high.books.halted ≡ Some by))

-- these are the values under both keys, and the amount can't go
pub record LacksAmount
    (up : Bool) (low high : RegionShown) (from to : Key) (amount : ℕ) (why : ShiftRefusal)
    : Type 0 where
  pub low_running : low.books.halted ≡ None
  pub high_running : high.books.halted ≡ None
  pub out : Option Value
  pub into : Option Value
  pub low_value : HasValue low (of_low up (from, to)) (of_low up (out, into))
  pub high_value : HasValue high (of_high up (from, to)) (of_high up (out, into))
  pub cannot : CannotMove from to out into amount why

-- the digits of a number are put under a key, of which this was found
abbrev pub put_planned : Key → Option Found → ℕ → PlannedChange
put_planned key found number = record {
  op = ops.Put key (decimal number);
  reply = earlier_text (value_found found);
  change = setting found (pair_body key (decimal number));
}

-- the key is there, so its record is replaced
abbrev pub ReplacesRecord : Change → Type 0
ReplacesRecord (Replace slot identity body) = Unit {0}
ReplacesRecord _ = ⊥

-- Both are planned as a move of the amount.
pub record ArePlanned
    (up : Bool) (low high : RegionShown) (from to : Key) (amount : ℕ)
    (low_plan high_plan : PlannedChange) : Type 0 where
  pub low_running : low.books.halted ≡ None
  pub high_running : high.books.halted ≡ None
  pub lower : IsPlanned low low_plan
  pub higher : IsPlanned high high_plan
  pub move : let out : PlannedChange = of_low up (low_plan, high_plan) in
      let into : PlannedChange = of_high up (low_plan, high_plan) in
      IsMove from to amount out.op out.reply into.op into.reply
  pub low_there : ReplacesRecord low_plan.change
  pub high_there : ReplacesRecord high_plan.change

-- the first number that both would be given above the last one: of two calls of the caller, then of
-- the lower unit, then of the higher one
abbrev pub end_of : RegionShown → Change → Option Which
end_of r change =
    first_end r.books r.seat.known.part.records (change ∷ []) (adds_item r.books (change ∷ []))

abbrev pub first_of : Option Which → Option Which → Option Which
first_of None other = other
first_of (Some which) other = Some which

abbrev pub end_of_pair : CallerPart → RegionShown → RegionShown → Change → Change → Option Which
end_of_pair q low high low_change high_change =
    if nat_lt LAST (q.calls + 1) then Some ends.Call
    else first_of (end_of low low_change) (end_of high high_change)

-- they are planned, and a number is at its end
pub record EndsPair
    (up : Bool) (low high : RegionShown) (q : CallerPart) (from to : Key) (amount : ℕ)
    (which : Which) : Type 0 where
  pub low_plan : PlannedChange
  pub high_plan : PlannedChange
  pub planned : ArePlanned up low high from to amount low_plan high_plan
  pub ends : end_of_pair q low high low_plan.change high_plan.change ≡ Some which

-- a refusal names the mark
abbrev pub TellsMark : RegionShown → RegionShown → ShiftRefusal → Type 0
TellsMark low high (Halted unit by) = IsMarked low high unit by
TellsMark low high _ = ⊥

abbrev pub CannotShift :
    Bool → RegionShown → RegionShown → CallerPart → Key → Key → ℕ → ShiftRefusal → Type 0
CannotShift up low high q from to amount (Halted unit by) = IsMarked low high unit by
CannotShift up low high q from to amount (Missing key) =
    LacksAmount up low high from to amount (Missing key)
CannotShift up low high q from to amount (Short have) =
    LacksAmount up low high from to amount (Short have)
CannotShift up low high q from to amount (Over have) =
    LacksAmount up low high from to amount (Over have)
CannotShift up low high q from to amount (CountEnd which) =
    EndsPair up low high q from to amount which
CannotShift up low high q from to amount _ = ⊥

-- no mark is set, the amount can go, and no number is at its end
pub record MayShift
    (up : Bool) (low high : RegionShown) (q : CallerPart) (from to : Key) (amount : ℕ)
    (plans : PlannedChange × PlannedChange) : Type 0 where
  pub planned : ArePlanned up low high from to amount plans.0 plans.1
  pub none_ends : end_of_pair q low high plans.0.change plans.1.change ≡ None

abbrev pub MayBeShifted :
    Bool → RegionShown → RegionShown → CallerPart → Key → Key → ℕ → Type 0
MayBeShifted up low high q from to amount =
    (plans : PlannedChange × PlannedChange) × MayShift up low high q from to amount plans

-- The lower unit's entry stands alone. The higher unit is left halted within the entry's epoch, and
-- the caller keeps that.
pub record WasAnsweredAlone
    (heap : HeapShown) (low low_now high high_now : RegionShown) (q r : CallerShown)
    (receipt : Receipt) : Type 0 where
  pub between : CallerShown
  pub lower : HasAnsweredCall heap low low_now q between receipt.entry.op receipt
  pub higher : WasHalted heap high high_now between r
  pub within : r.known.within
      ≡ q.known.within
      ++ record { unit = high.books.unit; epoch = receipt.entry.epoch } ∷ []

-- The entry is the lower unit's half of the move.
pub record IsLowerHalf
    (up : Bool) (low high : RegionShown) (from to : Key) (amount : ℕ) (receipt : Receipt)
    : Type 0 where
  pub low_plan : PlannedChange
  pub high_plan : PlannedChange
  pub planned : ArePlanned up low high from to amount low_plan high_plan
  pub op : receipt.entry.op ≡ low_plan.op
  pub reply : receipt.entry.reply ≡ low_plan.reply

abbrev pub LeavesShift :
    HeapShown → Bool → RegionShown → RegionShown → RegionShown → RegionShown → CallerShown
    → CallerShown → Key → Key → ℕ → ShiftRefusal → Type 0
LeavesShift heap up low low_now high high_now q r from to amount Memory =
    (low_now ≡ low) × (high_now ≡ high) × (r ≡ q)
LeavesShift heap up low low_now high high_now q r from to amount (Full unit need free clock) =
    (need ≡ 1)
    × (((unit ≡ low.books.unit) × IsLowFull heap low low_now high high_now q r free clock)
    ⊎ ((unit ≡ high.books.unit) × IsHighFull heap low low_now high high_now q r free clock))
LeavesShift heap up low low_now high high_now q r from to amount (Cut unit None) =
    WereCutIn heap unit low low_now high high_now q r
LeavesShift heap up low low_now high high_now q r from to amount (Cut unit (Some receipt)) =
    (unit ≡ high.books.unit)
    × WasAnsweredAlone heap low low_now high high_now q r receipt
    × IsLowerHalf up low high from to amount receipt
LeavesShift heap up low low_now high high_now q r from to amount why =
    CannotShift up low high q.known.part from to amount why
    × WereNoted heap low low_now high high_now q r

-- why the operations weren't carried out, as a refusal of the shift
abbrev pub refusal_of : PairUncarried → ShiftRefusal
refusal_of (uncarried.Full unit need free clock) = Full unit need free clock
refusal_of (uncarried.Cut unit first) =
    Cut unit (option_map (λ (c : CarriedOne). c.receipt) first)

-- the places of the lower unit's index where its operation was carried out alone, or wasn't
abbrev pub places_left : Places → Op → PairUncarried → Places
places_left places op (uncarried.Cut unit (Some first)) = places_behind places op first.slot
places_left places op _ = places

-- the receipts that are kept all the same
abbrev pub receipts_kept : ShiftRefusal → List Receipt
receipts_kept (Cut unit first) = option_to_list first
receipts_kept _ = []

abbrev pub was_cut : {T : Type 0} → Result T ShiftRefusal → Bool
was_cut (Err (Cut unit first)) = true
was_cut _ = false

-- it wasn't refused before memory was taken
abbrev pub was_checked : {T : Type 0} → Result T ShiftRefusal → Bool
was_checked (Err Memory) = true
was_checked (Err (Full unit need free clock)) = true
was_checked (Err (Cut unit first)) = true
was_checked (Err why) = false
was_checked _ = true
