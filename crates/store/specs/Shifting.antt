-- What a shift leaves of its caller, and what its refusals tell: an amount goes from the number
-- under one key of the store's map units to that under another, both or neither.
use Rattle.std.specs.Prelude.{◌≡◌, ℕ, ◌+◌, ◌<◌, ◌⊎◌, nat_lt, Bool, true, List, [], ◌∷◌, ◌++◌, Option, Some, None, Ok, Err, IfOk, IfErr}
use Rattle.std.specs.declared.result.Result.{Result}
use Rattle.mont_base.specs.declared.constants.TheConstants.{LAST}
use Rattle.mont_base.specs.declared.gate.Gate.{Ghosts}
use Rattle.mont_base.specs.declared.operation.Op.{Op}
use Rattle.mont_base.specs.declared.operation.Op.TheVariants as ops
use Rattle.mont_base.specs.declared.operation.Receipt.{Receipt}
use Rattle.mont_base.specs.declared.operation.Reply.{Reply}
use Rattle.mont_base.specs.declared.refusal.Which.{Which}
use Rattle.mont_base.specs.declared.refusal.Which.TheVariants as ends
use Rattle.mont_base.specs.History.{state_after}
use Rattle.mont_base.specs.Layout.{Shape, unit_of_key}
use Rattle.mont_base.specs.State.{Key, Value, earlier_text, step}
use Rattle.core_steps.specs.declared.parts.Mark.{Mark}
use Rattle.heap.specs.GateAsked.{IsAskedOften}
use Rattle.heap.specs.HeapShown.{CallerShown}
use Rattle.heap_pass.specs.declared.pass.Pass.{Pass}
use Rattle.caller.specs.Telling.{has_mark}
use Rattle.shard_map.specs.declared.shift_refusal.ShiftRefusal.{ShiftRefusal}
use Rattle.shard_map.specs.declared.shift_refusal.ShiftRefusal.TheVariants.{SameUnit, Halted, Missing, Short, Over, CountEnd, Memory, Full, Cut}
use Rattle.shard_map.specs.MapShift.{IsMove, receipts_kept, was_cut}
use Rattle.shard_map.specs.MovedNumbers.{CannotMove, of_high, of_low}
use Rattle.store.specs.StoreShown.{StoreShown}
use Rattle.store.specs.StoreCalls.{ContinuesCaller, FoundFull, HasLearntCause, IsSamePass, KeepsCaller, NeedsNumber, WasLeft}

-- ---- keys and units
-- one unit keeps both keys
pub record AreOfOneUnit (s : Shape) (from to : Key) (unit : ℕ) : Type 0 where
  pub keeps_from : unit_of_key s from ≡ Some unit
  pub keeps_to : unit_of_key s to ≡ Some unit

-- two units keep them, and `up` says whether that of `from` is the lower one
pub record AreOfTwoUnits (s : Shape) (from to : Key) (up : Bool) (low high : ℕ) : Type 0 where
  pub lower : unit_of_key s (of_low up (from, to)) ≡ Some low
  pub higher : unit_of_key s (of_high up (from, to)) ≡ Some high
  pub order : low < high

-- ---- shifted
-- of the receipts of `from` and of `to` that of the lower unit, and the other one
abbrev pub goes_up : Receipt × Receipt → Bool
goes_up receipts = nat_lt receipts.0.unit receipts.1.unit

abbrev pub lower_of : Receipt × Receipt → Receipt
lower_of receipts = of_low (goes_up receipts) receipts

abbrev pub higher_of : Receipt × Receipt → Receipt
higher_of receipts = of_high (goes_up receipts) receipts

-- Each unit has one entry more. Both are of one epoch, and their calls of the caller follow each
-- other: it goes on by the lower unit's entry, and from there by the higher one's.
pub record ContinuesTwice
    (store : StoreShown) (q r : CallerShown) (low high : Receipt) : Type 0 where
  pub between : CallerShown
  pub lower : ContinuesCaller store q between low.entry.op low
  pub higher : ContinuesCaller store between r high.entry.op high
  pub epoch : high.entry.epoch ≡ low.entry.epoch
  pub next_call : high.entry.call ≡ low.entry.call + 1

-- They take the amount from the number under the one key, and add it to that under the other.
pub record ContinuesByShift
    (store : StoreShown) (q r : CallerShown) (from to : Key) (amount : ℕ)
    (receipts : Receipt × Receipt) : Type 0 where
  pub units : AreOfTwoUnits store.heap.opening.layout from to (goes_up receipts)
      (lower_of receipts).unit (higher_of receipts).unit
  pub entries : ContinuesTwice store q r (lower_of receipts) (higher_of receipts)
  pub moved : IsMove from to amount receipts.0.entry.op receipts.0.entry.reply
      receipts.1.entry.op receipts.1.entry.reply

-- ---- refused: what the caller has now seen of both units
-- after the entries that it has now seen of the unit, the operation would be answered so
abbrev pub WouldReply : StoreShown → ℕ → CallerShown → Op → Reply → Type 0
WouldReply store unit r op reply = HasLearntCause store unit r
    (λ base history. reply ≡ (step (state_after base history) op).reply)

-- and a look-up would find this value
abbrev pub HasLearntValue : StoreShown → ℕ → CallerShown → Key → Option Value → Type 0
HasLearntValue store unit r key value =
    WouldReply store unit r (ops.Get key) (earlier_text value)

-- these are the values of both keys, and the amount can't go
pub record HasLearntLack
    (store : StoreShown) (up : Bool) (low high : ℕ) (q r : CallerShown) (from to : Key) (amount : ℕ)
    (why : ShiftRefusal) : Type 0 where
  pub keeps : KeepsCaller q r
  pub out : Option Value
  pub into : Option Value
  pub lower : HasLearntValue store low r (of_low up (from, to)) (of_low up (out, into))
  pub higher : HasLearntValue store high r (of_high up (from, to)) (of_high up (out, into))
  pub cannot : CannotMove from to out into amount why

-- an operation of the lower unit and one of the higher, with their replies, move the amount
abbrev pub AreMove : Bool → Key → Key → ℕ → Op × Op → Reply × Reply → Type 0
AreMove up from to amount operations replies =
    IsMove from to amount (of_low up operations) (of_low up replies) (of_high up operations)
    (of_high up replies)

-- the amount can go, by these operations of the lower unit and of the higher
pub record HasLearntMove
    (store : StoreShown) (up : Bool) (low high : ℕ) (r : CallerShown) (from to : Key) (amount : ℕ)
    (operations : Op × Op) : Type 0 where
  pub replies : Reply × Reply
  pub lower : WouldReply store low r operations.0 replies.0
  pub higher : WouldReply store high r operations.1 replies.1
  pub move : AreMove up from to amount operations replies

-- ---- refused: why
-- The unit is the lower one, or the higher one where no mark of the lower one was learnt.
abbrev pub IsMarkedFirst : ℕ → ℕ → CallerShown → CallerShown → ℕ → Type 0
IsMarkedFirst low high q r unit =
    (unit ≡ low)
    ⊎ ((unit ≡ high)
    × ((m : Mark) → m.unit ≡ low → has_mark r.known.part.marks m ≡ true
    → has_mark q.known.part.marks m ≡ true))

-- the number is at its end for two calls of the caller, or for the operation of one of the units
abbrev pub NeedsPairNumber :
    StoreShown → ℕ → ℕ → CallerShown → CallerShown → Op × Op → Which → Type 0
NeedsPairNumber store low high q r operations ends.Call = LAST < q.known.part.calls + 1
NeedsPairNumber store low high q r operations which =
    NeedsNumber store low q r operations.0 which ⊎ NeedsNumber store high q r operations.1 which

pub record EndsShift
    (store : StoreShown) (up : Bool) (low high : ℕ) (q r : CallerShown) (from to : Key) (amount : ℕ)
    (which : Which) : Type 0 where
  pub keeps : KeepsCaller q r
  pub operations : Op × Op
  pub planned : HasLearntMove store up low high r from to amount operations
  pub needs : NeedsPairNumber store low high q r operations which

-- one of the units was full for its operation
abbrev pub FoundOneFull :
    StoreShown → ℕ → ℕ → CallerShown → CallerShown → Op × Op → ℕ → ℕ → ℕ → ℕ → Type 0
FoundOneFull store low high q r operations unit need free clock =
    ((unit ≡ low) × FoundFull store low q r operations.0 need free clock)
    ⊎ ((unit ≡ high) × FoundFull store high q r operations.1 need free clock)

pub record FindsNoSlot
    (store : StoreShown) (up : Bool) (low high : ℕ) (q r : CallerShown) (from to : Key) (amount : ℕ)
    (unit need free clock : ℕ) : Type 0 where
  pub one : need ≡ 1
  pub operations : Op × Op
  pub planned : HasLearntMove store up low high r from to amount operations
  pub full : FoundOneFull store low high q r operations unit need free clock

-- ---- cut
-- The caller was cut in the one unit, and then the other was left, too. No entry was added.
pub record WereLeft (one other : ℕ) (q r : CallerShown) : Type 0 where
  pub between : CallerShown
  pub first : WasLeft one q between
  pub second : WasLeft other between r

-- the one is that which the refusal names
abbrev pub WereLeftIn : ℕ → ℕ → CallerShown → CallerShown → ℕ → Type 0
WereLeftIn low high q r unit =
    ((unit ≡ low) × WereLeft low high q r) ⊎ ((unit ≡ high) × WereLeft high low q r)

-- The lower unit's half of the move is an entry, which stands alone. The caller was cut in the
-- higher unit, which is left within the entry's epoch, as the caller keeps.
pub record IsLeftAlone
    (store : StoreShown) (up : Bool) (low high : ℕ) (q r : CallerShown) (from to : Key) (amount : ℕ)
    (receipt : Receipt) : Type 0 where
  pub of_unit : receipt.unit ≡ low
  pub between : CallerShown
  pub lower : ContinuesCaller store q between receipt.entry.op receipt
  pub higher : WasLeft high between r
  pub within : r.known.within
      ≡ q.known.within ++ record { unit = high; epoch = receipt.entry.epoch } ∷ []
  pub other : Op
  pub other_reply : Reply
  pub half : AreMove up from to amount (receipt.entry.op, other)
      (receipt.entry.reply, other_reply)

abbrev pub TellsCut :
    StoreShown → Bool → ℕ → ℕ → CallerShown → CallerShown → Key → Key → ℕ → ℕ → Option Receipt
    → Type 0
TellsCut store up low high q r from to amount unit None = WereLeftIn low high q r unit
TellsCut store up low high q r from to amount unit (Some receipt) =
    (unit ≡ high) × IsLeftAlone store up low high q r from to amount receipt

-- ---- a refusal
-- what it tells where two units keep the keys
abbrev pub TellsBetween :
    StoreShown → Bool → ℕ → ℕ → CallerShown → CallerShown → Key → Key → ℕ → ShiftRefusal → Type 0
TellsBetween store up low high q r from to amount (SameUnit unit) = ⊥
TellsBetween store up low high q r from to amount (Halted unit by) =
    KeepsCaller q r × IsMarkedFirst low high q r unit
    × (has_mark r.known.part.marks (record { unit = unit; by = Some by }) ≡ true)
TellsBetween store up low high q r from to amount (Missing key) =
    HasLearntLack store up low high q r from to amount (Missing key)
TellsBetween store up low high q r from to amount (Short have) =
    HasLearntLack store up low high q r from to amount (Short have)
TellsBetween store up low high q r from to amount (Over have) =
    HasLearntLack store up low high q r from to amount (Over have)
TellsBetween store up low high q r from to amount (CountEnd which) =
    EndsShift store up low high q r from to amount which
TellsBetween store up low high q r from to amount Memory = r ≡ q
TellsBetween store up low high q r from to amount (Full unit need free clock) =
    FindsNoSlot store up low high q r from to amount unit need free clock
TellsBetween store up low high q r from to amount (Cut unit first) =
    TellsCut store up low high q r from to amount unit first

pub record IsRefusedBetween
    (store : StoreShown) (q r : CallerShown) (from to : Key) (amount : ℕ) (why : ShiftRefusal)
    : Type 0 where
  pub up : Bool
  pub low : ℕ
  pub high : ℕ
  pub units : AreOfTwoUnits store.heap.opening.layout from to up low high
  pub tells : TellsBetween store up low high q r from to amount why

-- The keys are of one unit where that is the refusal, and of two where it is any other.
abbrev pub TellsShift :
    StoreShown → CallerShown → CallerShown → Key → Key → ℕ → ShiftRefusal → Type 0
TellsShift store q r from to amount (SameUnit unit) =
    AreOfOneUnit store.heap.opening.layout from to unit × (r ≡ q)
TellsShift store q r from to amount why = IsRefusedBetween store q r from to amount why

-- ---- a shift, whatever it answers
-- the receipts that an answer adds to those of a pass
abbrev pub receipts_added : Result (Receipt × Receipt) ShiftRefusal → List Receipt
receipts_added (Ok receipts) = lower_of receipts ∷ higher_of receipts ∷ []
receipts_added (Err why) = receipts_kept why

-- What a shift leaves of the caller's pass. Its gate was asked before each step.
pub record HasTriedShift {G : Type 0} {asks : Ghosts G}
    (store : StoreShown) (cuts : G → ℕ) (endless : G → Bool) (old new : Pass G asks) (from to : Key)
    (amount : ℕ) (answer : Result (Receipt × Receipt) ShiftRefusal) : Type 0 where
  pub shifted : IfOk answer
      (λ receipts. ContinuesByShift store old.ticket new.ticket from to amount receipts)
  pub refused : IfErr answer (λ why. TellsShift store old.ticket new.ticket from to amount why)
  pub same : IsSamePass old new
  pub receipts : new.receipts.items ≡ old.receipts.items ++ receipts_added answer
  pub gate : IsAskedOften cuts endless old.gate new.gate (was_cut answer)
