-- What a call of a structure leaves of its caller, and what its refusals tell.
use Rattle.std.specs.Prelude.{◌≡◌, ℕ, ◌<◌, ◌≤◌, Bool, true, false, List, [], ◌∷◌, ◌++◌, length, slice_get, slice_set, Some, Ok, Err, IfOk, IfErr}
use Rattle.std.specs.declared.result.Result.{Result}
use Rattle.mont_base.specs.declared.constants.TheConstants.{MOST_PAIRS}
use Rattle.mont_base.specs.declared.gate.Gate.{Ghosts}
use Rattle.mont_base.specs.declared.operation.Entry.{Entry}
use Rattle.mont_base.specs.declared.operation.Op.{Op}
use Rattle.mont_base.specs.declared.operation.Op.TheVariants as ops
use Rattle.mont_base.specs.declared.operation.Receipt.{Receipt}
use Rattle.mont_base.specs.declared.operation.Reply.{Reply}
use Rattle.mont_base.specs.declared.refusal.CallRefusal.{CallRefusal}
use Rattle.mont_base.specs.declared.refusal.CallRefusal.TheVariants.{Halted, CountEnd, Memory, Full, Cut}
use Rattle.mont_base.specs.declared.refusal.Which.{Which}
use Rattle.mont_base.specs.Counting.{effects_then, IsAtEnd, records_in}
use Rattle.mont_base.specs.History.{state_after}
use Rattle.mont_base.specs.Image.{clock_of}
use Rattle.mont_base.specs.Room.{room_of, LacksRoom}
use Rattle.mont_base.specs.Seen.{ContinuesView}
use Rattle.mont_base.specs.State.{State, Run, run_of, step, unit_of_op}
use Rattle.core_steps.specs.declared.parts.Mark.{Mark}
use Rattle.core_steps.specs.CallerClauses.{view_of}
use Rattle.core_steps.specs.Opened.{opened_at}
use Rattle.core_steps.specs.Sound.{base_state}
use Rattle.heap_rule.specs.declared.views.UnitKnown.{UnitKnown}
use Rattle.heap_rule.specs.SeenEntries.{AreFronts}
use Rattle.heap_rule.specs.Views.{caller_cut}
use Rattle.heap.specs.HeapShown.{CallerShown}
use Rattle.structure_call.specs.Calling.{was_asked, was_cut}
use Rattle.caller.specs.Telling.{has_mark}
use Rattle.heap.specs.GateAsked.{IsAskedOften}
use Rattle.heap_pass.specs.declared.pass.Pass.{Pass}
use Rattle.heap_pass.specs.Kept.{IsWhole}
use Rattle.caller.specs.Continued.{HasContinued}
use Rattle.store.specs.StoreShown.{StoreShown}

-- This holds of what the unit held when the store was opened.
abbrev pub HoldsOfBase : StoreShown → ℕ → (State → Type 0) → Type 0
HoldsOfBase store unit Holds =
    Holds (base_state (opened_at (clock_of store.heap.opening.words) store.base) unit)

-- ---- answered: what the caller has of it
-- The reply is that of the operation on the state to which entries of the unit lead, from what the
-- unit held when the store was opened.
abbrev pub RepliesBehind : StoreShown → ℕ → List Entry → Op → Reply → Type 0
RepliesBehind store unit history op reply =
    HoldsOfBase store unit (λ base. reply ≡ (step (state_after base history) op).reply)

-- The call is one entry of its unit, after all that the caller had seen. Its reply is that of the
-- plain structure after the entries before it, and of that unit the caller has then seen it and
-- all of these.
pub record ContinuesCaller
    (store : StoreShown) (q r : CallerShown) (op : Op) (receipt : Receipt) : Type 0 where
  pub table : r.table ≡ q.table
  pub continued : HasContinued store.heap.opening q.known r.known op receipt
  pub continues : ContinuesView (view_of q.known.part) (view_of r.known.part) receipt
  pub replies : RepliesBehind store receipt.unit continued.history op receipt.entry.reply
  pub entries : r.known.entries
      ≡ slice_set q.known.entries receipt.unit (continued.history ++ receipt.entry ∷ [])

-- an operation that asks for a range, of no more pairs than a run has room for
abbrev pub IsRange : Op → Type 0
IsRange (ops.ORange unit from to most) = most ≤ MOST_PAIRS
IsRange _ = ⊥

-- The pairs are those of the range in the plain structure after the entries before it, all of
-- which the caller has then seen.
pub record HandsRun (store : StoreShown) (r : CallerShown) (receipt : Receipt) (run : Run)
    : Type 0 where
  pub history : List Entry
  pub seen : slice_get r.known.entries receipt.unit ≡ Some (history ++ receipt.entry ∷ [])
  pub run_is : HoldsOfBase store receipt.unit
      (λ base. run_of (state_after base history) receipt.entry.op ≡ Some run)

-- ---- refused: what the caller has of it
-- No answer is lost, nothing that was seen is forgotten, and nothing more is known to be durable
-- than the caller has seen. Of each unit it has seen the entries that it had, and maybe more.
pub record KeepsCaller (q r : CallerShown) : Type 0 where
  pub table : r.table ≡ q.table
  pub caller : r.known.caller ≡ q.known.caller
  pub calls : r.known.part.calls ≡ q.known.part.calls
  pub receipts : r.known.part.receipts ≡ q.known.part.receipts
  pub synced : r.known.part.synced ≡ q.known.part.synced
  pub cuts : r.known.part.cuts ≡ q.known.part.cuts
  pub within : r.known.within ≡ q.known.within
  pub fronts :
      (unit n m : ℕ) → slice_get q.known.part.fronts unit ≡ Some n
      → slice_get r.known.part.fronts unit ≡ Some m → n ≤ m
  pub entries : AreFronts r.known.entries q.known.entries
  pub newest : q.known.part.newest ≤ r.known.part.newest
  pub durable : q.known.part.durable ≤ r.known.part.durable
  pub marks : (m : Mark) → has_mark q.known.part.marks m ≡ true
      → has_mark r.known.part.marks m ≡ true

-- A cause held of what the unit held when the store was opened and of its entries, all of which
-- the caller has now seen.
pub record HasLearntCause
    (store : StoreShown) (unit : ℕ) (r : CallerShown) (Holds : State → List Entry → Type 0)
    : Type 0 where
  pub history : List Entry
  pub kept : slice_get r.known.entries unit ≡ Some history
  pub cause : HoldsOfBase store unit (λ base. Holds base history)

-- The operation needed so many slots then, and so many are free of those that the unit has, where
-- all is closed that may be at the clock.
abbrev pub NeedsRoom : StoreShown → ℕ → CallerShown → Op → ℕ → ℕ → ℕ → Type 0
NeedsRoom store unit r op need free clock = HasLearntCause store unit r (λ base history.
    LacksRoom (length (effects_then base history op))
    (room_of store.heap.opening.layout.slots base history clock) need free)

-- So it was at a durable clock that isn't below the one that the caller knew, and that it knows
-- now.
pub record FoundFull
    (store : StoreShown) (unit : ℕ) (q r : CallerShown) (op : Op) (need free clock : ℕ)
    : Type 0 where
  pub keeps : KeepsCaller q r
  pub few : free < need
  pub needs : NeedsRoom store unit r op need free clock
  pub begun : clock_of store.heap.opening.words ≤ clock
  pub known : q.known.part.durable ≤ clock
  pub learnt : clock ≤ r.known.part.durable

-- The number was at its end then, after so many calls of the caller, by the records that the unit
-- was opened with and by its entries.
abbrev pub NeedsNumber : StoreShown → ℕ → CallerShown → CallerShown → Op → Which → Type 0
NeedsNumber store unit q r op which =
    HasLearntCause store unit r
    (IsAtEnd (records_in store.records unit) q.known.part.calls which op)

-- The caller was cut in the unit, which its seat shows so, and learnt nothing. Where the unit is
-- left within an epoch, the caller keeps which.
pub record WasLeft (unit : ℕ) (q r : CallerShown) : Type 0 where
  pub shown : UnitKnown
  pub of_unit : shown.unit ≡ unit
  pub caller : r ≡ record { table = q.table; known = caller_cut q.known shown }

-- what a refusal of an operation of the unit tells
abbrev pub TellsWhy :
    StoreShown → ℕ → CallerShown → CallerShown → Op → CallRefusal → Type 0
TellsWhy store unit q r op (Halted halted by) =
    (halted ≡ unit) × KeepsCaller q r
    × (has_mark r.known.part.marks (record { unit = unit; by = Some by }) ≡ true)
TellsWhy store unit q r op (CountEnd which) =
    KeepsCaller q r × NeedsNumber store unit q r op which
TellsWhy store unit q r op Memory = r ≡ q
TellsWhy store unit q r op (Full need free clock) = FoundFull store unit q r op need free clock
TellsWhy store unit q r op (Cut cut) =
    (cut ≡ unit) × WasLeft unit q r

-- Which unit the operation is of, and what its refusal tells.
pub record IsRefused (store : StoreShown) (q r : CallerShown) (op : Op) (why : CallRefusal)
    : Type 0 where
  pub unit : ℕ
  pub named : unit_of_op store.heap.opening.layout op ≡ Some unit
  pub tells : TellsWhy store unit q r op why

-- ---- a call, whatever it answers
-- The pass is of the same caller, and has all of its receipts still if it had.
pub record IsSamePass {G : Type 0} {asks : Ghosts G} (old new : Pass G asks) : Type 0 where
  pub table : new.ticket.table ≡ old.ticket.table
  pub caller : new.ticket.known.caller ≡ old.ticket.known.caller
  pub whole : IsWhole old.ticket old.receipts.items → IsWhole new.ticket new.receipts.items

-- the receipts that an answer adds to those of a pass
abbrev pub receipts_more : Result Receipt CallRefusal → List Receipt
receipts_more (Ok receipt) = receipt ∷ []
receipts_more (Err why) = []

-- What a call of the operation leaves of the caller's pass. Its gate was asked before each step,
-- and not at all by a call that was refused before the first.
pub record HasCalled {G : Type 0} {asks : Ghosts G}
    (store : StoreShown) (cuts : G → ℕ) (endless : G → Bool) (old new : Pass G asks) (op : Op)
    (answer : Result Receipt CallRefusal) : Type 0 where
  pub answered : IfOk answer (λ receipt. ContinuesCaller store old.ticket new.ticket op receipt)
  pub refused : IfErr answer (λ why. IsRefused store old.ticket new.ticket op why)
  pub same : IsSamePass old new
  pub receipts : new.receipts.items ≡ old.receipts.items ++ receipts_more answer
  pub gate : IsAskedOften cuts endless old.gate new.gate (was_cut answer)
  pub unasked : was_asked answer ≡ false → new.gate ≡ old.gate
