-- What a call of a structure leaves, whatever its kind.
use Rattle.std.specs.Prelude.{◌≡◌, ℕ, ◌+◌, Bool, true, false, List, [], ◌∷◌, ◌++◌, All, count_by, length, Option, None, Err}
use Rattle.std.specs.declared.result.Result.{Result}
use Rattle.mont_base.specs.declared.effect.Effect.{Effect}
use Rattle.mont_base.specs.declared.operation.Op.{Op}
use Rattle.mont_base.specs.declared.operation.Receipt.{Receipt}
use Rattle.mont_base.specs.declared.operation.Reply.{Reply}
use Rattle.mont_base.specs.declared.record.Change.{Change}
use Rattle.mont_base.specs.declared.record.Held.{Held}
use Rattle.mont_base.specs.declared.refusal.CallRefusal.{CallRefusal}
use Rattle.mont_base.specs.declared.refusal.CallRefusal.TheVariants.{Halted, CountEnd, Memory, Full, Cut}
use Rattle.mont_base.specs.Counting.{is_insertion, is_enqueuing}
use Rattle.mont_base.specs.State.{step}
use Rattle.mont_laws.specs.Effects.{AreEffects}
use Rattle.mont_laws.specs.Records.{live_of}
use Rattle.mont_laws.specs.Structures.{HasStructure}
use Rattle.core_steps.specs.CallAnswers.{IsJudged}
use Rattle.heap.specs.HeapShown.{HeapShown, CallerShown}
use Rattle.heap.specs.Receipts.{receipt_of}
use Rattle.heap_rule.specs.Plays.{IsNotBeyond, answer_of}
use Rattle.heap_rule.specs.Views.{caller_answered}
use Rattle.op_guard.specs.Guarding.{IsReachedBy}
use Rattle.op_guard.specs.Regions.{IsReady}
use Rattle.slots.specs.Books.{RegionShown}
use Rattle.slots.specs.Reclaiming.{IsSound}
use Rattle.structure_call.specs.Standing.{ShowsHistory}
use Rattle.structure_call.specs.Planning.{IsPlan}
use Rattle.structure_call.specs.Checking.{WasHaltedBefore, EndsCount}
use Rattle.structure_call.specs.Carrying.{HasCarried, LeavesUncarried}

-- After records of which the same are live as before stand those that the effects write, each
-- with the entry's epoch.
pub record HasWritten
    (unit : ℕ) (old new : List Held) (effects : List Effect) (epoch : ℕ) : Type 0 where
  pub kept : List Held
  pub live : (identity : ℕ) → live_of identity kept ≡ live_of identity old
  pub written : List Held
  pub records_are : new ≡ kept ++ written
  pub are_effects : AreEffects unit kept effects written
  pub epochs : All (λ (w : Held). w.label.epoch ≡ epoch) written

-- The unit has one entry more, after all that the caller had seen of it, which stood first there.
-- Its reply is the plain step's on the state that the unit's records showed, and to which its
-- history had led.
pub record HasAnsweredCall
    (heap : HeapShown) (old new : RegionShown) (q r : CallerShown) (op : Op) (receipt : Receipt)
    : Type 0 where
  pub showed : ShowsHistory heap old
  pub judged : IsJudged heap.opening.layout old.books.unit old.seat.known.part op
      receipt.entry.reply
  pub receipt_is : receipt
      ≡ receipt_of old.seat.known
      (answer_of q.known op receipt.entry.reply receipt.entry.epoch)
  pub caller : r ≡ record {
    table = q.table;
    known = caller_answered q.known old.seat.known receipt.entry;
  }
  pub history : new.seat.known.part.history
      ≡ old.seat.known.part.history ++ receipt.entry ∷ []
  pub seen : IsNotBeyond q.known old.seat.known
  pub reached : IsReachedBy q old receipt.entry.epoch
  pub wrote : HasWritten old.books.unit old.seat.known.part.records new.seat.known.part.records
      (step judged.state op).effects receipt.entry.epoch
  pub after : HasStructure heap.opening.layout old.books.unit new.seat.known.part.records
      (step judged.state op).state
  pub identity : new.books.identity
      ≡ old.books.identity + count_by is_insertion (step judged.state op).effects
  pub serial : new.books.serial
      ≡ old.books.serial + count_by is_enqueuing (step judged.state op).effects
  pub of_unit : new.books.unit ≡ old.books.unit
  pub ready : IsReady heap new
  pub sound : IsSound heap new

-- A planned operation was carried out: it is answered so, and its changes are written, the last one
-- into this slot.
pub record HasCarriedOut
    (heap : HeapShown) (old new : RegionShown) (q r : CallerShown) (op : Op) (reply : Reply)
    (changes : List Change) (slot : Option ℕ) (receipt : Receipt) : Type 0 where
  pub answered : HasAnsweredCall heap old new q r op receipt
  pub replied : receipt.entry.reply ≡ reply
  pub carried : HasCarried old new changes receipt slot

-- ---- refusals
-- no caller was cut in the unit, and a number is at its end for the changes of the operation
pub record HasEnd
    (heap : HeapShown) (old new : RegionShown) (q r : CallerShown) (op : Op) (why : CallRefusal)
    : Type 0 where
  pub running : old.books.halted ≡ None
  pub reply : Reply
  pub changes : List Change
  pub plan : IsPlan old op reply changes
  pub ends : EndsCount heap old new q r changes why

-- nothing changed but spare room
abbrev pub IsUntouched : RegionShown → RegionShown → CallerShown → CallerShown → Type 0
IsUntouched old new q r = (new ≡ old) × (r ≡ q)

-- the operation was planned, and couldn't be carried out
pub record IsUncarried
    (heap : HeapShown) (old new : RegionShown) (q r : CallerShown) (op : Op) (why : CallRefusal)
    : Type 0 where
  pub reply : Reply
  pub changes : List Change
  pub plan : IsPlan old op reply changes
  pub leaves : LeavesUncarried heap old new q r (length changes) why

abbrev pub LeavesCall :
    HeapShown → RegionShown → RegionShown → CallerShown → CallerShown → Op → CallRefusal → Type 0
LeavesCall heap old new q r op (Halted unit by) = WasHaltedBefore heap old new q r (Halted unit by)
LeavesCall heap old new q r op (CountEnd which) = HasEnd heap old new q r op (CountEnd which)
LeavesCall heap old new q r op Memory = IsUntouched old new q r
LeavesCall heap old new q r op (Full need free clock) =
    IsUncarried heap old new q r op (Full need free clock)
LeavesCall heap old new q r op (Cut unit) = IsUncarried heap old new q r op (Cut unit)

-- the gate cut
abbrev pub was_cut : {T : Type 0} → Result T CallRefusal → Bool
was_cut (Err (Cut unit)) = true
was_cut _ = false

-- it wasn't refused before memory was taken
abbrev pub was_checked : {T : Type 0} → Result T CallRefusal → Bool
was_checked (Err (Halted unit by)) = false
was_checked (Err (CountEnd which)) = false
was_checked _ = true

-- it wasn't refused before the first step, which asks the gate
abbrev pub was_asked : {T : Type 0} → Result T CallRefusal → Bool
was_asked (Err (Halted unit by)) = false
was_asked (Err (CountEnd which)) = false
was_asked (Err Memory) = false
was_asked _ = true
