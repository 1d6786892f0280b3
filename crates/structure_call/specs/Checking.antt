-- What is decided of a call before it takes memory.
use Rattle.std.specs.Prelude.{◌≡◌, List, length, slice_get, slice_index, Some, None}
use Rattle.mont_base.specs.declared.operation.Op.{Op}
use Rattle.mont_base.specs.declared.operation.Reply.{Reply}
use Rattle.mont_base.specs.declared.record.Change.{Change}
use Rattle.mont_base.specs.declared.refusal.CallRefusal.{CallRefusal}
use Rattle.mont_base.specs.declared.refusal.CallRefusal.TheVariants.{Halted, CountEnd}
use Rattle.heap.specs.HeapShown.{HeapShown, CallerShown}
use Rattle.heap_rule.specs.Plays.{IsNotBeyond}
use Rattle.op_guard.specs.Guarding.{HasNoted}
use Rattle.slots.specs.Books.{RegionShown}
use Rattle.structure_call.specs.Standing.{ShowsHistory}
use Rattle.structure_call.specs.Planning.{IsPlan, first_at_end}

-- The unit is as it was, and the caller, whose entries of the unit stood first there, took a note
-- of it, so that it has seen all of them. The records show the state to which these lead.
pub record WasNoted
    (heap : HeapShown) (old new : RegionShown) (q r : CallerShown) : Type 0 where
  pub same : new ≡ old
  pub seen : IsNotBeyond q.known old.seat.known
  pub noted : HasNoted old q r
  pub front : slice_index r.known.part.fronts old.books.unit ≡ length new.seat.known.part.history
  pub entries : slice_get r.known.entries old.books.unit ≡ Some new.seat.known.part.history
  pub showed : ShowsHistory heap new

-- a caller was cut in the unit before
abbrev pub WasHaltedBefore :
    HeapShown → RegionShown → RegionShown → CallerShown → CallerShown → CallRefusal → Type 0
WasHaltedBefore heap old new q r (Halted unit by) =
    (unit ≡ old.books.unit) × (old.books.halted ≡ Some by) × WasNoted heap old new q r
WasHaltedBefore heap old new q r _ = ⊥

-- the first number that changes would be given above the last one
abbrev pub EndsCount :
    HeapShown → RegionShown → RegionShown → CallerShown → CallerShown → List Change → CallRefusal
    → Type 0
EndsCount heap old new q r changes (CountEnd which) =
    (first_at_end q.known.part old changes ≡ Some which) × WasNoted heap old new q r
EndsCount heap old new q r changes _ = ⊥

-- No caller was cut in the unit, and there is a number for all that the operation would be given.
pub record MayBeCalled (q : CallerShown) (r : RegionShown) (op : Op) : Type 0 where
  pub running : r.books.halted ≡ None
  pub reply : Reply
  pub changes : List Change
  pub plan : IsPlan r op reply changes
  pub numbers : first_at_end q.known.part r changes ≡ None
