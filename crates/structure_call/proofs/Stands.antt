-- A region stands before and after each call.
use Rattle.std.proofs.Common.{◌≡◌, ℕ, sym, ap, subst}
use Rattle.std.specs.Prelude.{None}
use Rattle.mont_base.specs.declared.refusal.CallRefusal.{CallRefusal}
use Rattle.mont_base.specs.declared.refusal.CallRefusal.TheVariants.{Full, Cut}
use Rattle.heap.specs.HeapShown.{HeapShown, CallerShown}
use Rattle.heap_rule.specs.declared.views.UnitTurn.{UnitTurn}
use Rattle.slots.specs.Books.{RegionShown, Agrees}
use Rattle.op_guard.specs.Guarding.{IsFull}
use Rattle.op_guard.specs.Regions.{IsReady, WasHalted}
use Rattle.structure_call.specs.Carrying.{LeavesUncarried}
use Rattle.structure_call.specs.Checking.{WasNoted}
use Rattle.structure_call.specs.Standing.{IsStanding}

pub ready_stands : (heap : HeapShown) (r : RegionShown) → IsReady heap r → IsStanding heap r
ready_stands heap r k = record {
  of_heap = k.runs.of_heap;
  clean = k.runs.clean;
  home = ap (λ (t : UnitTurn). t.out) k.home;
  idle = λ running. record { rests = k.rests; home = k.home };
}

-- where no caller was cut in it, an operation may begin
pub standing_ready : (heap : HeapShown) (r : RegionShown) → IsStanding heap r → Agrees r → r.books.halted ≡ None → IsReady heap r
standing_ready heap r k agrees running = record {
  runs = record { of_heap = k.of_heap; agrees = agrees; running = running; clean = k.clean };
  rests = (k.idle running).rests;
  home = (k.idle running).home;
}

pub full_stands : (heap : HeapShown) (old new : RegionShown) (q r : CallerShown) (need free clock : ℕ)
    → IsFull heap old new q r need free clock → IsStanding heap new
full_stands heap old new q r need free clock k = ready_stands heap new k.ready

pub noted_stands : (heap : HeapShown) (old new : RegionShown) (q r : CallerShown) → WasNoted heap old new q r → IsStanding heap old
    → IsStanding heap new
noted_stands heap old new q r k stands = subst (IsStanding heap) (sym k.same) stands

pub halted_stands : (heap : HeapShown) (old new : RegionShown) (q r : CallerShown) → WasHalted heap old new q r → IsStanding heap new
halted_stands heap old new q r k = record {
  of_heap = k.of_heap;
  clean = k.clean;
  home = k.home;
  idle = λ running. let by = k.by in absurd (cc);
}

-- an operation that couldn't be carried out leaves it so
pub uncarried_stands : (heap : HeapShown) (old new : RegionShown) (q r : CallerShown) (many : ℕ) (why : CallRefusal)
    → LeavesUncarried heap old new q r many why → Agrees new × IsStanding heap new
uncarried_stands heap old new q r many (Full need free clock) k =
    (k.1.ready.runs.agrees, full_stands heap old new q r need free clock k.1)
uncarried_stands heap old new q r many (Cut unit) k = (k.1.agrees, halted_stands heap old new q r k.1)
uncarried_stands heap old new q r many _ k = absurd k
