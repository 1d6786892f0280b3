-- What the tickets of the bank's callers show, before their shifts and after them.
use Rattle.std.specs.Prelude.{◌≡◌, ℕ, List, [], length, slice_get, Option, Some}
use Rattle.mont_base.specs.declared.operation.Receipt.{Receipt}
use Rattle.heap.specs.FreshOpening.{fresh_opening}
use Rattle.heap.specs.HeapShown.{HeapShown, CallerShown}
use Rattle.heap.specs.Opens.{dealt_callers}
use Rattle.caller.specs.Continued.{GoesOn, IsUnanswered}
use Rattle.bank_job.specs.Bank.{bank_layout}
use Rattle.bank_job.specs.Shifts.{first_shifts}
use Rattle.bank_store.specs.BankRun.{begun_with}
use Rattle.bank_store.specs.MadeShifts.{HasMadeShifts}
use Rattle.bank_store.specs.OpenedAccounts.{HaveOpened, KnowsOpening, puts_given}

-- ---- before all
-- the tickets of a store that was never used, which has four callers
pub record AreNewTickets (heap : HeapShown) (tickets : List CallerShown) : Type 0 where
  pub dealt : tickets ≡ dealt_callers heap.table (fresh_opening bank_layout 4) 4

-- ---- before the shifts
-- a caller that knows the opening, and was given no other receipt
pub record IsReady (heap : HeapShown) (opening : List Receipt) (caller : ℕ) (q : CallerShown)
    : Type 0 where
  pub table : q.table ≡ heap.table
  pub number : q.known.caller ≡ caller
  pub calls : q.known.part.calls ≡ length (begun_with opening caller)
  pub receipts : q.known.part.receipts ≡ begun_with opening caller
  pub cuts : q.known.part.cuts ≡ []
  pub knows : KnowsOpening q.known opening

-- the first caller has opened the accounts
pub record IsOpener (heap : HeapShown) (ends : List (Option Receipt)) (r : CallerShown)
    : Type 0 where
  pub first : CallerShown
  pub unanswered : IsUnanswered first.known
  pub uncut : first.known.part.cuts ≡ []
  pub opened : HaveOpened heap first r ends

-- ---- after them
-- a caller that was ready has made its shifts
pub record HasShiftedAll
    (heap : HeapShown) (number : ℕ) (opening : List Receipt) (caller : ℕ) (r : CallerShown)
    : Type 0 where
  pub begun : CallerShown
  pub ready : IsReady heap opening caller begun
  pub made : HasMadeShifts heap begun r (first_shifts number caller 500)

-- All of them have, and the first one had opened the accounts before.
pub record HaveShifted (heap : HeapShown) (number : ℕ) (callers : List CallerShown)
    : Type 0 where
  pub four : length callers ≡ 4
  pub ends : List (Option Receipt)
  pub opener : CallerShown
  pub opened : IsOpener heap ends opener
  pub still : (r : CallerShown) → slice_get callers 0 ≡ Some r → GoesOn opener.known r.known
  pub each :
      (caller : ℕ) (r : CallerShown) → slice_get callers caller ≡ Some r
      → HasShiftedAll heap number (puts_given ends) caller r
