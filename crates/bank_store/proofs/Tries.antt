-- One put and one shift of a caller whose gate never cuts: made, or passed over with the cause.
use Rattle.std.proofs.Common.{◌≡◌, ◌≢◌, ℕ, Bool, true, sym, refl, ap, ◌∙◌, subst, inl, inr}
use Rattle.std.specs.Prelude.{Some, None, Ok, Err}
use Rattle.std.specs.declared.result.Result.{Result}
use Rattle.mont_base.specs.declared.gate.Gate.{Ghosts}
use Rattle.mont_base.specs.declared.operation.Op.{Op}
use Rattle.mont_base.specs.declared.operation.Receipt.{Receipt}
use Rattle.mont_base.specs.declared.refusal.CallRefusal.{CallRefusal}
use Rattle.mont_base.specs.declared.refusal.CallRefusal.TheVariants as calls
use Rattle.mont_base.specs.Layout.{Shape, unit_of_key}
use Rattle.heap.specs.HeapShown.{HeapShown}
use Rattle.heap_pass.specs.declared.pass.Pass.{Pass}
use Rattle.shard_map.specs.declared.shift_refusal.ShiftRefusal.{ShiftRefusal}
use Rattle.shard_map.specs.declared.shift_refusal.ShiftRefusal.TheVariants.{SameUnit, Halted, Missing, Short, Over, CountEnd, Memory, Full, Cut}
use Rattle.store.specs.Shifting.{FoundOneFull, HasTriedShift}
use Rattle.store.specs.StoreCalls.{HasCalled, KeepsCaller}
use Rattle.store.specs.StoreShown.{IsOpenedOn, StoreShown}
use Rattle.bank_job.specs.declared.shifts.Shift.{Shift}
use Rattle.bank_job.specs.Bank.{bank_layout}
use Rattle.bank_job.specs.Shifts.{IsBetweenUnits}
use Rattle.bank_store.specs.MadeShifts.{HasMadeShift, IsPassedOver}
use Rattle.bank_store.specs.OpenedAccounts.{HasMadePut, IsLeftOut}

-- ---- shifts
module _ {G : Type 0} {asks : Ghosts G} (heap : HeapShown) (store : StoreShown) (opened : IsOpenedOn heap store) (cuts : G → ℕ)
    (endless : G → Bool) (old new : Pass G asks) (s : Shift) where
  shifted : (pair : Receipt × Receipt) → HasTriedShift store cuts endless old new s.from s.to s.amount (Ok pair)
      → HasMadeShift heap old.ticket new.ticket s
  shifted pair k = (Some pair, (store, opened, k.shifted))

  one_unit : heap.opening.layout ≡ bank_layout → IsBetweenUnits s → (unit : ℕ)
      → unit_of_key store.heap.opening.layout s.from ≡ Some unit → unit_of_key store.heap.opening.layout s.to ≡ Some unit → ⊥
  one_unit layout between unit from to =
      between (subst (λ (l : Shape). unit_of_key l s.from ≡ unit_of_key l s.to)
      (ap (λ (h : HeapShown). h.opening.layout) opened.of_heap ∙ layout) (from ∙ sym to))

  full_keeps : (low high unit need free clock : ℕ) (operations : Op × Op)
      → FoundOneFull store low high old.ticket new.ticket operations unit need free clock → KeepsCaller old.ticket new.ticket
  full_keeps low high unit need free clock operations (inl (e, full)) = full.keeps
  full_keeps low high unit need free clock operations (inr (e, full)) = full.keeps

  passed : (why : ShiftRefusal) → endless old.gate ≡ true → heap.opening.layout ≡ bank_layout → IsBetweenUnits s → why ≢ Memory
      → HasTriedShift store cuts endless old new s.from s.to s.amount (Err why) → IsPassedOver heap old.ticket new.ticket s
  passed (SameUnit unit) e layout between other k =
      absurd (one_unit layout between unit k.refused.0.keeps_from k.refused.0.keeps_to)
  passed (Halted unit by) e layout between other k =
      record { why = Halted unit by; passed = refl; keeps = k.refused.tells.0; tells = (store, opened, k.refused) }
  passed (Missing key) e layout between other k =
      record { why = Missing key; passed = refl; keeps = k.refused.tells.keeps; tells = (store, opened, k.refused) }
  passed (Short have) e layout between other k =
      record { why = Short have; passed = refl; keeps = k.refused.tells.keeps; tells = (store, opened, k.refused) }
  passed (Over have) e layout between other k =
      record { why = Over have; passed = refl; keeps = k.refused.tells.keeps; tells = (store, opened, k.refused) }
  passed (CountEnd which) e layout between other k =
      record { why = CountEnd which; passed = refl; keeps = k.refused.tells.keeps; tells = (store, opened, k.refused) }
  passed Memory e layout between other k = absurd (other refl)
  passed (Full unit need free clock) e layout between other k =
      record {
        why = Full unit need free clock;
        passed = refl;
        keeps = full_keeps k.refused.low k.refused.high unit need free clock k.refused.tells.operations k.refused.tells.full;
        tells = (store, opened, k.refused);
      }
  passed (Cut unit first) e layout between other k = absurd (cc (k.gate.passes e))

  pub made_shift : (answer : Result (Receipt × Receipt) ShiftRefusal) → endless old.gate ≡ true → heap.opening.layout ≡ bank_layout
      → IsBetweenUnits s → (answer ≡ Err Memory → ⊥)
      → HasTriedShift store cuts endless old new s.from s.to s.amount answer → HasMadeShift heap old.ticket new.ticket s
  made_shift (Ok pair) e layout between other k = shifted pair k
  made_shift (Err why) e layout between other k = (None, passed why e layout between (λ same. other (ap Err same)) k)

-- ---- puts
module _ {G : Type 0} {asks : Ghosts G} (heap : HeapShown) (store : StoreShown) (opened : IsOpenedOn heap store) (cuts : G → ℕ)
    (endless : G → Bool) (old new : Pass G asks) (op : Op) where
  left_out : (why : CallRefusal) → endless old.gate ≡ true → why ≢ calls.Memory → HasCalled store cuts endless old new op (Err why)
      → IsLeftOut heap old.ticket new.ticket op
  left_out (calls.Halted unit by) e other k =
      record { why = calls.Halted unit by; left_out = refl; keeps = k.refused.tells.1; tells = (store, opened, k.refused) }
  left_out (calls.CountEnd which) e other k =
      record { why = calls.CountEnd which; left_out = refl; keeps = k.refused.tells.0; tells = (store, opened, k.refused) }
  left_out calls.Memory e other k = absurd (other refl)
  left_out (calls.Full need free clock) e other k =
      record { why = calls.Full need free clock; left_out = refl; keeps = k.refused.tells.keeps; tells = (store, opened, k.refused) }
  left_out (calls.Cut unit) e other k = absurd (cc (k.gate.passes e))

  pub made_put : (answer : Result Receipt CallRefusal) → endless old.gate ≡ true → (answer ≡ Err calls.Memory → ⊥)
      → HasCalled store cuts endless old new op answer → HasMadePut heap old.ticket new.ticket op
  made_put (Ok receipt) e other k = (Some receipt, (store, opened, k.answered))
  made_put (Err why) e other k = (None, left_out why e (λ same. other (ap Err same)) k)
