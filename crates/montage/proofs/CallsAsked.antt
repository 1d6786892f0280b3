-- What a caller of a job has of a call, from what the store's call tells.
use Rattle.std.proofs.Common.{◌≡◌, ℕ, List, [], ◌∷◌, ◌++◌, refl, sym, ap, ◌∙◌, subst, arith}
use Rattle.std.specs.Prelude.{Some, Ok, Err, IfOk, IfErr}
use Rattle.std.specs.declared.result.Result.{Result}
use Rattle.std.proofs.lemmas.List.{append-nil}
use Rattle.mont_base.specs.declared.operation.Entry.{Entry}
use Rattle.mont_base.specs.declared.operation.Op.{Op}
use Rattle.mont_base.specs.declared.operation.Receipt.{Receipt}
use Rattle.mont_base.specs.declared.refusal.CallRefusal.{CallRefusal}
use Rattle.mont_base.specs.declared.refusal.CallRefusal.TheVariants.{Halted, CountEnd, Memory, Full, Cut}
use Rattle.mont_base.specs.Image.{clock_of, IsRecovered}
use Rattle.mont_base.specs.State.{State, unit_of_op}
use Rattle.plain.proofs.Single.{recovered_once}
use Rattle.core_steps.specs.Opened.{opened_at}
use Rattle.core_steps.specs.Sound.{base_state}
use Rattle.core_steps.specs.declared.parts.Mark.{Mark}
use Rattle.heap_rule.proofs.SeenFronts.{fronts_same}
use Rattle.heap.specs.HeapShown.{HeapShown, CallerShown}
use Rattle.caller.specs.Telling.{has_mark}
use Rattle.caller.specs.Continued.{HasContinued}
use Rattle.job_worker.specs.Asking.{KeepsAnswers, WasFound, IsCutIn, HasLearntWhy}
use Rattle.job_worker.proofs.Later.{keeps_same}
use Rattle.store.specs.StoreShown.{IsOpenedOn, StoreShown, store_on}
use Rattle.store.specs.StoreCalls.{ContinuesCaller, HasLearntCause, IsRefused, KeepsCaller, WasLeft}
use Rattle.store.proofs.NumbersAtEnd.{base_there}
use Rattle.store.proofs.StoreBases.{shown}
use Rattle.store.proofs.UnitOps.{op_inside}

-- ---- a caller that goes on
keeps_answers : (q r : CallerShown) → KeepsCaller q r → KeepsAnswers q.known r.known
keeps_answers q r k = record {
  goes_on = record {
    caller = k.caller;
    more = [];
    receipts = k.receipts ∙ sym (append-nil q.known.part.receipts);
    seen = k.entries;
    newest = k.newest;
    durable = k.durable;
    marks = k.marks;
  };
  calls = k.calls;
  receipts = k.receipts;
  cuts = k.cuts;
}

-- ---- a refusal
module _ (heap : HeapShown) (base : List State) (given : IsRecovered heap.opening.layout heap.opening.words base)
    (q r : CallerShown) (op : Op) (unit : ℕ) (named : unit_of_op heap.opening.layout op ≡ Some unit) where
  -- what held of the unit was found
  was_found : (Holds : State → List Entry → Type 0) (Found : ℕ → State → List Entry → Type 0)
      → ((s : State) (h : List Entry) → Holds s h → Found unit s h) → HasLearntCause (store_on heap base) unit r Holds
      → WasFound heap.opening r.known op Found
  was_found Holds Found more k = record {
    unit = unit;
    of_unit = named;
    history = k.history;
    seen = k.kept;
    each = λ states recovered. record {
      base = base_state (opened_at (clock_of heap.opening.words) states) unit;
      opened = base_there heap unit (op_inside heap.opening.layout unit op named) states recovered;
      found = more (base_state (opened_at (clock_of heap.opening.words) states) unit) k.history
          (subst (λ (ss : List State). Holds (base_state (opened_at (clock_of heap.opening.words) ss) unit) k.history)
          (recovered_once heap.opening.layout heap.opening.words base states given recovered) k.cause);
    };
  }

  -- the caller was cut
  is_cut_in : (cut : ℕ) → cut ≡ unit → WasLeft unit q r → IsCutIn heap.opening q.known r.known op cut
  is_cut_in cut here is =
      subst (λ (u : ℕ). IsCutIn heap.opening q.known r.known op u) (sym here)
      (subst (λ (x : CallerShown). IsCutIn heap.opening q.known x.known op unit) (sym is.caller) (record {
        goes_on = record {
          caller = refl;
          more = [];
          receipts = sym (append-nil q.known.part.receipts);
          seen = fronts_same q.known.entries;
          newest = omega arith;
          durable = omega arith;
          marks = λ m has. has;
        };
        of_unit = named;
        calls = refl;
        receipts = refl;
        cuts = ap (λ (u : ℕ). q.known.part.cuts ++ u ∷ []) is.of_unit;
      }))

has_learnt_why : (heap : HeapShown) (base : List State) → IsRecovered heap.opening.layout heap.opening.words base
    → (q r : CallerShown) (op : Op) (why : CallRefusal) → IsRefused (store_on heap base) q r op why
    → HasLearntWhy heap.opening q.known r.known op why
has_learnt_why heap base given q r op (Halted unit by) k = record {
  keeps = keeps_answers q r k.tells.1;
  of_unit = k.named ∙ ap Some (sym k.tells.0);
  marked = ap (λ (u : ℕ). let m : Mark = record { unit = u; by = Some by } in has_mark r.known.part.marks m) k.tells.0 ∙ k.tells.2;
}
has_learnt_why heap base given q r op (CountEnd which) k = record {
  keeps = keeps_answers q r k.tells.0;
  found = was_found heap base given q r op k.unit k.named _ _ (λ s h holds. holds) k.tells.1;
}
has_learnt_why heap base given q r op Memory k =
    subst (λ (x : CallerShown). KeepsAnswers q.known x.known) (sym k.tells) (keeps_same q.known)
has_learnt_why heap base given q r op (Full need free clock) k = record {
  keeps = keeps_answers q r k.tells.keeps;
  few = k.tells.few;
  begun = k.tells.begun;
  known = k.tells.known;
  learnt = k.tells.learnt;
  found = was_found heap base given q r op k.unit k.named _ _ (λ s h holds. (holds.as_needed, holds.as_free)) k.tells.needs;
}
has_learnt_why heap base given q r op (Cut cut) k = is_cut_in heap base given q r op k.unit k.named cut k.tells.0 k.tells.1

-- ---- whatever the answer is
module _ (heap : HeapShown) (store : StoreShown) (opened : IsOpenedOn heap store) (q r : CallerShown) (op : Op) where
  pub if_continued : (answer : Result Receipt CallRefusal) → IfOk answer (λ receipt. ContinuesCaller store q r op receipt)
      → IfOk answer (λ receipt. HasContinued heap.opening q.known r.known op receipt)
  if_continued (Ok receipt) k =
      subst (λ (s : StoreShown). HasContinued s.heap.opening q.known r.known op receipt) (shown heap store opened) k.continued
  if_continued (Err why) k = tt

  pub if_learnt_why : (answer : Result Receipt CallRefusal) → IfErr answer (λ why. IsRefused store q r op why)
      → IfErr answer (λ why. HasLearntWhy heap.opening q.known r.known op why)
  if_learnt_why (Ok receipt) k = tt
  if_learnt_why (Err why) k =
      has_learnt_why heap store.base opened.base q r op why
      (subst (λ (s : StoreShown). IsRefused s q r op why) (shown heap store opened) k)
