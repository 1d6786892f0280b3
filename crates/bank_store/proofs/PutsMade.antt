-- Puts that a caller made, one more at a time, and what it knows once it waited.
use Rattle.std.proofs.Common.{◌≡◌, ℕ, ◌<◌, ◌≤◌, false, List, [], ◌∷◌, ◌++◌, length, sym, refl, ap, ◌∙◌, subst, arith, append_assoc, length-append, inl, inr}
use Rattle.std.specs.Prelude.{Option, Some, None, Ok, Err, All, IfOk, IfErr, option_to_list}
use Rattle.std.specs.declared.result.Result.{Result}
use Rattle.std.proofs.lemmas.List.{append-nil}
use Rattle.std.proofs.lemmas.List.Elements.{All-nil, All-cons, All-append}
use Rattle.mont_base.specs.declared.operation.Entry.{Entry}
use Rattle.mont_base.specs.declared.operation.Op.{Op}
use Rattle.mont_base.specs.declared.operation.Receipt.{Receipt}
use Rattle.mont_base.specs.State.{unit_of_op}
use Rattle.heap.specs.HeapShown.{HeapShown, CallerShown}
use Rattle.heap_rule.specs.SeenEntries.{AreFronts}
use Rattle.heap_rule.proofs.SeenFronts.{fronts_same}
use Rattle.caller.specs.declared.sync_refusal.SyncRefusal.{SyncRefusal}
use Rattle.caller.specs.declared.sync_refusal.SyncRefusal.TheVariants.{Stuck, Cut, ClockEnd}
use Rattle.caller.specs.Continued.{GoesOn}
use Rattle.caller.specs.Syncing.{HasSynced, KeepsSeen, LeavesUnsynced, was_cut}
use Rattle.bank_store.specs.MadeShifts.{HasSeenPlace}
use Rattle.bank_store.specs.OpenedAccounts.{HaveComeTo, IsSettled, PutComesTo, PutEnds, PutsEnd, puts_given}
use Rattle.bank_store.proofs.SeenCalls.{answer_seen, goes_further, goes_keeping, goes_same, seen_later}
use Rattle.bank_store.proofs.ShiftsMade.{all_weaker}

puts_more : (ends : List (Option Receipt)) (end : Option Receipt) → puts_given (ends ++ end ∷ []) ≡ puts_given ends ++ option_to_list end
puts_more [] end = append-nil (option_to_list end)
puts_more (e ∷ es) end =
    ap (λ (rs : List Receipt). option_to_list e ++ rs) (puts_more es end)
    ∙ sym (append_assoc (option_to_list e) (puts_given es) (option_to_list end))

pub come_none : (heap : HeapShown) (q : CallerShown) → HaveComeTo heap q q [] []
come_none heap q = record {
  table = refl;
  goes_on = goes_same q.known;
  cuts = refl;
  calls = omega arith;
  receipts = sym (append-nil q.known.part.receipts);
  seen = All-nil (HasSeenPlace q.known);
  epochs = All-nil (λ (x : Receipt). x.entry.epoch ≤ q.known.part.newest);
  units = All-nil (λ (x : Receipt). x.unit < 6);
  each = tt;
}

-- ---- the ends so far, of a caller that goes on
put_ends_later : (heap : HeapShown) (q r t : CallerShown) → GoesOn r.known t.known → r.known.part.calls ≤ t.known.part.calls
    → (op : Op) (end : Option Receipt) → PutEnds heap q r op end → PutEnds heap q t op end
put_ends_later heap q r t on calls op (Some receipt) e = e
put_ends_later heap q r t on calls op None w = record {
  before = w.before;
  behind = w.behind;
  over = w.over;
  goes_on = goes_further w.behind.known r.known t.known w.goes_on on;
  calls = omega (arith, calls, w.calls);
}

puts_end_later : (heap : HeapShown) (q r t : CallerShown) → GoesOn r.known t.known → r.known.part.calls ≤ t.known.part.calls
    → (ops : List Op) (ends : List (Option Receipt)) → PutsEnd heap q r ops ends → PutsEnd heap q t ops ends
puts_end_later heap q r t on calls [] [] e = tt
puts_end_later heap q r t on calls (o ∷ os) (e ∷ es) k =
    (put_ends_later heap q r t on calls o e k.0, puts_end_later heap q r t on calls os es k.1)
puts_end_later heap q r t on calls [] (e ∷ es) k = absurd k
puts_end_later heap q r t on calls (o ∷ os) [] k = absurd k

puts_end_more : (heap : HeapShown) (q t : CallerShown) (o : Op) (end : Option Receipt) → PutEnds heap q t o end
    → (ops : List Op) (ends : List (Option Receipt)) → PutsEnd heap q t ops ends → PutsEnd heap q t (ops ++ o ∷ []) (ends ++ end ∷ [])
puts_end_more heap q t o end last [] [] k = (last, tt)
puts_end_more heap q t o end last (p ∷ ps) (e ∷ es) k = (k.0, puts_end_more heap q t o end last ps es k.1)
puts_end_more heap q t o end last [] (e ∷ es) k = absurd k
puts_end_more heap q t o end last (p ∷ ps) [] k = absurd k

epochs_later : (given : List Receipt) (m n : ℕ) → m ≤ n → All (λ (x : Receipt). x.entry.epoch ≤ m) given
    → All (λ (x : Receipt). x.entry.epoch ≤ n) given
epochs_later given m n le all =
    all_weaker (λ (x : Receipt). x.entry.epoch ≤ m) (λ (x : Receipt). x.entry.epoch ≤ n) (λ x l. omega (arith, l, le)) given all

-- ---- one more put
pub come_more : (heap : HeapShown) (q r t : CallerShown) (puts : List Op) (ends : List (Option Receipt)) (o : Op) (end : Option Receipt)
    → ((unit : ℕ) → unit_of_op heap.opening.layout o ≡ Some unit → unit < 6) → HaveComeTo heap q r puts ends → PutComesTo heap r t o end
    → HaveComeTo heap q t (puts ++ o ∷ []) (ends ++ end ∷ [])
come_more heap q r t puts ends o (Some x) inside k c =
    let made = c.2.continued in
    let more = puts_more ends (Some x) in
    let n = ap length more ∙ length-append (puts_given ends) (x ∷ []) in
    let calls : r.known.part.calls ≤ t.known.part.calls = let a = made.calls in omega (arith, a) in
    let of_unit : unit_of_op heap.opening.layout o ≡ Some x.unit =
    subst (λ (h : HeapShown). unit_of_op h.opening.layout o ≡ Some x.unit) c.1.of_heap made.of_unit in
    record {
      table = c.2.table ∙ k.table;
      goes_on = goes_further q.known r.known t.known k.goes_on made.goes_on;
      cuts = made.cuts ∙ k.cuts;
      calls = let a = made.calls in let b = k.calls in omega (arith, a, b, n);
      receipts = made.receipts ∙ ap (λ (y : List Receipt). y ++ x ∷ []) k.receipts
          ∙ append_assoc q.known.part.receipts (puts_given ends) (x ∷ [])
          ∙ ap (λ (y : List Receipt). q.known.part.receipts ++ y) (sym more);
      seen = subst (All (HasSeenPlace t.known)) (sym more)
          (All-append (HasSeenPlace t.known) (puts_given ends) (x ∷ [])
          (all_weaker (HasSeenPlace r.known) (HasSeenPlace t.known) (λ y p. seen_later r.known t.known y made.goes_on p)
          (puts_given ends) k.seen)
          (All-cons (HasSeenPlace t.known) x [] (answer_seen c.0.heap.opening r.known t.known o x made) (All-nil (HasSeenPlace t.known))));
      epochs = subst (All (λ (y : Receipt). y.entry.epoch ≤ t.known.part.newest)) (sym more)
          (All-append (λ (y : Receipt). y.entry.epoch ≤ t.known.part.newest) (puts_given ends) (x ∷ [])
          (epochs_later (puts_given ends) r.known.part.newest t.known.part.newest made.goes_on.newest k.epochs)
          (All-cons (λ (y : Receipt). y.entry.epoch ≤ t.known.part.newest) x []
          (let a = made.newest in omega (arith, a)) (All-nil (λ (y : Receipt). y.entry.epoch ≤ t.known.part.newest))));
      units = subst (All (λ (y : Receipt). y.unit < 6)) (sym more)
          (All-append (λ (y : Receipt). y.unit < 6) (puts_given ends) (x ∷ []) k.units
          (All-cons (λ (y : Receipt). y.unit < 6) x [] (inside x.unit of_unit) (All-nil (λ (y : Receipt). y.unit < 6))));
      each = puts_end_more heap q t o (Some x) made.asked puts ends (puts_end_later heap q r t made.goes_on calls puts ends k.each);
    }
come_more heap q r t puts ends o None inside k c =
    let on = goes_keeping r t c.keeps in
    let more = puts_more ends None ∙ append-nil (puts_given ends) in
    let n = ap length more in
    let same = c.keeps.calls in
    let calls : r.known.part.calls ≤ t.known.part.calls = omega (arith, same) in
    record {
      table = c.keeps.table ∙ k.table;
      goes_on = goes_further q.known r.known t.known k.goes_on on;
      cuts = c.keeps.cuts ∙ k.cuts;
      calls = let b = k.calls in omega (arith, same, b, n);
      receipts = c.keeps.receipts ∙ k.receipts ∙ ap (λ (y : List Receipt). q.known.part.receipts ++ y) (sym more);
      seen = subst (All (HasSeenPlace t.known)) (sym more)
          (all_weaker (HasSeenPlace r.known) (HasSeenPlace t.known) (λ y p. seen_later r.known t.known y on p) (puts_given ends) k.seen);
      epochs = subst (All (λ (y : Receipt). y.entry.epoch ≤ t.known.part.newest)) (sym more)
          (epochs_later (puts_given ends) r.known.part.newest t.known.part.newest on.newest k.epochs);
      units = subst (All (λ (y : Receipt). y.unit < 6)) (sym more) k.units;
      each = puts_end_more heap q t o None
          (record { before = r; behind = t; over = c; goes_on = goes_same t.known; calls = calls }) puts ends
          (puts_end_later heap q r t on calls puts ends k.each);
    }

-- ---- after the wait
goes_waiting : (q r : CallerShown) → KeepsSeen q r → GoesOn q.known r.known
goes_waiting q r k = record {
  caller = k.caller;
  more = [];
  receipts = k.receipts ∙ sym (append-nil q.known.part.receipts);
  seen = subst (λ (es : List (List Entry)). AreFronts es q.known.entries) (sym k.entries) (fronts_same q.known.entries);
  newest = let n = k.newest in omega (arith, n);
  durable = k.durable;
  marks = k.marks;
}

pub come_waiting : (heap : HeapShown) (q r t : CallerShown) (puts : List Op) (ends : List (Option Receipt))
    → HaveComeTo heap q r puts ends → KeepsSeen r t → HaveComeTo heap q t puts ends
come_waiting heap q r t puts ends k w =
    let on = goes_waiting r t w in
    let same = w.calls in
    record {
      table = w.table ∙ k.table;
      goes_on = goes_further q.known r.known t.known k.goes_on on;
      cuts = w.cuts ∙ k.cuts;
      calls = let b = k.calls in omega (arith, same, b);
      receipts = w.receipts ∙ k.receipts;
      seen = all_weaker (HasSeenPlace r.known) (HasSeenPlace t.known) (λ y p. seen_later r.known t.known y on p) (puts_given ends) k.seen;
      epochs = epochs_later (puts_given ends) r.known.part.newest t.known.part.newest on.newest k.epochs;
      units = k.units;
      each = puts_end_later heap q r t on (omega (arith, same)) puts ends k.each;
    }

settled_synced : (q r : CallerShown) (clock : ℕ) → HasSynced q r clock → IsSettled r.known
settled_synced q r clock s =
    let now = ap (λ (c : CallerShown). c.known.part.newest) s.only in
    let durable = ap (λ (c : CallerShown). c.known.part.durable) s.only in
    inl (omega (arith, s.past, now, durable))

settled_refused : (heap : HeapShown) (q r : CallerShown) (why : SyncRefusal) → was_cut {T = ℕ} (Err why) ≡ false
    → LeavesUnsynced heap q r why → IsSettled r.known
settled_refused heap q r (Stuck unit epoch) uncut l = inr (inr (unit, l.marked))
settled_refused heap q r Cut uncut l = absurd (cc uncut)
settled_refused heap q r ClockEnd uncut l = inr (inl l.last)

pub settled : (heap : HeapShown) (q r : CallerShown) (answer : Result ℕ SyncRefusal) → was_cut answer ≡ false
    → IfOk answer (HasSynced q r) → IfErr answer (LeavesUnsynced heap q r) → IsSettled r.known
settled heap q r (Ok clock) uncut ok err = settled_synced q r clock ok
settled heap q r (Err why) uncut ok err = settled_refused heap q r why uncut err
