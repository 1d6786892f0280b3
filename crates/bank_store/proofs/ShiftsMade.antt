-- Shifts that a caller made, one more at a time.
use Rattle.std.proofs.Common.{◌≡◌, ◌+◌, Bool, true, false, List, [], ◌∷◌, ◌++◌, length, sym, refl, ap, ◌∙◌, subst, arith, append_assoc, length-append}
use Rattle.std.specs.Prelude.{Some, None, All}
use Rattle.std.proofs.lemmas.List.{append-nil}
use Rattle.std.proofs.lemmas.List.Elements.{All-nil, All-cons, All-append}
use Rattle.mont_base.specs.declared.operation.Receipt.{Receipt}
use Rattle.core_steps.proofs.RowFacts.{all_at}
use Rattle.store_stop.proofs.Items.{all_gives}
use Rattle.heap.specs.HeapShown.{HeapShown, CallerShown}
use Rattle.caller.specs.Continued.{GoesOn}
use Rattle.shard_map.specs.MovedNumbers.{of_high, of_low}
use Rattle.store.specs.Shifting.{ContinuesByShift, goes_up, higher_of, lower_of}
use Rattle.store.specs.StoreShown.{StoreShown}
use Rattle.bank_job.specs.declared.shifts.Shift.{Shift}
use Rattle.bank_store.specs.Ends.{End, HasGone, all_given, receipts_given}
use Rattle.bank_store.specs.MadeShifts.{ComesBehind, ComesOnceDurable, ComesTo, EndsBetween, HasMadeShift, HasMadeShifts, HasSeenPlace, IsPassedOver}
use Rattle.bank_store.proofs.EndLists.{given_more, holds_more}
use Rattle.bank_store.proofs.SeenCalls.{answer_behind, answer_seen, behind_earlier, durable_earlier, goes_further, goes_keeping, goes_same, seen_later}

pub all_weaker : {A : Type 0} (P Q : A → Type 0) → ((a : A) → P a → Q a) → (xs : List A) → All P xs → All Q xs
all_weaker P Q step xs all = all_at Q xs (λ i a e. step a (all_gives P xs i a all e))

pub made_none : (heap : HeapShown) (q : CallerShown) → HasMadeShifts heap q q []
made_none heap q = record {
  ends = [];
  table = refl;
  goes_on = goes_same q.known;
  cuts = refl;
  calls = omega arith;
  receipts = sym (append-nil q.known.part.receipts);
  seen = All-nil (HasSeenPlace q.known);
  behind = All-nil (ComesBehind q.known);
  durable = All-nil (ComesOnceDurable q.known);
  each = tt;
}

-- ---- what one shift adds
record Adds (q r : CallerShown) (given : List Receipt) : Type 0 where
  pub table : r.table ≡ q.table
  pub goes_on : GoesOn q.known r.known
  pub cuts : r.known.part.cuts ≡ q.known.part.cuts
  pub calls : r.known.part.calls ≡ q.known.part.calls + length given
  pub receipts : r.known.part.receipts ≡ q.known.part.receipts ++ given
  pub seen : All (HasSeenPlace r.known) given
  pub behind : All (ComesBehind q.known) given
  pub durable : All (ComesOnceDurable q.known) given

shift_adds : (store : StoreShown) (q r : CallerShown) (s : Shift) (pair : Receipt × Receipt)
    → ContinuesByShift store q r s.from s.to s.amount pair → Adds q r (receipts_given (Some pair))
shift_adds store q r s pair c =
    let e = c.entries in
    let m = e.between in
    let low = lower_of pair in
    let high = higher_of pair in
    let lower = e.lower.continued in
    let higher = e.higher.continued in
    record {
      table = e.higher.table ∙ e.lower.table;
      goes_on = goes_further q.known m.known r.known lower.goes_on higher.goes_on;
      cuts = higher.cuts ∙ lower.cuts;
      calls = omega (arith, higher.calls, lower.calls);
      receipts = higher.receipts ∙ ap (λ (x : List Receipt). x ++ high ∷ []) lower.receipts
          ∙ append_assoc q.known.part.receipts (low ∷ []) (high ∷ []);
      seen = All-cons (HasSeenPlace r.known) low (high ∷ [])
          (seen_later m.known r.known low higher.goes_on (answer_seen store.heap.opening q.known m.known low.entry.op low lower))
          (All-cons (HasSeenPlace r.known) high [] (answer_seen store.heap.opening m.known r.known high.entry.op high higher) (All-nil
          (HasSeenPlace r.known)));
      behind = All-cons (ComesBehind q.known) low (high ∷ []) (answer_behind store.heap.opening q.known m.known low.entry.op low lower)
          (All-cons (ComesBehind q.known) high []
          (behind_earlier q.known m.known high lower.goes_on (answer_behind store.heap.opening m.known r.known high.entry.op high higher))
          (All-nil (ComesBehind q.known)));
      durable = All-cons (ComesOnceDurable q.known) low (high ∷ []) lower.durable
          (All-cons (ComesOnceDurable q.known) high [] (durable_earlier q.known m.known high lower.goes_on higher.durable)
          (All-nil (ComesOnceDurable q.known)));
    }

none_added : (heap : HeapShown) (q r : CallerShown) (s : Shift) → IsPassedOver heap q r s → Adds q r []
none_added heap q r s p = record {
  table = p.keeps.table;
  goes_on = goes_keeping q r p.keeps;
  cuts = p.keeps.cuts;
  calls = let n = p.keeps.calls in omega (arith, n);
  receipts = p.keeps.receipts ∙ sym (append-nil q.known.part.receipts);
  seen = All-nil (HasSeenPlace r.known);
  behind = All-nil (ComesBehind q.known);
  durable = All-nil (ComesOnceDurable q.known);
}

end_adds : (heap : HeapShown) (q r : CallerShown) (s : Shift) (end : End) → ComesTo heap q r s end → Adds q r (receipts_given end)
end_adds heap q r s None c = none_added heap q r s c
end_adds heap q r s (Some pair) c = shift_adds c.0 q r s pair c.2

one_epoch : (up : Bool) (pair : Receipt × Receipt) → (of_high up pair).entry.epoch ≡ (of_low up pair).entry.epoch
    → pair.0.entry.epoch ≡ pair.1.entry.epoch
one_epoch true pair e = sym e
one_epoch false pair e = e

gone : (store : StoreShown) (q r : CallerShown) (s : Shift) (pair : Receipt × Receipt)
    → ContinuesByShift store q r s.from s.to s.amount pair → HasGone s pair
gone store q r s pair c = record { moved = c.moved; epoch = one_epoch (goes_up pair) pair c.entries.epoch }

-- ---- one more
later_ends : (heap : HeapShown) (q r t : CallerShown) (given : List Receipt) → Adds r t given
    → (s : Shift) (e : End) (before behind : List Receipt) → EndsBetween heap q r s e before behind
    → EndsBetween heap q t s e before (behind ++ given)
later_ends heap q r t given adds s (Some pair) before behind ends = ends
later_ends heap q r t given adds s None before behind w = record {
  before = w.before;
  behind = w.behind;
  over = w.over;
  begun = w.begun;
  goes_on = goes_further w.behind.known r.known t.known w.goes_on adds.goes_on;
  calls = let n = adds.calls in omega (arith, w.calls, n);
  seen = w.seen;
  come_later = All-append (ComesBehind w.behind.known) behind given w.come_later
      (all_weaker (ComesBehind r.known) (ComesBehind w.behind.known)
      (λ x b. behind_earlier w.behind.known r.known x w.goes_on b) given adds.behind);
}

last_end : (heap : HeapShown) (q r t : CallerShown) (shifts : List Shift) (k : HasMadeShifts heap q r shifts) (s : Shift) (end : End)
    → ComesTo heap r t s end → EndsBetween heap q t s end (all_given k.ends) []
last_end heap q r t shifts k s (Some pair) c = gone c.0 r t s pair c.2
last_end heap q r t shifts k s None c = record {
  before = r;
  behind = t;
  over = c;
  begun = k.goes_on;
  goes_on = goes_same t.known;
  calls = let n = c.keeps.calls in omega (arith, n);
  seen = k.seen;
  come_later = All-nil (ComesBehind t.known);
}

pub made_more : (heap : HeapShown) (q r t : CallerShown) (shifts : List Shift) (s : Shift) → HasMadeShifts heap q r shifts
    → HasMadeShift heap r t s → HasMadeShifts heap q t (shifts ++ s ∷ [])
made_more heap q r t shifts s k (end, c) =
    let adds = end_adds heap r t s end c in
    let given = given_more k.ends end in
    let n = ap length given ∙ length-append (all_given k.ends) (receipts_given end) in
    record {
      ends = k.ends ++ end ∷ [];
      table = adds.table ∙ k.table;
      goes_on = goes_further q.known r.known t.known k.goes_on adds.goes_on;
      cuts = adds.cuts ∙ k.cuts;
      calls = let a = adds.calls in let b = k.calls in omega (arith, a, b, n);
      receipts = adds.receipts ∙ ap (λ (x : List Receipt). x ++ receipts_given end) k.receipts
          ∙ append_assoc q.known.part.receipts (all_given k.ends) (receipts_given end)
          ∙ ap (λ (x : List Receipt). q.known.part.receipts ++ x) (sym given);
      seen = subst (All (HasSeenPlace t.known)) (sym given)
          (All-append (HasSeenPlace t.known) (all_given k.ends) (receipts_given end)
          (all_weaker (HasSeenPlace r.known) (HasSeenPlace t.known) (λ x p. seen_later r.known t.known x adds.goes_on p)
          (all_given k.ends) k.seen)
          adds.seen);
      behind = subst (All (ComesBehind q.known)) (sym given)
          (All-append (ComesBehind q.known) (all_given k.ends) (receipts_given end) k.behind
          (all_weaker (ComesBehind r.known) (ComesBehind q.known) (λ x b. behind_earlier q.known r.known x k.goes_on b)
          (receipts_given end) adds.behind));
      durable = subst (All (ComesOnceDurable q.known)) (sym given)
          (All-append (ComesOnceDurable q.known) (all_given k.ends) (receipts_given end) k.durable
          (all_weaker (ComesOnceDurable r.known) (ComesOnceDurable q.known) (λ x d. durable_earlier q.known r.known x k.goes_on d)
          (receipts_given end) adds.durable));
      each = holds_more (EndsBetween heap q r) (EndsBetween heap q t) s end (later_ends heap q r t
          (receipts_given end) adds) [] shifts k.ends
          (last_end heap q r t shifts k s end c) k.each;
    }
