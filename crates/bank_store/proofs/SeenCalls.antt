-- What a caller has seen, and what comes after it, while the caller goes on.
use Rattle.std.proofs.Common.{◌≤◌, List, [], ◌∷◌, ◌++◌, length, sym, refl, ap, ◌∙◌, arith, append_assoc, length-append}
use Rattle.std.proofs.lemmas.List.{append-nil}
use Rattle.mont_base.specs.declared.operation.Entry.{Entry}
use Rattle.mont_base.specs.declared.operation.Op.{Op}
use Rattle.mont_base.specs.declared.operation.Receipt.{Receipt}
use Rattle.core_steps.specs.Notes.{BeginsWith}
use Rattle.heap_rule.specs.declared.rule.Opening.{Opening}
use Rattle.heap_rule.specs.declared.views.CallerKnown.{CallerKnown}
use Rattle.heap_rule.proofs.SeenFronts.{fronts_same, fronts_trans}
use Rattle.heap.specs.HeapShown.{CallerShown}
use Rattle.caller.specs.Continued.{GoesOn, HasContinued}
use Rattle.store.specs.StoreCalls.{KeepsCaller}
use Rattle.bank_store.specs.MadeShifts.{ComesBehind, ComesOnceDurable, HasSeenPlace}

-- ---- fronts
pub begins_longer : (whole front : List Entry) → BeginsWith whole front → length front ≤ length whole
begins_longer whole front (rest, e) = let n = ap length e ∙ length-append front rest in omega (arith, n)

-- ---- a caller that goes on
pub goes_same : (q : CallerKnown) → GoesOn q q
goes_same q = record {
  caller = refl;
  more = [];
  receipts = sym (append-nil q.part.receipts);
  seen = fronts_same q.entries;
  newest = omega arith;
  durable = omega arith;
  marks = λ m has. has;
}

pub goes_further : (q r t : CallerKnown) → GoesOn q r → GoesOn r t → GoesOn q t
goes_further q r t a b = record {
  caller = b.caller ∙ a.caller;
  more = a.more ++ b.more;
  receipts = b.receipts ∙ ap (λ (x : List Receipt). x ++ b.more) a.receipts ∙ append_assoc q.part.receipts a.more b.more;
  seen = fronts_trans t.entries r.entries q.entries b.seen a.seen;
  newest = omega (arith, a.newest, b.newest);
  durable = omega (arith, a.durable, b.durable);
  marks = λ m has. b.marks m (a.marks m has);
}

pub goes_keeping : (q r : CallerShown) → KeepsCaller q r → GoesOn q.known r.known
goes_keeping q r k = record {
  caller = k.caller;
  more = [];
  receipts = k.receipts ∙ sym (append-nil q.known.part.receipts);
  seen = k.entries;
  newest = k.newest;
  durable = k.durable;
  marks = k.marks;
}

-- ---- entries that it has seen, and entries after these
pub seen_later : (q r : CallerKnown) (x : Receipt) → GoesOn q r → HasSeenPlace q x → HasSeenPlace r x
seen_later q r x on s =
    let w = on.seen x.unit s.front s.of_unit in
    let l = begins_longer w.whole s.front w.begins in
    record { front = w.whole; of_unit = w.there; inside = omega (arith, l, s.inside) }

pub behind_earlier : (q r : CallerKnown) (x : Receipt) → GoesOn q r → ComesBehind r x → ComesBehind q x
behind_earlier q r x on behind front of_unit =
    let w = on.seen x.unit front of_unit in
    let l = begins_longer w.whole front w.begins in
    let b = behind w.whole w.there in omega (arith, l, b)

pub durable_earlier : (q r : CallerKnown) (x : Receipt) → GoesOn q r → ComesOnceDurable r x → ComesOnceDurable q x
durable_earlier q r x on durable = omega (arith, on.durable, durable)

-- ---- an answer
pub answer_seen : (o : Opening) (q r : CallerKnown) (op : Op) (x : Receipt) → HasContinued o q r op x → HasSeenPlace r x
answer_seen o q r op x c =
    let n = length-append c.history (x.entry ∷ []) in
    record { front = c.history ++ x.entry ∷ []; of_unit = c.seen; inside = omega (arith, n, c.place) }

pub answer_behind : (o : Opening) (q r : CallerKnown) (op : Op) (x : Receipt) → HasContinued o q r op x → ComesBehind q x
answer_behind o q r op x c = c.behind
