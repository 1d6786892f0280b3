-- What was seen earlier is seen later, and what comes after the later comes after the earlier.
use Rattle.std.proofs.Common.{◌≡◌, ℕ, ◌≤◌, false, List, [], ◌++◌, length, slice_get, refl, sym, ap, ◌∙◌, subst, arith, append_assoc}
use Rattle.std.specs.Prelude.{All, Some}
use Rattle.std.proofs.lemmas.List.{append-nil}
use Rattle.mont_base.specs.declared.operation.Entry.{Entry}
use Rattle.mont_base.specs.declared.operation.Op.{Op}
use Rattle.mont_base.specs.declared.operation.Receipt.{Receipt}
use Rattle.mont_base.specs.State.{State, unit_of_op}
use Rattle.heap_rule.specs.declared.rule.Opening.{Opening}
use Rattle.heap_rule.specs.declared.views.CallerKnown.{CallerKnown}
use Rattle.job_text.specs.declared.outcome.Outcome.{Outcome}
use Rattle.job_text.specs.Causes.{IsPoint, SomeMoment}
use Rattle.job_text.specs.Outcomes.{is_cut, InOrder}
use Rattle.job_text.specs.Report.{Report}
use Rattle.caller.specs.Continued.{GoesOn}
use Rattle.job_worker.specs.Continuing.{Continues}
use Rattle.job_worker.specs.Asking.{KeepsAnswers, WasFound}
use Rattle.job_worker.specs.Ending.{IsPassed, IsBefore, IsAhead, ComesBehind}
use Rattle.heap_rule.proofs.SeenFronts.{fronts_same, fronts_trans}
use Rattle.job_worker.proofs.Fronts.{one_found, begins_longer, taken}

-- ---- a caller that goes on
pub goes_same : (q : CallerKnown) → GoesOn q q
goes_same q = record {
  caller = refl;
  more = [];
  receipts = sym (append-nil q.part.receipts);
  seen = fronts_same q.entries;
  newest = omega arith;
  durable = omega arith;
  marks = λ m h. h;
}

pub goes_trans : (q r s : CallerKnown) → GoesOn q r → GoesOn r s → GoesOn q s
goes_trans q r s f g = record {
  caller = g.caller ∙ f.caller;
  more = f.more ++ g.more;
  receipts = g.receipts ∙ ap (λ (v : List Receipt). v ++ g.more) f.receipts ∙ append_assoc q.part.receipts f.more g.more;
  seen = fronts_trans s.entries r.entries q.entries g.seen f.seen;
  newest = let a = f.newest in let b = g.newest in omega (arith, a, b);
  durable = let a = f.durable in let b = g.durable in omega (arith, a, b);
  marks = λ m h. g.marks m (f.marks m h);
}

pub keeps_same : (q : CallerKnown) → KeepsAnswers q q
keeps_same q = record { goes_on = goes_same q; calls = refl; receipts = refl; cuts = refl }

pub keeps_trans : (q r s : CallerKnown) → KeepsAnswers q r → KeepsAnswers r s → KeepsAnswers q s
keeps_trans q r s f g = record {
  goes_on = goes_trans q r s f.goes_on g.goes_on;
  calls = g.calls ∙ f.calls;
  receipts = g.receipts ∙ f.receipts;
  cuts = g.cuts ∙ f.cuts;
}

pub continues_before : (o : Opening) (t : Report) (q r : CallerKnown) → GoesOn q r → Continues o t r → Continues o t q
continues_before o t q r g c = record {
  layout = c.layout;
  base_clock = c.base_clock;
  base = c.base;
  seen = fronts_trans t.histories r.entries q.entries c.seen g.seen;
  durable = let a = g.durable in let b = c.durable in omega (arith, a, b);
  last = c.last;
  marks = λ m h. c.marks m (g.marks m h);
}

-- ---- outcomes
pub passed_later : (q r : CallerKnown) (unit place : ℕ) → GoesOn q r → IsPassed q unit place → IsPassed r unit place
passed_later q r unit place g p =
    let s = g.seen unit p.front p.seen in
    let long = begins_longer s.whole p.front s.begins in
    let below = p.below in
    record { front = s.whole; seen = s.there; below = omega (arith, long, below) }

pub before_later : (histories : List (List Entry)) (q r : CallerKnown) (x : Outcome) → GoesOn q r
    → IsBefore histories q x → IsBefore histories r x
before_later histories q r x g b = record {
  places = λ unit place h. passed_later q r unit place g (b.places unit place h);
  epochs = λ epoch h. let n = b.epochs epoch h in let m = g.newest in omega (arith, n, m);
  clocks = λ clock h. let n = b.clocks clock h in let m = g.durable in omega (arith, n, m);
}

pub ahead_earlier : (q r : CallerKnown) (x : Outcome) → GoesOn q r → IsAhead r x → IsAhead q x
ahead_earlier q r x g a unit place front named there =
    let s = g.seen unit front there in
    let long = begins_longer s.whole front s.begins in
    let n = a unit place s.whole named s.there in
    omega (arith, long, n)

pub behind_earlier : (histories : List (List Entry)) (q r : CallerKnown) (x : Outcome) → GoesOn q r
    → ComesBehind histories r x → ComesBehind histories q x
behind_earlier histories q r x g b =
    let m = g.newest in
    let d = g.durable in
    record {
      places = ahead_earlier q r x g b.places;
      epochs = λ epoch h. let n = (b.epochs epoch h).newest in let k = (b.epochs epoch h).durable in
          record { newest = omega (arith, m, n); durable = omega (arith, d, k) };
      ticks = λ clock h. let n = (b.ticks clock h).newest in let k = (b.ticks clock h).durable in
          record { newest = omega (arith, m, n); durable = omega (arith, d, k) };
      settled = λ clock h. let n = (b.settled clock h).newest in let k = (b.settled clock h).durable in
          record { newest = omega (arith, m, n); durable = omega (arith, d, k) };
    }

pub all_before : (histories : List (List Entry)) (q r : CallerKnown) (xs : List Outcome) → GoesOn q r
    → All (IsBefore histories q) xs → All (IsBefore histories r) xs
all_before histories q r xs g b k d below = before_later histories q r _ g (b k d below)

pub all_ahead : (q r : CallerKnown) (xs : List Outcome) → GoesOn q r → All (IsAhead r) xs → All (IsAhead q) xs
all_ahead q r xs g a k d below = ahead_earlier q r _ g (a k d below)

pub in_order : (histories : List (List Entry)) (q : CallerKnown) (x y : Outcome) → is_cut x ≡ false
    → IsBefore histories q x → ComesBehind histories q y → InOrder histories x y
in_order histories q x y uncut b n = record {
  uncut = uncut;
  epochs = λ d e f h. let i = b.epochs d f in let j = (n.epochs e h).newest in omega (arith, i, j);
  places = λ unit m k f h. let p = b.places unit m f in let i = p.below in let j = n.places unit k p.front h p.seen in
      omega (arith, i, j);
  learnt = λ d e f h. let i = b.clocks d f in let j = (n.epochs e h).durable in omega (arith, i, j);
  ticks = λ d e f h. let i = b.clocks d f in let j = (n.ticks e h).durable in omega (arith, i, j);
  reached = λ d e f h. let i = b.epochs d f in let j = (n.ticks e h).newest in omega (arith, i, j);
  clocks = λ d e f h. let i = b.clocks d f in let j = (n.settled e h).durable in omega (arith, i, j);
  settled = λ d e f h. let i = b.epochs d f in let j = (n.settled e h).newest in omega (arith, i, j);
}

-- ---- the moment of a call
pub found_more : (o : Opening) (r : CallerKnown) (op : Op) (F G : ℕ → State → List Entry → Type 0)
    → ((unit : ℕ) (base : State) (h : List Entry) → F unit base h → G unit base h) → WasFound o r op F → WasFound o r op G
found_more o r op F G more w = record {
  unit = w.unit;
  of_unit = w.of_unit;
  history = w.history;
  seen = w.seen;
  each = λ states made. let f = w.each states made in
      record { base = f.base; opened = f.opened; found = more w.unit f.base w.history f.found };
}

-- places that were passed are below the front, and those ahead of it aren't
pub is_point : (o : Opening) (t : Report) (q r : CallerKnown) (before after : List Outcome) (unit : ℕ) (whole front : List Entry)
    → GoesOn q r → All (IsBefore t.histories q) before → All (IsAhead r) after → length front ≤ length whole
    → slice_get r.entries unit ≡ Some front → IsPoint before after unit whole (length front)
is_point o t q r before after unit whole front g b a long seen = record {
  there = long;
  behind = λ k d below place named.
      let p = passed_later q r unit place g ((b k d below).places unit place named) in
      let i = p.below in
      let n = ap length (one_found (slice_get r.entries unit) p.front front p.seen seen) in
      omega (arith, i, n);
  ahead = λ k d below place named. a k d below unit place front named seen;
}

pub some_moment : (o : Opening) (t : Report) (q r : CallerKnown) (before after : List Outcome) (op : Op)
    (F : ℕ → State → List Entry → Type 0) → GoesOn q r → Continues o t r → All (IsBefore t.histories q) before
    → All (IsAhead r) after → WasFound o r op F → SomeMoment t before after op F
some_moment o t q r before after op F g c b a w =
    let s = c.seen w.unit w.history w.seen in
    let f = w.each t.base c.base in
    record {
      unit = w.unit;
      of_unit = ap (λ l. unit_of_op l op) c.layout ∙ w.of_unit;
      base = f.base;
      opened = f.opened;
      history = s.whole;
      kept = s.there;
      point = length w.history;
      is_point = is_point o t q r before after w.unit s.whole w.history g b a (begins_longer s.whole w.history s.begins) w.seen;
      held = subst (λ (h : List Entry). F w.unit f.base h) (sym (taken s.whole w.history s.begins)) f.found;
    }
