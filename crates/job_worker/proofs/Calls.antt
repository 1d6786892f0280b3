-- What a report tells of a call line, by the call's answer.
use Rattle.std.proofs.Common.{◌≡◌, ℕ, ◌+◌, ◌<◌, ◌≤◌, List, [], ◌∷◌, ◌++◌, length, map, take, slice_get, refl, sym, ap, ◌∙◌, subst, arith, length-append}
use Rattle.std.specs.Prelude.{All, Some, None, count_by}
use Rattle.std.proofs.lemmas.List.{append-nil, map-append}
use Rattle.std.proofs.lemmas.Option.{none-some}
use Rattle.mont_base.specs.declared.operation.Entry.{Entry}
use Rattle.mont_base.specs.declared.operation.Op.{Op}
use Rattle.mont_base.specs.declared.operation.Receipt.{Receipt}
use Rattle.mont_base.specs.declared.refusal.Which.{Which}
use Rattle.mont_base.specs.Counting.{effects_then, IsAtEnd, records_in}
use Rattle.mont_base.specs.Layout.{Shape}
use Rattle.mont_base.specs.Room.{room_of, LacksRoom}
use Rattle.mont_base.specs.Seen.{IsEntryAt}
use Rattle.mont_base.specs.State.{State, unit_of_op}
use Rattle.heap_rule.specs.declared.rule.Opening.{Opening}
use Rattle.heap_rule.specs.declared.views.CallerKnown.{CallerKnown}
use Rattle.job_text.specs.declared.job.Deed.{Deed}
use Rattle.job_text.specs.declared.job.Deed.TheVariants.{Call}
use Rattle.job_text.specs.declared.outcome.Outcome.{Outcome}
use Rattle.job_text.specs.declared.outcome.Outcome.TheVariants as outcomes
use Rattle.job_text.specs.Causes.{SomeMoment, IsReached, MayBeFull, WasCutIn}
use Rattle.job_text.specs.Outcomes.{place_of, HasEpoch, clock_of, tick_of, settled_of, is_at}
use Rattle.job_text.specs.Report.{Report}
use Rattle.job_worker.specs.Continuing.{Continues}
use Rattle.caller.specs.Continued.{HasContinued, opened_records}
use Rattle.job_worker.specs.Asking.{KeepsAnswers, HasNoRoom, HasEnd, WasHalted, IsCutIn}
use Rattle.job_worker.specs.Ending.{IsBefore, IsAhead, IsSettled, ComesBehind, IsTold, Ends, place_answered, places_named, units_cut}
use Rattle.job_worker.proofs.Fronts.{one_found, entry_there, one_entry}
use Rattle.job_worker.proofs.Later.{found_more, some_moment}

-- ---- answered
-- the entry that the report has at the place
answered_there : (o : Opening) (t : Report) (q r : CallerKnown) (op : Op) (receipt : Receipt)
    → HasContinued o q r op receipt → Continues o t r → IsEntryAt t.histories receipt.unit receipt.place receipt.entry
answered_there o t q r op receipt h c =
    subst (λ (n : ℕ). IsEntryAt t.histories receipt.unit n receipt.entry) (sym h.place)
    (entry_there t.histories r.entries receipt.unit h.history receipt.entry c.seen h.seen)

answered_behind : (o : Opening) (t : Report) (q r : CallerKnown) (op : Op) (receipt : Receipt)
    → HasContinued o q r op receipt → Continues o t r
    → ComesBehind t.histories q (outcomes.At receipt.unit receipt.place)
answered_behind o t q r op receipt h c =
    let there = answered_there o t q r op receipt h c in
    let later = h.later in
    let durable = h.durable in
    record {
      places = λ unit place front named seen.
          let same = one_found (Some (receipt.unit, receipt.place)) (receipt.unit, receipt.place) (unit, place) refl named in
          let of_unit = ap (λ (p : ℕ × ℕ). p.0) same in
          let of_place = ap (λ (p : ℕ × ℕ). p.1) same in
          let n = h.behind front (ap (λ (u : ℕ). slice_get q.entries u) of_unit ∙ seen) in
          omega (arith, n, of_place);
      epochs = λ epoch e.
          let same = ap (λ (d : Entry). d.epoch) (one_entry t.histories receipt.unit receipt.place e.0 receipt.entry e.1 there) in
          let is = e.2 in
          record { newest = omega (arith, same, is, later); durable = omega (arith, same, is, durable) };
      ticks = λ clock e. absurd (none-some clock e);
      settled = λ clock e. absurd (none-some clock e);
    }

answered_before : (o : Opening) (t : Report) (q r : CallerKnown) (op : Op) (receipt : Receipt)
    → HasContinued o q r op receipt → Continues o t r
    → IsBefore t.histories r (outcomes.At receipt.unit receipt.place)
answered_before o t q r op receipt h c =
    let there = answered_there o t q r op receipt h c in
    let newest = h.newest in
    record {
      places = λ unit place named.
          let same = one_found (Some (receipt.unit, receipt.place)) (receipt.unit, receipt.place) (unit, place) refl named in
          let of_unit = ap (λ (p : ℕ × ℕ). p.0) same in
          let of_place = ap (λ (p : ℕ × ℕ). p.1) same in
          let long = length-append h.history (receipt.entry ∷ []) in
          let at = h.place in
          record {
            front = h.history ++ receipt.entry ∷ [];
            seen = sym (ap (λ (u : ℕ). slice_get r.entries u) of_unit) ∙ h.seen;
            below = omega (arith, long, at, of_place);
          };
      epochs = λ epoch e.
          let same = ap (λ (d : Entry). d.epoch) (one_entry t.histories receipt.unit receipt.place e.0 receipt.entry e.1 there) in
          let is = e.2 in
          omega (arith, same, is, newest);
      clocks = λ clock e. absurd (none-some clock e);
    }

pub ends_at : (o : Opening) (q r : CallerKnown) (op : Op) (receipt : Receipt) → HasContinued o q r op receipt
    → Ends o q r (Call op) (outcomes.At receipt.unit receipt.place)
ends_at o q r op receipt h = record {
  goes_on = h.goes_on;
  calls = h.calls;
  receipts = ap (λ (v : List Receipt). map place_answered v) h.receipts
      ∙ map-append place_answered q.part.receipts (receipt ∷ []);
  cuts = h.cuts ∙ sym (append-nil q.part.cuts);
  told = λ t c. record {
    answers = λ first last before after cut b a n. record {
      of_unit = ap (λ l. unit_of_op l op) c.layout ∙ h.of_unit;
      entry = receipt.entry;
      there = answered_there o t q r op receipt h c;
      by = h.by;
      number = h.number ∙ sym n;
      asked = h.asked;
    };
    behind = answered_behind o t q r op receipt h c;
    before = answered_before o t q r op receipt h c;
  };
}

-- ---- outcomes that name nothing
pub silent_before : (histories : List (List Entry)) (r : CallerKnown) (x : Outcome) → place_of x ≡ None
    → ((epoch : ℕ) → HasEpoch histories x epoch → ⊥) → clock_of x ≡ None → IsBefore histories r x
silent_before histories r x place epoch clock = record {
  places = λ u n e. absurd (none-some (u, n) (sym place ∙ e));
  epochs = λ n e. absurd (epoch n e);
  clocks = λ n e. absurd (none-some n (sym clock ∙ e));
}

pub silent_behind : (histories : List (List Entry)) (q : CallerKnown) (x : Outcome) → place_of x ≡ None
    → ((epoch : ℕ) → HasEpoch histories x epoch → ⊥) → tick_of x ≡ None
    → ((clock : ℕ) → settled_of x ≡ Some clock → IsSettled q clock) → ComesBehind histories q x
silent_behind histories q x place epoch tick settled = record {
  places = λ u n front e seen. absurd (none-some (u, n) (sym place ∙ e));
  epochs = λ n e. absurd (epoch n e);
  ticks = λ n e. absurd (none-some n (sym tick ∙ e));
  settled = settled;
}

-- ---- want of room
room_lacks : (o : Opening) (t : Report) (need free clock : ℕ) (op : Op) → t.layout ≡ o.layout → free < need
    → (unit : ℕ) (base : State) (h : List Entry)
    → (length (effects_then base h op) ≡ need) × (room_of o.layout.slots base h clock ≡ free)
    → LacksRoom (length (effects_then base h op)) (room_of t.layout.slots base h clock) need free
room_lacks o t need free clock op layout few unit base h (n, f) = record {
  as_needed = n;
  as_free = ap (λ (l : Shape). room_of l.slots base h clock) layout ∙ f;
  few = few;
}

reached_then : (o : Opening) (t : Report) (q r : CallerKnown) (op : Op) (need free clock : ℕ)
    → HasNoRoom o q r op need free clock → Continues o t r → IsReached t clock
reached_then o t q r op need free clock h c =
    let base = c.base_clock in
    let begun = h.begun in
    let learnt = h.learnt in
    let image = c.durable in
    record { begun = omega (arith, base, begun); last = omega (arith, learnt, image) }

lacks_then : (o : Opening) (t : Report) (q r : CallerKnown) (before after : List Outcome) (op : Op) (need free clock : ℕ)
    → HasNoRoom o q r op need free clock → Continues o t r → All (IsBefore t.histories q) before → All (IsAhead r) after
    → SomeMoment t before after op
    (λ unit base h. LacksRoom (length (effects_then base h op)) (room_of t.layout.slots base h clock) need free)
lacks_then o t q r before after op need free clock h c b a =
    some_moment o t q r before after op
    (λ unit base h. LacksRoom (length (effects_then base h op)) (room_of t.layout.slots base h clock) need free)
    h.keeps.goes_on c b a
    (found_more o r op
    (λ unit base h. (length (effects_then base h op) ≡ need) × (room_of o.layout.slots base h clock ≡ free))
    (λ unit base h. LacksRoom (length (effects_then base h op)) (room_of t.layout.slots base h clock) need free)
    (room_lacks o t need free clock op c.layout h.few) h.found)

moment_more : (t : Report) (before after : List Outcome) (op : Op) (F G : ℕ → State → List Entry → Type 0)
    → ((unit : ℕ) (base : State) (h : List Entry) → F unit base h → G unit base h) → SomeMoment t before after op F
    → SomeMoment t before after op G
moment_more t before after op F G more m = record {
  unit = m.unit;
  of_unit = m.of_unit;
  base = m.base;
  opened = m.opened;
  history = m.history;
  kept = m.kept;
  point = m.point;
  is_point = m.is_point;
  held = more m.unit m.base (take m.point m.history) m.held;
}

fewer : (needed room need free : ℕ) → LacksRoom needed room need free → room < needed
fewer needed room need free l =
    let n = l.as_needed in let f = l.as_free in let few = l.few in omega (arith, n, f, few)

pub may_be_full : (o : Opening) (t : Report) (q r : CallerKnown) (before after : List Outcome) (op : Op) (need free clock : ℕ)
    → HasNoRoom o q r op need free clock → Continues o t r → All (IsBefore t.histories q) before → All (IsAhead r) after
    → MayBeFull t before after op
may_be_full o t q r before after op need free clock h c b a = record {
  clock = clock;
  reached = reached_then o t q r op need free clock h c;
  learnt = λ k d below e is. let n = (b k d below).clocks e is in let m = h.known in omega (arith, n, m);
  lacks = moment_more t before after op
      (λ unit base h. LacksRoom (length (effects_then base h op)) (room_of t.layout.slots base h clock) need free)
      (λ unit base h. room_of t.layout.slots base h clock < length (effects_then base h op))
      (λ unit base h. fewer (length (effects_then base h op)) (room_of t.layout.slots base h clock) need free)
      (lacks_then o t q r before after op need free clock h c b a);
}

-- ---- refused
-- no call was answered, and no unit was left cut
pub kept_ends : (o : Opening) (q r : CallerKnown) (deed : Deed) (x : Outcome) → KeepsAnswers q r
    → count_by is_at (x ∷ []) ≡ 0 → places_named (x ∷ []) ≡ [] → units_cut (x ∷ []) ≡ []
    → ((t : Report) → Continues o t r → IsTold o t q r deed x) → Ends o q r deed x
kept_ends o q r deed x k none nowhere uncut told = record {
  goes_on = k.goes_on;
  calls = let n = k.calls in omega (arith, n, none);
  receipts = ap (λ (v : List Receipt). map place_answered v) k.receipts
      ∙ sym (append-nil (map place_answered q.part.receipts))
      ∙ ap (λ (v : List (ℕ × ℕ)). map place_answered q.part.receipts ++ v) (sym nowhere);
  cuts = k.cuts ∙ sym (append-nil q.part.cuts) ∙ ap (λ (v : List ℕ). q.part.cuts ++ v) (sym uncut);
  told = told;
}

pub ends_full : (o : Opening) (q r : CallerKnown) (op : Op) (need free clock : ℕ) → q.part.newest + 2 ≤ q.part.durable
    → HasNoRoom o q r op need free clock → Ends o q r (Call op) (outcomes.Full need free clock)
ends_full o q r op need free clock settled h =
    kept_ends o q r (Call op) (outcomes.Full need free clock) h.keeps refl refl refl (λ t c. record {
      answers = λ first last before after cut b a n. record {
        reached = reached_then o t q r op need free clock h c;
        lacks = lacks_then o t q r before after op need free clock h c b a;
      };
      behind = silent_behind t.histories q (outcomes.Full need free clock) refl (λ epoch e. e) refl (λ d e.
          let same = one_found (Some clock) clock d refl e in
          let known = h.known in
          record { newest = omega (arith, settled, same, known); durable = omega (arith, same, known) });
      before = silent_before t.histories r (outcomes.Full need free clock) refl (λ epoch e. e) refl;
    })

pub ends_count : (o : Opening) (q r : CallerKnown) (op : Op) (which : Which) → HasEnd o q r op which
    → Ends o q r (Call op) (outcomes.CountEnd which)
ends_count o q r op which h =
    kept_ends o q r (Call op) (outcomes.CountEnd which) h.keeps refl refl refl (λ t c. record {
      answers = λ first last before after cut b a n.
          subst
          (λ (calls : ℕ). SomeMoment t before after op
          (λ unit base h. IsAtEnd (records_in (opened_records o) unit) calls which op base h)) (sym n)
          (some_moment o t q r before after op
          (λ unit base h. IsAtEnd (records_in (opened_records o) unit) q.part.calls which op base h) h.keeps.goes_on c b a h.found);
      behind = silent_behind t.histories q (outcomes.CountEnd which) refl (λ epoch e. e) refl (λ d e. absurd (none-some d e));
      before = silent_before t.histories r (outcomes.CountEnd which) refl (λ epoch e. e) refl;
    })

pub ends_halted : (o : Opening) (q r : CallerKnown) (op : Op) (unit by : ℕ) → WasHalted o q r op unit by
    → Ends o q r (Call op) (outcomes.Halted unit by)
ends_halted o q r op unit by h =
    kept_ends o q r (Call op) (outcomes.Halted unit by) h.keeps refl refl refl (λ t c. record {
      answers = λ first last before after cut b a n.
          let m = c.marks (record { unit = unit; by = Some by }) h.marked in
          record {
            of_unit = ap (λ l. unit_of_op l op) c.layout ∙ h.of_unit;
            cut = subst (λ (k : ℕ). WasCutIn t k unit) (sym m.named) m.cut;
          };
      behind = silent_behind t.histories q (outcomes.Halted unit by) refl (λ epoch e. e) refl (λ d e. absurd (none-some d e));
      before = silent_before t.histories r (outcomes.Halted unit by) refl (λ epoch e. e) refl;
    })

pub ends_cut : (o : Opening) (q r : CallerKnown) (op : Op) (unit : ℕ) → IsCutIn o q r op unit
    → Ends o q r (Call op) (outcomes.CutIn unit)
ends_cut o q r op unit h = record {
  goes_on = h.goes_on;
  calls = let n = h.calls in omega (arith, n);
  receipts = ap (λ (v : List Receipt). map place_answered v) h.receipts ∙ sym (append-nil (map place_answered q.part.receipts));
  cuts = h.cuts;
  told = λ t c. record {
    answers = λ first last before after cut b a n. (cut refl, ap (λ l. unit_of_op l op) c.layout ∙ h.of_unit);
    behind = silent_behind t.histories q (outcomes.CutIn unit) refl (λ epoch e. e) refl (λ d e. absurd (none-some d e));
    before = silent_before t.histories r (outcomes.CutIn unit) refl (λ epoch e. e) refl;
  };
}
