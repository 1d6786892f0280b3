-- What a report tells of a tick and of a sync, and of a call line that waits like a sync.
use Rattle.std.proofs.Common.{◌≡◌, ℕ, ◌+◌, ◌≤◌, Bool, true, false, List, [], ◌∷◌, ◌++◌, refl, sym, ap, ◌∙◌, subst, arith}
use Rattle.std.specs.Prelude.{All, Some, None, count_by, map, Result, Ok, Err, IfOk, IfErr, OnErr}
use Rattle.std.proofs.lemmas.Bool.{false≢true}
use Rattle.std.proofs.lemmas.Option.{none-some}
use Rattle.mont_base.specs.declared.operation.Op.{Op}
use Rattle.mont_base.specs.declared.operation.Receipt.{Receipt}
use Rattle.mont_base.specs.declared.refusal.CallRefusal.{CallRefusal}
use Rattle.mont_base.specs.declared.refusal.CallRefusal.TheVariants as calls
use Rattle.mont_base.specs.Faults.{Rose}
use Rattle.heap_rule.specs.declared.rule.Opening.{Opening}
use Rattle.heap_rule.specs.declared.views.CallerKnown.{CallerKnown}
use Rattle.advance.specs.declared.advance_refusal.AdvanceRefusal.{AdvanceRefusal}
use Rattle.advance.specs.declared.advance_refusal.AdvanceRefusal.TheVariants as advances
use Rattle.caller.specs.declared.sync_refusal.SyncRefusal.{SyncRefusal}
use Rattle.caller.specs.declared.sync_refusal.SyncRefusal.TheVariants as syncs
use Rattle.job_text.specs.declared.job.Deed.{Deed}
use Rattle.job_text.specs.declared.job.Deed.TheVariants.{Call, Tick}
use Rattle.job_text.specs.declared.outcome.Outcome.{Outcome}
use Rattle.job_text.specs.declared.outcome.Outcome.TheVariants as outcomes
use Rattle.job_text.specs.AnsweredLines.{Answers, EndsWait}
use Rattle.job_text.specs.Outcomes.{is_at, is_cut}
use Rattle.job_text.specs.Report.{Report}
use Rattle.job_worker.specs.Continuing.{Continues}
use Rattle.caller.specs.Continued.{HasContinued, opened_records, GoesOn}
use Rattle.job_worker.specs.Asking.{KeepsAnswers, HasLearntWhy, HasNoRoom, HasMoved, HasHeard, HasSynced, LeavesUnsynced}
use Rattle.job_worker.specs.Ending.{IsBefore, IsAhead, IsTold, Ends, was_full, outcome_of_call, outcome_of_sync, place_answered, places_named, units_cut}
use Rattle.job_worker.proofs.Fronts.{one_found}
use Rattle.job_worker.proofs.Later.{goes_trans, keeps_trans, continues_before, all_before, all_ahead, behind_earlier}
use Rattle.job_worker.proofs.Calls.{silent_before, silent_behind, kept_ends, may_be_full, ends_at, ends_full, ends_count, ends_halted, ends_cut}

-- ---- waits that were refused
-- the report tells the cause
wait_told : (M : Type 0) (o : Opening) (t : Report) (r : CallerKnown) (why : SyncRefusal) → LeavesUnsynced r why
    → Continues o t r → (is_cut (outcome_of_sync why) ≡ true → M) → EndsWait t M (outcome_of_sync why)
wait_told M o t r (syncs.Stuck unit epoch) h c cut =
    let m = c.marks (record { unit = unit; by = None }) h.marked in
    let below = h.below in
    let image = c.durable in
    record { by = m.by; cut = m.cut; late = omega (arith, below, image) }
wait_told M o t r syncs.Cut h c cut = cut refl
wait_told M o t r syncs.ClockEnd h c cut = let image = c.durable in let last = c.last in omega (arith, h, image, last)

-- a wait of this line ends so
abbrev Waits : Opening → CallerKnown → CallerKnown → Deed → SyncRefusal → Type 0
Waits o q r deed why =
    (t : Report) (first last : ℕ) (before after : List Outcome) → Continues o t r → All (IsBefore t.histories q) before
    → All (IsAhead r) after → EndsWait t (Rose first last) (outcome_of_sync why)
    → Answers t (Rose first last) (opened_records o) q.caller before after deed (outcome_of_sync why)

wait_answers : (o : Opening) (t : Report) (q r : CallerKnown) (deed : Deed) (why : SyncRefusal) → LeavesUnsynced r why
    → Waits o q r deed why → Continues o t r → (first last : ℕ) (before after : List Outcome)
    → (is_cut (outcome_of_sync why) ≡ true → Rose first last) → All (IsBefore t.histories q) before
    → All (IsAhead r) after → count_by is_at before ≡ q.part.calls
    → Answers t (Rose first last) (opened_records o) q.caller before after deed (outcome_of_sync why)
wait_answers o t q r deed why h w c first last before after cut b a n =
    w t first last before after c b a (wait_told (Rose first last) o t r why h c cut)

pub ends_refused : (o : Opening) (q r : CallerKnown) (deed : Deed) (why : SyncRefusal) → KeepsAnswers q r
    → LeavesUnsynced r why → Waits o q r deed why → Ends o q r deed (outcome_of_sync why)
ends_refused o q r deed (syncs.Stuck unit epoch) k h w =
    let x = outcomes.Stuck unit epoch in
    kept_ends o q r deed x k refl refl refl (λ t c. record {
      answers = wait_answers o t q r deed (syncs.Stuck unit epoch) h w c;
      behind = silent_behind t.histories q x refl (λ e f. f) refl (λ d e. absurd (none-some d e));
      before = silent_before t.histories r x refl (λ e f. f) refl;
    })
ends_refused o q r deed syncs.Cut k h w =
    kept_ends o q r deed outcomes.Cut k refl refl refl (λ t c. record {
      answers = wait_answers o t q r deed syncs.Cut h w c;
      behind = silent_behind t.histories q outcomes.Cut refl (λ e f. f) refl (λ d e. absurd (none-some d e));
      before = silent_before t.histories r outcomes.Cut refl (λ e f. f) refl;
    })
ends_refused o q r deed syncs.ClockEnd k h w =
    kept_ends o q r deed outcomes.ClockEnd k refl refl refl (λ t c. record {
      answers = wait_answers o t q r deed syncs.ClockEnd h w c;
      behind = silent_behind t.histories q outcomes.ClockEnd refl (λ e f. f) refl (λ d e. absurd (none-some d e));
      before = silent_before t.histories r outcomes.ClockEnd refl (λ e f. f) refl;
    })

tick_waits : (o : Opening) (q r : CallerKnown) (why : SyncRefusal) → Waits o q r Tick why
tick_waits o q r (syncs.Stuck unit epoch) t first last before after c b a w = w
tick_waits o q r syncs.Cut t first last before after c b a w = w
tick_waits o q r syncs.ClockEnd t first last before after c b a w = w

pub ends_tick_refused : (o : Opening) (q r : CallerKnown) (why : SyncRefusal) → KeepsAnswers q r → LeavesUnsynced r why
    → Ends o q r Tick (outcome_of_sync why)
ends_tick_refused o q r why k h = ends_refused o q r Tick why k h (tick_waits o q r why)

-- ---- a tick
pub ends_ticked : (o : Opening) (q m r : CallerKnown) (clock : ℕ) → KeepsAnswers q m → KeepsAnswers m r
    → HasMoved o m r clock → Ends o q r Tick (outcomes.Ticked clock)
ends_ticked o q m r clock k l h =
    let newest = k.goes_on.newest in
    let durable = k.goes_on.durable in
    let reached = h.reached in
    let past = h.past in
    let learnt = h.learnt in
    kept_ends o q r Tick (outcomes.Ticked clock) (keeps_trans q m r k l) refl refl refl (λ t c.
    let base = c.base_clock in
    let begun = h.begun in
    let image = c.durable in
    record {
      answers = λ first last before after cut b a n. (omega (arith, base, begun), omega (arith, learnt, image));
      behind = record {
        places = λ u n front e seen. absurd (none-some (u, n) e);
        epochs = λ n e. absurd e;
        ticks = λ d e.
            let same = one_found (Some clock) clock d refl e in
            record { newest = omega (arith, same, newest, reached); durable = omega (arith, same, durable, past) };
        settled = λ d e. absurd (none-some d e);
      };
      before = record {
        places = λ u n e. absurd (none-some (u, n) e);
        epochs = λ n e. absurd e;
        clocks = λ d e. let same = one_found (Some clock) clock d refl e in omega (arith, same, learnt);
      };
    })

-- ---- a call line that waits like a sync
full_waits : (o : Opening) (q m r : CallerKnown) (op : Op) (need free clock : ℕ) (why : SyncRefusal)
    → HasNoRoom o q m op need free clock → GoesOn m r → Waits o q r (Call op) why
full_waits o q m r op need free clock (syncs.Stuck unit epoch) h g t first last before after c b a w =
    (w, may_be_full o t q m before after op need free clock h (continues_before o t m r g c) b (all_ahead m r after g a))
full_waits o q m r op need free clock syncs.Cut h g t first last before after c b a w =
    (w, may_be_full o t q m before after op need free clock h (continues_before o t m r g c) b (all_ahead m r after g a))
full_waits o q m r op need free clock syncs.ClockEnd h g t first last before after c b a w =
    (w, may_be_full o t q m before after op need free clock h (continues_before o t m r g c) b (all_ahead m r after g a))

pub ends_full_unsynced : (o : Opening) (q m r : CallerKnown) (op : Op) (need free clock : ℕ) (why : SyncRefusal)
    → HasNoRoom o q m op need free clock → KeepsAnswers m r → LeavesUnsynced r why → Ends o q r (Call op) (outcome_of_sync why)
ends_full_unsynced o q m r op need free clock why h k l =
    ends_refused o q r (Call op) why (keeps_trans q m r h.keeps k) l (full_waits o q m r op need free clock why h k.goes_on)

-- ---- a call, by its answer
pub ends_call : (o : Opening) (q r : CallerKnown) (op : Op) (answer : Result Receipt CallRefusal)
    → IfOk answer (λ receipt. HasContinued o q r op receipt) → IfErr answer (λ why. HasLearntWhy o q r op why)
    → ((need free clock : ℕ) → answer ≡ Err (calls.Full need free clock) → q.part.newest + 2 ≤ q.part.durable)
    → IfOk (outcome_of_call answer) (λ x. Ends o q r (Call op) x)
ends_call o q r op (Ok receipt) h w settled = ends_at o q r op receipt h
ends_call o q r op (Err (calls.Halted unit by)) h w settled = ends_halted o q r op unit by w
ends_call o q r op (Err (calls.CountEnd which)) h w settled = ends_count o q r op which w
ends_call o q r op (Err calls.Memory) h w settled = tt
ends_call o q r op (Err (calls.Full need free clock)) h w settled =
    ends_full o q r op need free clock (settled need free clock refl) w
ends_call o q r op (Err (calls.Cut unit)) h w settled = ends_cut o q r op unit w

pub lacks_memory : (o : Opening) (q r : CallerKnown) (op : Op) (answer : Result Receipt CallRefusal)
    → IfErr answer (λ why. HasLearntWhy o q r op why) → OnErr (outcome_of_call answer) (KeepsAnswers q r)
lacks_memory o q r op (Ok receipt) w = tt
lacks_memory o q r op (Err (calls.Halted unit by)) w = tt
lacks_memory o q r op (Err (calls.CountEnd which)) w = tt
lacks_memory o q r op (Err calls.Memory) w = w
lacks_memory o q r op (Err (calls.Full need free clock)) w = tt
lacks_memory o q r op (Err (calls.Cut unit)) w = tt

-- ---- a line that began earlier
told_earlier : (o : Opening) (t : Report) (q m r : CallerKnown) (deed : Deed) (x : Outcome) → KeepsAnswers q m
    → IsTold o t m r deed x → IsTold o t q r deed x
told_earlier o t q m r deed x k s = record {
  answers = λ first last before after cut b a n.
      subst
      (λ (who : ℕ). Answers t (Rose first last) (opened_records o) who before after deed x) k.goes_on.caller
      (s.answers first last before after cut (all_before t.histories q m before k.goes_on b) a (n ∙ sym k.calls));
  behind = behind_earlier t.histories q m x k.goes_on s.behind;
  before = s.before;
}

pub ends_earlier : (o : Opening) (q m r : CallerKnown) (deed : Deed) (x : Outcome) → KeepsAnswers q m → Ends o m r deed x
    → Ends o q r deed x
ends_earlier o q m r deed x k e = record {
  goes_on = goes_trans q m r k.goes_on e.goes_on;
  calls = e.calls ∙ ap (λ (n : ℕ). n + count_by is_at (x ∷ [])) k.calls;
  receipts = e.receipts
      ∙ ap (λ (v : List Receipt). map place_answered v ++ places_named (x ∷ [])) k.receipts;
  cuts = e.cuts ∙ ap (λ (v : List ℕ). v ++ units_cut (x ∷ [])) k.cuts;
  told = λ t c. told_earlier o t q m r deed x k (e.told t c);
}

-- ---- ticks that were refused
pub heard_stuck : (r : CallerKnown) (answer : Result ℕ AdvanceRefusal) (unit epoch : ℕ) (cut : Bool) → cut ≡ true
    → answer ≡ Err (advances.NotYet unit epoch cut) → IfErr answer (HasHeard r) → LeavesUnsynced r (syncs.Stuck unit epoch)
heard_stuck r answer unit epoch cut is e h =
    subst (λ (b : Bool). HasHeard r (advances.NotYet unit epoch b)) is
    (subst (λ (v : Result ℕ AdvanceRefusal). IfErr v (HasHeard r)) e h)

pub heard_end : (r : CallerKnown) (answer : Result ℕ AdvanceRefusal) → answer ≡ Err advances.ClockEnd
    → IfErr answer (HasHeard r) → LeavesUnsynced r syncs.ClockEnd
heard_end r answer e h = subst (λ (v : Result ℕ AdvanceRefusal). IfErr v (HasHeard r)) e h

-- ---- the first call and the second
if_ok_more : {A E : Type 0} (v : Result A E) (P Q : A → Type 0) → ((a : A) → P a → Q a) → IfOk v P → IfOk v Q
if_ok_more (Ok a) P Q more h = more a h
if_ok_more (Err e) P Q more h = tt

on_err_more : {A E : Type 0} (v : Result A E) (P Q : Type 0) → (P → Q) → OnErr v P → OnErr v Q
on_err_more (Ok a) P Q more h = tt
on_err_more (Err e) P Q more h = more h

-- the unit was full
pub record FoundFull (o : Opening) (q r : CallerKnown) (op : Op) : Type 0 where
  pub need : ℕ
  pub free : ℕ
  pub clock : ℕ
  pub room : HasNoRoom o q r op need free clock

pub found_full : (o : Opening) (q r : CallerKnown) (op : Op) (answer : Result Receipt CallRefusal) → was_full answer ≡ true
    → IfErr answer (λ why. HasLearntWhy o q r op why) → FoundFull o q r op
found_full o q r op (Ok receipt) full w = absurd (false≢true full)
found_full o q r op (Err (calls.Halted unit by)) full w = absurd (false≢true full)
found_full o q r op (Err (calls.CountEnd which)) full w = absurd (false≢true full)
found_full o q r op (Err calls.Memory) full w = absurd (false≢true full)
found_full o q r op (Err (calls.Full need free clock)) full w = record { need = need; free = free; clock = clock; room = w }
found_full o q r op (Err (calls.Cut unit)) full w = absurd (false≢true full)

pub ends_first : (o : Opening) (q r : CallerKnown) (op : Op) (answer : Result Receipt CallRefusal) → was_full answer ≡ false
    → IfOk answer (λ receipt. HasContinued o q r op receipt) → IfErr answer (λ why. HasLearntWhy o q r op why)
    → IfOk (outcome_of_call answer) (λ x. Ends o q r (Call op) x)
ends_first o q r op answer full h w =
    ends_call o q r op answer h w (λ need free clock e. absurd (false≢true (sym full ∙ ap was_full e)))

-- a sync came between
pub ends_second : (o : Opening) (q m n r : CallerKnown) (op : Op) (clock : ℕ) (answer : Result Receipt CallRefusal)
    → FoundFull o q m op → KeepsAnswers m n → HasSynced m n clock → IfOk answer (λ receipt. HasContinued o n r op receipt)
    → IfErr answer (λ why. HasLearntWhy o n r op why) → IfOk (outcome_of_call answer) (λ x. Ends o q r (Call op) x)
ends_second o q m n r op clock answer f k s h w =
    let past = s.past in
    let learnt = s.learnt in
    let settled : n.part.newest + 2 ≤ n.part.durable = omega (arith, past, learnt) in
    if_ok_more (outcome_of_call answer) (λ x. Ends o n r (Call op) x) (λ x. Ends o q r (Call op) x)
    (λ x. ends_earlier o q n r (Call op) x (keeps_trans q m n f.room.keeps k))
    (ends_call o n r op answer h w (λ need free at e. settled))

pub keeps_second : (o : Opening) (q m n r : CallerKnown) (op : Op) (answer : Result Receipt CallRefusal)
    → FoundFull o q m op → KeepsAnswers m n → IfErr answer (λ why. HasLearntWhy o n r op why)
    → OnErr (outcome_of_call answer) (KeepsAnswers q r)
keeps_second o q m n r op answer f k w =
    on_err_more (outcome_of_call answer) (KeepsAnswers n r) (KeepsAnswers q r)
    (keeps_trans q n r (keeps_trans q m n f.room.keeps k)) (lacks_memory o n r op answer w)

pub on_err_of : {A E P : Type 0} (v : Result A E) → P → OnErr v P
on_err_of (Ok a) h = tt
on_err_of (Err e) h = h
