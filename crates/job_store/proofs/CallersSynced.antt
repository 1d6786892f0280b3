-- A caller that hears the others and syncs for them, and what they all were left with before.
use Rattle.std.proofs.Common.{◌≡◌, ◌≢◌, ℕ, ◌+◌, ◌<◌, ◌≤◌, zero, suc, List, [], ◌∷◌, ◌++◌, length, map, set, take, drop, refl, sym, ap, ◌∙◌, subst, arith, length-set}
use Rattle.std.specs.Prelude.{slice_get, All, Some, Ok, Err, IfOk, IfErr, OnOk}
use Rattle.std.specs.declared.result.Result.{Result}
use Rattle.std.proofs.lemmas.List.{append-nil, length-map}
use Rattle.std.proofs.Math.Seq.{take-append_seam}
use Rattle.std.proofs.lemmas.Option.{same_Some, slice_get_within}
use mathlib.Core.Logic.{dite}
use native.Mathlib.Decide.{ℕ_discrete}
use Rattle.mont_base.specs.declared.gate.Fuel.{Fuel}
use Rattle.mont_base.specs.declared.operation.Entry.{Entry}
use Rattle.mont_base.specs.declared.operation.Receipt.{Receipt}
use Rattle.core_steps.proofs.RowFacts.{all_at, item_at, row_in_map, row_of_map}
use Rattle.core_steps.proofs.Rows.{row_here, row_else}
use Rattle.heap_rule.specs.declared.rule.Opening.{Opening}
use Rattle.heap_rule.specs.declared.views.CallerKnown.{CallerKnown}
use Rattle.heap_rule.specs.declared.views.NoteKnown.{NoteKnown}
use Rattle.heap_rule.specs.Views.{caller_heard}
use Rattle.heap_rule.specs.SeenEntries.{AreFronts}
use Rattle.heap_rule.proofs.SeenFronts.{fronts_same, fronts_trans}
use Rattle.heap.specs.HeapShown.{HeapShown, CallerShown}
use Rattle.caller.specs.declared.sync_refusal.SyncRefusal.{SyncRefusal}
use Rattle.caller.specs.Telling.{has_mark, TakesGreater}
use Rattle.caller.specs.Syncing.{KeepsSeen}
use Rattle.caller.proofs.TakenNotes.{or_left}
use Rattle.job_text.specs.declared.job.Job.{Job}
use Rattle.job_text.specs.declared.job.Line.{Line}
use Rattle.job_text.specs.declared.outcome.Outcome.{Outcome}
use Rattle.job_worker.specs.Asking.{KeepsAnswers}
use Rattle.job_worker.specs.Ending.{place_answered}
use Rattle.job_worker.specs.Worked.{HasWorked}
use Rattle.job_worker.proofs.Later.{continues_before, keeps_same, keeps_trans}
use Rattle.job_run.specs.declared.run.Ran.{Ran}
use Rattle.store.specs.Store.{AreAllCallers}
use Rattle.store_stop.proofs.Items.{all_gives}
use Rattle.job_store.specs.SyncedRun.{HasHeardAll, IsSynced, IsSyncedForAll, KeepAnswers, KnowsWhy, FirstKnowsWhy}
use Rattle.job_store.specs.WholeRun.{HaveRun}

-- ---- one caller
-- what its outcomes promised still holds
has_worked : (o : Opening) (MayBeCut : Type 0) (begun : CallerKnown) (q r : CallerShown) (lines : List Line) (os : List Outcome)
    → KeepsAnswers q.known r.known → HasWorked o MayBeCut begun q.known lines os → HasWorked o MayBeCut begun r.known lines os
has_worked o MayBeCut begun q r lines os k w = record {
  answers = λ t c. w.answers t (continues_before o t q.known r.known k.goes_on c);
  receipts = w.receipts ∙ ap (λ (rs : List Receipt). map place_answered rs) (sym k.receipts);
  cuts = k.cuts ∙ w.cuts;
  stops = w.stops;
}

-- a sync keeps its answers, and so does a note of another that is heard
pub answers_synced : (q r : CallerShown) → KeepsSeen q r → KeepsAnswers q.known r.known
answers_synced q r k = record {
  goes_on = record {
    caller = k.caller;
    more = [];
    receipts = k.receipts ∙ sym (append-nil q.known.part.receipts);
    seen = subst (λ (es : List (List Entry)). AreFronts es q.known.entries) (sym k.entries) (fronts_same q.known.entries);
    newest = let same = k.newest in omega (arith, same);
    durable = k.durable;
    marks = k.marks;
  };
  calls = k.calls;
  receipts = k.receipts;
  cuts = k.cuts;
}

pub answers_told : (q r : CallerKnown) → r ≡ q → KeepsAnswers q r
answers_told q r e = subst (KeepsAnswers q) (sym e) (keeps_same q)

pub answers_heard : (q : CallerKnown) (n : NoteKnown) (r : CallerKnown) → r ≡ caller_heard q n → AreFronts r.entries q.entries
    → TakesGreater q.part n.note r.part → KeepsAnswers q r
answers_heard q n r is seen greater = record {
  goes_on = record {
    caller = ap (λ (v : CallerKnown). v.caller) is;
    more = [];
    receipts = ap (λ (v : CallerKnown). v.part.receipts) is ∙ sym (append-nil q.part.receipts);
    seen = seen;
    newest = let now = greater.newest in omega (arith, now);
    durable = let now = greater.durable in omega (arith, now);
    marks = λ m has. greater.marks m (or_left (has_mark q.part.marks m) (has_mark n.note.marks m) has);
  };
  calls = ap (λ (v : CallerKnown). v.part.calls) is;
  receipts = ap (λ (v : CallerKnown). v.part.receipts) is;
  cuts = ap (λ (v : CallerKnown). v.part.cuts) is;
}

-- ---- all callers
pub still_ran : (j : Job) (heap : HeapShown) (olds news : List CallerShown) (outcomes : List (List Outcome)) → KeepAnswers olds news
    → HaveRun j heap olds outcomes → HaveRun j heap news outcomes
still_ran j heap olds news outcomes k ran = record {
  callers_are = k.many ∙ ran.callers_are;
  answered = ran.answered;
  each = λ caller left os e f.
      let below = slice_get_within news caller left e in
      let long = k.many in
      let old = item_at olds caller (omega (arith, below, long)) in
      let run = ran.each caller old.0 os old.1 f in
      record {
        begun = run.begun;
        number = run.number;
        uncut = run.uncut;
        first = run.first;
        last = run.last;
        stops = run.stops;
        worked = has_worked heap.opening _ run.begun old.0 left _ os (k.each caller old.0 left old.1 e) run.worked;
      };
}

pub all_still_ran : {F : Type 0} (j : Job) (heap : HeapShown) (olds news : List CallerShown) → KeepAnswers olds news
    → (ran : Result Ran F) → IfOk ran (λ (r : Ran). HaveRun j heap olds r.outcomes)
    → IfOk ran (λ (r : Ran). HaveRun j heap news r.outcomes)
all_still_ran j heap olds news k (Ok r) all = still_ran j heap olds news r.outcomes k all
all_still_ran j heap olds news k (Err e) all = tt

pub keep_on : (olds mids news : List CallerShown) → KeepAnswers olds mids → KeepAnswers mids news → KeepAnswers olds news
keep_on olds mids news f g = record {
  many = g.many ∙ f.many;
  each = λ k p q e h.
      let below = slice_get_within olds k p e in
      let long = f.many in
      let m = item_at mids k (omega (arith, below, long)) in
      keeps_trans p.known m.0.known q.known (f.each k p m.0 e m.1) (g.each k m.0 q m.1 h);
}

-- a row that another takes the place of, with the same there
pub same_row : {A B : Type 0} (f : A → B) (xs : List A) (i : ℕ) (x y : A) → slice_get xs i ≡ Some x → f y ≡ f x
    → map f (set xs i y) ≡ map f xs
same_row f [] i x y at same = refl
same_row f (z ∷ zs) zero x y at same = λ k. (same ∙ ap f (sym (same_Some z x at))) k ∷ map f zs
same_row f (z ∷ zs) (suc i) x y at same = λ k. f z ∷ same_row f zs i x y at same k

-- ---- passes that keep what they had
-- of passes, what their tickets show, and whether they are whole
module _ {P : Type 0} (ticket : P → CallerShown) (whole : P → Type 0) where
  pub record Keeps (old new : P) : Type 0 where
    pub table : (ticket new).table ≡ (ticket old).table
    pub answers : KeepsAnswers (ticket old).known (ticket new).known
    pub whole_still : whole old → whole new

  pub record AllKeep (olds news : List P) : Type 0 where
    pub many : length news ≡ length olds
    pub each : (k : ℕ) (p q : P) → slice_get olds k ≡ Some p → slice_get news k ≡ Some q → Keeps p q

  pub all_keep : (olds : List P) → AllKeep olds olds
  all_keep olds = record {
    many = refl;
    each = λ k p q e f.
        subst (Keeps p) (same_Some p q (sym e ∙ f))
        (record { table = refl; answers = keeps_same (ticket p).known; whole_still = λ w. w });
  }

  pub keeps_told : (p q : P) → ticket q ≡ ticket p → (whole p → whole q) → Keeps p q
  keeps_told p q same still = record {
    table = ap (λ (s : CallerShown). s.table) same;
    answers = answers_told (ticket p).known (ticket q).known (ap (λ (s : CallerShown). s.known) same);
    whole_still = still;
  }

  pub keeps_heard : (p q : P) (n : NoteKnown) → ticket q ≡ record { table = (ticket p).table; known = caller_heard (ticket p).known n }
      → AreFronts (ticket q).known.entries (ticket p).known.entries → TakesGreater (ticket p).known.part n.note (ticket q).known.part
      → (whole p → whole q) → Keeps p q
  keeps_heard p q n is own greater still = record {
    table = ap (λ (s : CallerShown). s.table) is;
    answers = answers_heard (ticket p).known n (ticket q).known (ap (λ (s : CallerShown). s.known) is) own greater;
    whole_still = still;
  }

  pub keeps_synced : (p q : P) → KeepsSeen (ticket p) (ticket q) → (whole p → whole q) → Keeps p q
  keeps_synced p q seen still = record {
    table = seen.table;
    answers = answers_synced (ticket p) (ticket q) seen;
    whole_still = still;
  }

  keeps_more : (p q r : P) → Keeps p q → Keeps q r → Keeps p r
  keeps_more p q r a b = record {
    table = b.table ∙ a.table;
    answers = keeps_trans (ticket p).known (ticket q).known (ticket r).known a.answers b.answers;
    whole_still = λ w. b.whole_still (a.whole_still w);
  }

  -- one more does
  pub one_keeps : (olds news : List P) (i : ℕ) (p x : P) → AllKeep olds news → slice_get news i ≡ Some p → Keeps p x
      → AllKeep olds (set news i x)
  one_keeps olds news i p x kept at keeps = record {
    many = length-set news i x ∙ kept.many;
    each = λ k o r e f.
        dite (ℕ_discrete k i)
        (λ (is : k ≡ i).
        let now : x ≡ r = same_Some x r (sym (row_here news i x p at) ∙ (ap (slice_get (set news i x)) (sym is) ∙ f)) in
        subst (Keeps o) now (keeps_more o p x (kept.each k o p e (ap (slice_get news) is ∙ at)) keeps))
        (λ (other : k ≢ i). kept.each k o r e (sym (row_else news i k x other) ∙ f));
  }

  module _ (olds news : List P) (kept : AllKeep olds news) where
    before_of : (k : ℕ) (q : P) → slice_get news k ≡ Some q → (p : P) × (slice_get olds k ≡ Some p) × Keeps p q
    before_of k q e =
        let below = slice_get_within news k q e in
        let long = kept.many in
        let p = item_at olds k (omega (arith, below, long)) in
        (p.0, p.1, kept.each k p.0 q p.1 e)

    pub all_answers : KeepAnswers (map ticket olds) (map ticket news)
    all_answers = record {
      many = length-map news ticket ∙ kept.many ∙ sym (length-map olds ticket);
      each = λ k q r e f.
          let p = row_of_map ticket olds k q e in
          let n = row_of_map ticket news k r f in
          subst (λ (y : CallerShown × CallerShown). KeepsAnswers y.0.known y.1.known) (λ z. (p.2 z, n.2 z))
          (kept.each k p.0 n.0 p.1 n.1).answers;
    }

    pub all_whole : All whole olds → All whole news
    all_whole were =
        all_at whole news (λ k q e. let p = before_of k q e in p.2.whole_still (all_gives whole olds k p.0 were p.1))

    pub all_callers : (heap : HeapShown) → AreAllCallers heap (map ticket olds) → AreAllCallers heap (map ticket news)
    all_callers heap were = record {
      many = length-map news ticket ∙ kept.many ∙ sym (length-map olds ticket) ∙ were.many;
      each = λ k r f.
          let n = row_of_map ticket news k r f in
          let p = before_of k n.0 n.1 in
          let was = were.each k (ticket p.0) (row_in_map ticket olds k p.0 p.1) in (
            ap (λ (s : CallerShown). s.table) (sym n.2) ∙ p.2.table ∙ was.0,
            ap (λ (s : CallerShown). s.known.caller) (sym n.2) ∙ p.2.answers.goes_on.caller ∙ was.1,
          );
    }

  -- ---- the first has heard so many
  abbrev pub HeardSoFar : List P → ℕ → Type 0
  HeardSoFar news i =
      (k : ℕ) (f q : P) → k < i → slice_get news 0 ≡ Some f → slice_get news k ≡ Some q
      → AreFronts (ticket f).known.entries (ticket q).known.entries

  pub heard_itself : (news : List P) → HeardSoFar news 1
  heard_itself news k f q low e g =
      let none : k ≡ 0 = omega (arith, low) in
      subst (λ (y : P). AreFronts (ticket f).known.entries (ticket y).known.entries)
      (same_Some f q (sym e ∙ (ap (slice_get news) (sym none) ∙ g))) (fronts_same (ticket f).known.entries)

  -- and one more, which told it
  pub heard_more : (news : List P) (i : ℕ) (first teller told heard : P) → HeardSoFar news i → 1 ≤ i
      → slice_get news 0 ≡ Some first → slice_get news i ≡ Some teller
      → (ticket told).known.entries ≡ (ticket teller).known.entries
      → AreFronts (ticket heard).known.entries (ticket first).known.entries
      → AreFronts (ticket heard).known.entries (ticket teller).known.entries
      → HeardSoFar (set (set news i told) 0 heard) (i + 1)
  heard_more news i first teller told heard before some at_first at same own others k f q low e g =
      subst (λ (y : P). AreFronts (ticket y).known.entries (ticket q).known.entries) (same_Some heard f (sym here ∙ e))
      (dite (ℕ_discrete k 0)
      (λ (is : k ≡ 0).
      subst (λ (y : P). AreFronts (ticket heard).known.entries (ticket y).known.entries)
      (same_Some heard q (sym here ∙ (ap (slice_get (set (set news i told) 0 heard)) (sym is) ∙ g)))
      (fronts_same (ticket heard).known.entries))
      (λ (other : k ≢ 0).
      let behind : slice_get (set news i told) k ≡ Some q = sym (row_else (set news i told) 0 k heard other) ∙ g in
      dite (ℕ_discrete k i)
      (λ (is : k ≡ i).
      subst (λ (y : P). AreFronts (ticket heard).known.entries (ticket y).known.entries)
      (same_Some told q (sym (row_here news i told teller at) ∙ (ap (slice_get (set news i told)) (sym is) ∙ behind)))
      (subst (AreFronts (ticket heard).known.entries) (sym same) others))
      (λ (apart : k ≢ i).
      fronts_trans (ticket heard).known.entries (ticket first).known.entries (ticket q).known.entries own
      (before k first q (omega (arith, low, apart)) at_first (sym (row_else news i k told apart) ∙ behind)))))
    where
      zero_apart : 0 ≢ i
      zero_apart z = absurd (omega (arith, z, some))

      here : slice_get (set (set news i told) 0 heard) 0 ≡ Some heard
      here = row_here (set news i told) 0 heard first (row_else news i 0 told zero_apart ∙ at_first)

  -- so far, where none has lost an answer, nor its gate
  pub record SoFar {G : Type 0} (gate : P → G) (olds news : List P) (i : ℕ) : Type 0 where
    pub kept : AllKeep olds news
    pub gates : map gate news ≡ map gate olds
    pub heard : HeardSoFar news i

  pub none_yet : {G : Type 0} (gate : P → G) (olds : List P) → SoFar gate olds olds 1
  none_yet gate olds = record { kept = all_keep olds; gates = refl; heard = heard_itself olds }

  pub one_more : {G : Type 0} (gate : P → G) (olds news : List P) (i : ℕ) (teller told first heard : P) → SoFar gate olds news i
      → 1 ≤ i → slice_get news i ≡ Some teller → slice_get (set news i told) 0 ≡ Some first
      → Keeps teller told → Keeps first heard → gate told ≡ gate teller → gate heard ≡ gate first
      → (ticket told).known.entries ≡ (ticket teller).known.entries
      → AreFronts (ticket heard).known.entries (ticket first).known.entries
      → AreFronts (ticket heard).known.entries (ticket teller).known.entries
      → SoFar gate olds (set (set news i told) 0 heard) (i + 1)
  one_more gate olds news i teller told first heard far some at at_first tells hears gate_told gate_heard same own others = record {
    kept = one_keeps olds (set news i told) 0 first heard (one_keeps olds news i teller told far.kept at tells) at_first hears;
    gates = same_row gate (set news i told) 0 first heard at_first gate_heard ∙ same_row gate news i teller told at gate_told ∙ far.gates;
    heard = heard_more news i first teller told heard far.heard some
        (sym (row_else news i 0 told (λ z. absurd (omega (arith, z, some)))) ∙ at_first) at same own others;
  }

  pub has_heard_all : (news : List P) (i : ℕ) → length news ≤ i → 1 ≤ length news → HeardSoFar news i → HasHeardAll (map ticket news)
  has_heard_all news i end some far =
      let first = item_at news 0 (omega (arith, some)) in
      record {
        first = ticket first.0;
        there = row_in_map ticket news 0 first.0 first.1;
        seen = all_at (λ (q : CallerShown). AreFronts (ticket first.0).known.entries q.known.entries) (map ticket news)
            (λ k r f.
            let n = row_of_map ticket news k r f in
            let below = slice_get_within news k n.0 n.1 in
            subst (λ (q : CallerShown). AreFronts (ticket first.0).known.entries q.known.entries) n.2
            (far k first.0 n.0 (omega (arith, below, end)) first.1 n.1));
      }

  -- the first has then synced
  pub synced_for_all : (news : List P) (p x : P) → slice_get news 0 ≡ Some p → HasHeardAll (map ticket news)
      → KeepsSeen (ticket p) (ticket x) → IsSynced (ticket x) → IsSyncedForAll (map ticket (set news 0 x))
  synced_for_all news p x at heard keeps synced =
      let is : heard.first ≡ ticket p = same_Some heard.first (ticket p) (sym heard.there ∙ row_in_map ticket news 0 p at) in
      let entries : (ticket x).known.entries ≡ heard.first.known.entries =
      keeps.entries ∙ ap (λ (s : CallerShown). s.known.entries) (sym is) in
      record {
        heard = record {
          first = ticket x;
          there = row_in_map ticket (set news 0 x) 0 x (row_here news 0 x p at);
          seen = all_at (λ (q : CallerShown). AreFronts (ticket x).known.entries q.known.entries) (map ticket (set news 0 x))
              (λ k r f.
              let n = row_of_map ticket (set news 0 x) k r f in
              subst (λ (q : CallerShown). AreFronts (ticket x).known.entries q.known.entries) n.2
              (dite (ℕ_discrete k 0)
              (λ (none : k ≡ 0).
              subst (λ (y : P). AreFronts (ticket x).known.entries (ticket y).known.entries)
              (same_Some x n.0 (sym (row_here news 0 x p at) ∙ (ap (slice_get (set news 0 x)) (sym none) ∙ n.1)))
              (fronts_same (ticket x).known.entries))
              (λ (other : k ≢ 0).
              subst (λ (es : List (List Entry)). AreFronts es (ticket n.0).known.entries) (sym entries)
              (all_gives (λ (q : CallerShown). AreFronts heard.first.known.entries q.known.entries) (map ticket news) k (ticket n.0)
              heard.seen (row_in_map ticket news k n.0 (sym (row_else news 0 k x other) ∙ n.1))))));
        };
        synced = synced;
      }

pub first_knows : {P : Type 0} (ticket : P → CallerShown) (gates : List Fuel) (news : List P) (p x : P) (gate : Fuel) (why : SyncRefusal)
    → slice_get news 0 ≡ Some p → slice_get gates 0 ≡ Some gate → KnowsWhy (ticket x) gate why
    → FirstKnowsWhy (map ticket (set news 0 x)) gates why
first_knows ticket gates news p x gate why at asked knows = record {
  q = ticket x;
  gate = gate;
  there = row_in_map ticket (set news 0 x) 0 x (row_here news 0 x p at);
  asked = asked;
  knows = knows;
}

-- ---- by what a sync answered
pub sync_tells : {P T E : Type 0} (ticket : P → CallerShown) (whole : P → Type 0) (news : List P) (p x : P) (synced : Result T E)
    → slice_get news 0 ≡ Some p → HasHeardAll (map ticket news) → KeepsSeen (ticket p) (ticket x) → OnOk synced (IsSynced (ticket x))
    → OnOk synced (IsSyncedForAll (map ticket (set news 0 x)))
sync_tells ticket whole news p x (Ok u) at heard keeps synced = synced_for_all ticket whole news p x at heard keeps synced
sync_tells ticket whole news p x (Err why) at heard keeps synced = tt

pub refusal_tells : {P T : Type 0} (ticket : P → CallerShown) (gates : List Fuel) (news : List P) (p x : P) (gate : Fuel)
    (synced : Result T SyncRefusal) → slice_get news 0 ≡ Some p → slice_get gates 0 ≡ Some gate
    → IfErr synced (KnowsWhy (ticket x) gate) → IfErr synced (FirstKnowsWhy (map ticket (set news 0 x)) gates)
refusal_tells ticket gates news p x gate (Ok u) at asked knows = tt
refusal_tells ticket gates news p x gate (Err why) at asked knows = first_knows ticket gates news p x gate why at asked knows

-- ---- a vector whose items were changed in place
pub put_back : {A : Type 0} (olds news : List A) (n : ℕ) → n ≡ length news → take n (news ++ drop (length news) olds) ≡ news
put_back olds news n e = ap (λ (m : ℕ). take m (news ++ drop (length news) olds)) e ∙ take-append_seam news (drop (length news) olds)
