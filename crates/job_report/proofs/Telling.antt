-- A job's report tells of each caller what the caller had seen, and so finds its lines answered.
use Rattle.std.proofs.Common.{◌≡◌, ℕ, zero, suc, ◌-◌, ◌≤◌, true, List, [], ◌∷◌, ◌++◌, length, map, take, drop, refl, sym, ap, ◌∙◌, subst, arith}
use Rattle.std.specs.Prelude.{◌==◌, slice_get, count_by, All, Option, Some, None}
use Rattle.std.specs.List.{Contains}
use Rattle.std.proofs.lemmas.List.{length-map, take-append-drop}
use Rattle.std.proofs.lemmas.List.Folds.{Any-from_list_any}
use Rattle.std.proofs.lemmas.List.Elements.{All-get_or}
use Rattle.std.proofs.lemmas.Option.{same_Some, slice_get_within}
use Rattle.mont_base.specs.declared.constants.TheConstants.{LAST}
use Rattle.mont_base.specs.declared.operation.Entry.{Entry}
use Rattle.mont_base.specs.declared.operation.Receipt.{Receipt}
use Rattle.mont_base.specs.Faults.{Rose}
use Rattle.mont_base.specs.History.{IsLegal, state_after, cut_at}
use Rattle.mont_base.specs.Image.{clock_of, cut_of}
use Rattle.mont_base.specs.Layout.{Shape, units_of}
use Rattle.mont_base.specs.Seen.{FitsHistories, names_place}
use Rattle.mont_base.specs.State.{State, Run}
use Rattle.plain.specs.States.{states_of}
use Rattle.core_steps.specs.declared.parts.CallerPart.{CallerPart}
use Rattle.core_steps.specs.declared.parts.Mark.{Mark}
use Rattle.core_steps.specs.CallerClauses.{receipts_of, view_of}
use Rattle.core_steps.specs.Notes.{same_caller, same_mark}
use Rattle.core_steps.proofs.Decisions.{both, eq_true}
use Rattle.core_steps.proofs.RowFacts.{item_at, same_item, row_gives, row_of_map, row_in_map}
use Rattle.heap_rule.specs.declared.rule.Opening.{Opening}
use Rattle.heap.specs.HeapShown.{CallerShown}
use Rattle.caller.specs.Telling.{has_mark}
use Rattle.job_text.specs.declared.job.Job.{Job}
use Rattle.job_text.specs.declared.outcome.Outcome.{Outcome}
use Rattle.job_text.specs.AnsweredLines.{AnswersLines}
use Rattle.job_text.specs.Causes.{WasCutIn}
use Rattle.job_text.specs.Faithful.{HasStop, IsFaithful, LegalAt, RunsAt, CutAt, AnsweredAt, AllNamedAt}
use Rattle.job_text.specs.Outcomes.{names_entry}
use Rattle.job_text.specs.Report.{Report, lines_of}
use Rattle.caller.specs.Continued.{opened_records}
use Rattle.heap_rule.specs.SeenEntries.{StandsFirst}
use Rattle.job_worker.specs.Continuing.{Continues}
use Rattle.job_worker.specs.Continuing as continuing
use Rattle.job_worker.specs.Ending.{units_cut}
use Rattle.store_stop.specs.declared.headline.Stopped.{Stopped}
use Rattle.store_stop.specs.Headline.{HasSeen, IsCutAsMarked, parts_shown, cut_states}
use Rattle.store_stop.proofs.Items.{all_gives}
use Rattle.job_report.specs.FoundRuns.{AreRuns}
use Rattle.job_report.specs.Reported.{WasRun}
use Rattle.job_report.proofs.Answering.{lines_for}
use Rattle.job_report.proofs.Naming.{named_alike, sums_alike, cut_named}
use Rattle.job_report.proofs.RunLaws.{all_short}

-- ---- marks
same_by : (a b : Option ℕ) → same_caller a b ≡ true → a ≡ b
same_by None None e = refl
same_by None (Some k) e = absurd (cc)
same_by (Some j) None e = absurd (cc)
same_by (Some j) (Some k) e = ap Some (eq_true j k e)

is_same_mark : (m n : Mark) → same_mark m n ≡ true → m ≡ n
is_same_mark m n e =
    let parts = both (m.unit == n.unit) (same_caller m.by n.by) e in
    let unit = eq_true m.unit n.unit parts.0 in
    let by = same_by m.by n.by parts.1 in
    λ i. record { unit = unit i; by = by i }

-- what holds of all marks holds of one that is among them
marked : (P : Mark → Type 0) (marks : List Mark) (m : Mark) → All P marks → has_mark marks m ≡ true → P m
marked P marks m all has =
    let found = Any-from_list_any (same_mark m) marks has in
    let n = found.1 in
    subst P (sym (is_same_mark m n found.4))
    (subst P found.3 (All-get_or P marks found.0 n found.2 all))

-- ---- contents
cut_state_of : (x : ℕ) (base : List State) (histories : List (List Entry)) (unit : ℕ) (state : State) (h : List Entry)
    → slice_get base unit ≡ Some state → slice_get histories unit ≡ Some h
    → slice_get (cut_states x base histories) unit ≡ Some (state_after state (cut_at x h))
cut_state_of x [] histories unit state h e f = absurd (cc)
cut_state_of x (b ∷ base) [] unit state h e f = absurd (cc)
cut_state_of x (b ∷ base) (g ∷ histories) zero state h e f =
    λ i. Some (state_after (same_Some b state e i) (cut_at x (same_Some g h f i)))
cut_state_of x (b ∷ base) (g ∷ histories) (suc unit) state h e f = cut_state_of x base histories unit state h e f

module _ (j : Job) (o : Opening) (callers : List CallerShown) (outcomes : List (List Outcome)) (t : Stopped) (image : List ℕ)
    (image_clock : ℕ) (contents : List State) (w : WasRun j o callers outcomes t image image_clock contents)
    (own : List (List Run)) (are_runs : AreRuns (states_of t.base) t.histories own) where
  abbrev told : Report
  told = record {
    layout = j.layout;
    callers = j.callers;
    base_clock = t.base_clock;
    base = states_of t.base;
    histories = t.histories;
    runs = own;
    outcomes = outcomes;
    image_clock = image_clock;
    contents = contents;
  }

  abbrev parts : List CallerPart
  parts = parts_shown callers

  part_at : (k : ℕ) (left : CallerShown) → slice_get callers k ≡ Some left → slice_get parts k ≡ Some left.known.part
  part_at k left e = row_in_map (λ (s : CallerShown). s.known.part) callers k left e

  outcomes_at : (k : ℕ) (left : CallerShown) → slice_get callers k ≡ Some left
      → (xs : List Outcome) × (slice_get outcomes k ≡ Some xs)
  outcomes_at k left e =
      let below = slice_get_within callers k left e in
      let many = w.callers_are in
      let same = w.answered in
      item_at outcomes k (omega (arith, below, many, same))

  caller_at : (k : ℕ) (xs : List Outcome) → slice_get outcomes k ≡ Some xs
      → (left : CallerShown) × (slice_get callers k ≡ Some left)
  caller_at k xs e =
      let below = slice_get_within outcomes k xs e in
      let many = w.callers_are in
      let same = w.answered in
      item_at callers k (omega (arith, below, many, same))

  -- ---- clocks
  before : clock_of t.words.dur ≤ image_clock
  before = let e = w.clock in let h = (w.stopped.images image w.permitted).not_before in omega (arith, e, h)

  last : image_clock ≤ LAST
  last =
      let e = w.clock in
      let h = (w.stopped.images image w.permitted).not_behind in
      let l = w.stopped.clocks.last in
      omega (arith, e, h, l)

  begun : t.base_clock ≤ image_clock
  begun = let h = w.stopped.clocks.begun in let d = before in omega (arith, h, d)

  learnt : (k : ℕ) (left : CallerShown) → slice_get callers k ≡ Some left → left.known.part.durable ≤ image_clock
  learnt k left e =
      let h = all_gives (λ (q : CallerPart). q.durable ≤ clock_of t.words.dur) parts k left.known.part
      w.stopped.clocks.learnt (part_at k left e) in
      let d = before in
      omega (arith, h, d)

  -- ---- entries
  seen : (k : ℕ) (left : CallerShown) → slice_get callers k ≡ Some left
      → (unit : ℕ) (front : List Entry) → slice_get left.known.entries unit ≡ Some front → StandsFirst t.histories unit front
  seen k left e unit front there =
      let has = all_gives (λ (s : CallerShown). HasSeen t.histories s.known) callers k left w.stopped.seen e in
      let fits = all_gives (FitsHistories t.histories) (map view_of parts) k (view_of left.known.part) w.stopped.order.fit
      (row_in_map view_of parts k left.known.part (part_at k left e)) in
      let below = slice_get_within left.known.entries unit front there in
      let long = has.units in
      let h = item_at t.histories unit (omega (arith, below, long)) in
      let units = fits.units in
      let n = item_at left.known.part.fronts unit (omega (arith, below, long, units)) in
      let is = same_item left.known.entries unit front (take n.0 h.0) there (has.each unit n.0 h.0 n.1 h.1) in
      record {
        whole = h.0;
        there = h.1;
        begins = (drop n.0 h.0, sym (take-append-drop n.0 h.0) ∙ ap (λ (v : List Entry). v ++ drop n.0 h.0) (sym is));
      }

  -- ---- cuts
  was_cut : (by unit : ℕ) (q : CallerPart) → slice_get parts by ≡ Some q → Contains q.cuts unit → WasCutIn told by unit
  was_cut by unit q is cut =
      let left = row_of_map (λ (s : CallerShown). s.known.part) callers by q is in
      let xs = outcomes_at by left.0 left.1 in
      let run = w.each by left.0 xs.0 left.1 xs.1 in
      let cuts : q.cuts ≡ units_cut xs.0 =
      ap (λ (p : CallerPart). p.cuts) (sym left.2) ∙ run.worked.cuts ∙ ap (λ (us : List ℕ). us ++ units_cut xs.0) run.uncut in
      (xs.0, xs.1, cut_named xs.0 unit (subst (λ (us : List ℕ). Contains us unit) cuts cut))

  marked_truly : (m : Mark) → IsCutAsMarked parts m → continuing.IsCutAsMarked told m
  marked_truly m c =
      let row = row_gives (λ (q : CallerPart). Contains q.cuts m.unit) (slice_get parts c.by) c.cut in
      record { by = c.by; named = c.named; cut = was_cut c.by m.unit row.0 row.1 row.2 }

  marks : (k : ℕ) (left : CallerShown) → slice_get callers k ≡ Some left
      → (m : Mark) → has_mark left.known.part.marks m ≡ true → continuing.IsCutAsMarked told m
  marks k left e m has =
      let all = all_gives (λ (q : CallerPart). All (IsCutAsMarked parts) q.marks) parts k left.known.part w.stopped.marks
      (part_at k left e) in
      marked_truly m (marked (IsCutAsMarked parts) left.known.part.marks m all has)

  -- ---- the report goes on from what each caller has seen
  continues : (k : ℕ) (left : CallerShown) → slice_get callers k ≡ Some left → Continues o told left.known
  continues k left e = record {
    layout = sym w.layout;
    base_clock = w.opened.clock_is;
    base = w.opened.recovered;
    seen = seen k left e;
    durable = learnt k left e;
    last = last;
    marks = marks k left e;
  }

  -- ---- the parts of a faithful report
  legal : (unit : ℕ) → LegalAt j.layout t.base_clock (states_of t.base) t.histories unit
  legal unit state h e f =
      subst (λ (s : Shape). IsLegal s unit state t.base_clock h) w.layout (w.stopped.legal.each unit state h e f)

  runs : (unit : ℕ) → RunsAt told (states_of t.base) unit
  runs unit state h e f =
      are_runs.each unit state h e f (all_short j.layout unit h (legal unit state h e f).of_unit)

  answers : (k : ℕ) → AnsweredAt j (opened_records o) told k
  answers k xs e =
      let left = caller_at k xs e in
      let run = w.each k left.0 xs left.1 e in
      lines_for told (Rose run.first run.last) (HasStop j k) run.stops (opened_records o) k (lines_of j k) xs
      (subst (λ (n : ℕ). AnswersLines told (Rose run.first run.last) (opened_records o) n (lines_of j k) xs) run.number
      (run.worked.answers told (continues k left.0 left.1)))

  named_by : (unit place k : ℕ) (xs : List Outcome) (rs : List Receipt) → slice_get outcomes k ≡ Some xs
      → slice_get (map receipts_of parts) k ≡ Some rs
      → count_by (names_entry unit place) xs ≡ count_by (names_place unit place) rs
  named_by unit place k xs rs e f =
      let left = caller_at k xs e in
      let run = w.each k left.0 xs left.1 e in
      let is = same_item (map receipts_of parts) k left.0.known.part.receipts rs
      (row_in_map receipts_of parts k left.0.known.part (part_at k left.0 left.1)) f in
      named_alike unit place xs rs (run.worked.receipts ∙ ap (map _) is)

  named_once : (unit : ℕ) → AllNamedAt told unit
  named_once unit place entry there =
      let long : length outcomes ≡ length (map receipts_of parts) =
      w.answered ∙ sym w.callers_are ∙ sym (length-map callers (λ (s : CallerShown). s.known.part)) ∙ sym (length-map parts receipts_of) in
      sums_alike (λ (xs : List Outcome). count_by (names_entry unit place) xs)
      (λ (rs : List Receipt). count_by (names_place unit place) rs) outcomes (map receipts_of parts) long (named_by unit place)
      ∙ w.stopped.order.named_once unit place entry there

  cut : (unit : ℕ) → CutAt told (states_of t.base) unit
  cut unit state h e f =
      let is = ((w.stopped.images image w.permitted).rebuilt contents).0 w.recovered in
      let here = cut_state_of (cut_of image) (states_of t.base) t.histories unit state h e f in
      ap (λ (ss : List State). slice_get ss unit) is ∙ here
      ∙ ap (λ (n : ℕ). Some (state_after state (cut_at (n - 2) h))) (sym w.clock)

  pub faithful : IsFaithful j t.base_clock (states_of t.base) (opened_records o) told
  faithful = record {
    frame = record {
      job = record { layout = refl; callers = refl };
      clocks = record { base_clock = refl; begun = begun; last = last };
      whole = record {
        base = w.stopped.legal.based ∙ ap units_of w.layout;
        histories = w.stopped.legal.units ∙ ap units_of w.layout;
        runs = are_runs.units ∙ w.stopped.legal.units ∙ ap units_of w.layout;
        outcomes = w.answered;
        contents = w.recovered.0 ∙ ap units_of w.layout;
      };
    };
    base_states = refl;
    legal = legal;
    runs = runs;
    answers = answers;
    named_once = named_once;
    cut = cut;
  }
