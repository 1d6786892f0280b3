-- A job that was run on a store that was then stopped, and the report of it.
use Rattle.std.proofs.Common.{◌≡◌, ◌≢◌, ℕ, ◌<◌, ◌^◌, Bool, false, List, [], ◌++◌, length, map, inl, inr, refl, sym, ap, ◌∙◌, subst, arith}
use Rattle.std.specs.Prelude.{All, Option, Some, None, IsSome, Ok, Err, IfOk, OnOk, slice_get}
use Rattle.std.specs.declared.result.Result.{Result}
use Rattle.std.proofs.lemmas.List.{length-map}
use Rattle.std.proofs.lemmas.Option.{slice_get_within}
use Rattle.mont_base.specs.declared.gate.Fuel.{Fuel}
use Rattle.mont_base.specs.Gates.{is_endless}
use Rattle.mont_base.specs.Image.{IsPermitted, IsRecovered, IsWellFormed, clock_of}
use Rattle.mont_base.specs.Layout.{Shape, IsLayout, words_of}
use Rattle.mont_base.specs.State.{State, unit_of_op}
use Rattle.plain.specs.States.{states_of}
use Rattle.core_steps.specs.Places.{EachAt}
use Rattle.core_steps.proofs.RowFacts.{all_at, item_at, row_in_map, row_of_map}
use Rattle.heap_rule.specs.declared.rule.Opening.{Opening}
use Rattle.heap.specs.GateAsked.{IsAskedOften}
use Rattle.heap.specs.HeapShown.{HeapShown, CallerShown}
use Rattle.job_text.specs.declared.job.Deed.{Deed}
use Rattle.job_text.specs.declared.job.Deed.TheVariants.{Call, Tick, Sync}
use Rattle.job_text.specs.declared.job.Job.{Job}
use Rattle.job_text.specs.declared.job.Line.{Line}
use Rattle.job_text.specs.declared.outcome.Outcome.{Outcome}
use Rattle.job_text.specs.Faithful.{IsFaithful}
use Rattle.job_text.specs.Grammar.{head_of, IsJob, IsLine, HasUnit}
use Rattle.job_text.specs.declared.report.Report as declared
use Rattle.job_text.specs.PlainReport.{report_of}
use Rattle.job_text.specs.Report.{Report}
use Rattle.caller.specs.Continued.{opened_records}
use Rattle.job_worker.specs.Ending.{MayBeAsked}
use Rattle.job_run.specs.declared.run.Ran.{Ran}
use Rattle.job_run.specs.Run.{AreWorked}
use Rattle.job_worker.specs.Ending.{units_cut}
use Rattle.job_report.specs.Reported.{HasRun, WasRun, report_made}
use Rattle.mont_image.specs.declared.image_text.Version.TheVariants.{Third}
use Rattle.mont_image.specs.declared.stored_image.Image.{Image}
use Rattle.mont_image.specs.ImageReader.{parts_of}
use Rattle.mont_image.specs.ImageText.{IsTextOf, image_text}
use Rattle.mont_image.specs.Picking.{HasClock}
use Rattle.mont_image.specs.StoredImage.{IsImage}
use Rattle.image_units.specs.declared.recovery_refusal.RecoverRefusal.{RecoverRefusal}
use Rattle.image_units.specs.declared.recovery_refusal.RecoverRefusal.TheVariants.{Memory}
use Rattle.image_units.specs.FirstRefusal.{IsFirstRefusal}
use Rattle.recover.proofs.StoppedImages.{stopped_stores_are_recovered}
use Rattle.store.specs.Store.{AreAllCallers}
use Rattle.store_stop.specs.declared.headline.Stopped.{Stopped}
use Rattle.store_stop.specs.Headline.{IsBaseOf, IsStopped}
use Rattle.store_stop.proofs.Items.{all_gives}
use Rattle.job_store.specs.Base.{Base, IsBaseIn}
use Rattle.job_store.specs.JobGates.{AreGates, KeepsEnd}
use Rattle.job_store.specs.WholeRun.{HasEnded, HaveRun, IsEndOf, IsPickOf, IsRun, IsRunFrom, IsTicketOf, TellsEnd}
use Rattle.job_store.proofs.CarriedOut.{carried_out}
use Rattle.job_store.proofs.Passes.{each_has_run}

-- ---- lines
some_if_not_none : {A : Type 0} (x : Option A) → x ≢ None → IsSome x
some_if_not_none None n = absurd (n refl)
some_if_not_none (Some a) n = refl

asked : (s : Shape) (deed : Deed) → HasUnit s deed → MayBeAsked s deed
asked s (Call op) h = some_if_not_none (unit_of_op s op) h
asked s Tick h = tt
asked s Sync h = tt

pub all_asked : (j : Job) → IsJob j → (s : Shape) → s ≡ j.layout → All (λ (l : Line). MayBeAsked s l.deed) j.lines
all_asked j is s same =
    subst (λ (t : Shape). All (λ (l : Line). MayBeAsked t l.deed) j.lines) (sym same)
    (all_at (λ (l : Line). MayBeAsked j.layout l.deed) j.lines
    (λ i l e. asked j.layout l.deed (all_gives (IsLine (head_of j)) j.lines i l is.lines e).unit))

-- ---- after the threads
module _ {P : Type 0} (j : Job) (heap : HeapShown) (has : P → Type 0) (ticket : P → CallerShown) (gate : P → Fuel) (olds news : List P)
    (callers : AreAllCallers heap (map ticket olds))
    (uncut : (k : ℕ) (p : P) → slice_get olds k ≡ Some p → (ticket p).known.part.cuts ≡ [])
    (gates : AreGates j.stops j.callers (map gate olds)) where
  abbrev Worked : List (Option (List Outcome)) → Type 0
  Worked done =
      AreWorked heap.opening has (λ (p : P). (ticket p).known) (λ (p : P). (gate p).cuts) (λ (p : P). is_endless (gate p)) j olds news done

  many_olds : length olds ≡ j.callers
  many_olds = sym (length-map olds gate) ∙ gates.many

  have_run : (outcomes : List (List Outcome)) → Worked (map Some outcomes) → HaveRun j heap (map ticket news) outcomes
  have_run outcomes worked = record {
    callers_are = length-map news ticket ∙ worked.passes ∙ many_olds;
    answered = sym (length-map outcomes Some) ∙ worked.callers ∙ many_olds;
    each = each_has_run heap has ticket gate olds callers uncut j news outcomes worked gates;
  }

  -- a gate is endless still if it was
  keep_end : (outcomes : List (List Outcome)) → Worked (map Some outcomes) → EachAt (KeepsEnd j.stops) (map gate news)
  keep_end outcomes worked i g e =
      let at = row_of_map gate news i g e in
      let below = slice_get_within news i at.0 at.1 in
      let long = worked.passes in
      let old = item_at olds i (omega (arith, below, long)) in
      let many = worked.callers in
      let os = item_at (map Some outcomes) i (omega (arith, below, long, many)) in
      let was = worked.each i old.0 at.0 os.0 old.1 at.1 os.1 in
      ap is_endless (sym at.2) ∙ was.gate.same ∙ ap is_endless (gates.each i (gate old.0) (row_in_map gate olds i old.0 old.1))

  pub all_ran : {F : Type 0} (ran : Result Ran F) → IfOk ran (λ (r : Ran). Worked (map Some r.outcomes))
      → IfOk ran (λ (r : Ran). HaveRun j heap (map ticket news) r.outcomes)
  all_ran (Ok r) worked = have_run r.outcomes worked
  all_ran (Err e) worked = tt

  pub all_keep_end : {F : Type 0} (ran : Result Ran F) → IfOk ran (λ (r : Ran). Worked (map Some r.outcomes))
      → OnOk ran (EachAt (KeepsEnd j.stops) (map gate news))
  all_keep_end (Ok r) worked = keep_end r.outcomes worked
  all_keep_end (Err e) worked = tt

-- ---- after the stop
module _ (j : Job) (heap : HeapShown) (layout : heap.opening.layout ≡ j.layout) (callers : List CallerShown) {F : Type 0}
    (ran : Result Ran F) (stopped : Result Stopped F) (all : IfOk ran (λ (r : Ran). HaveRun j heap callers r.outcomes))
    (base : IfOk stopped (λ (t : Stopped). IsBaseOf heap.opening t.base_clock (states_of t.base)))
    (stops : IfOk stopped (λ (t : Stopped). IsStopped heap.opening.layout t.base_clock t.base callers t)) where
  -- what both gave
  pub is_end : (outcomes : List (List Outcome)) (t : Stopped)
      → ((cut : Bool) × (ran ≡ Ok (record { outcomes = outcomes; advancer_cut = cut }))) × (stopped ≡ Ok t)
      → IsEndOf j heap callers outcomes t
  is_end outcomes t is = record {
    layout = layout;
    opened = subst (λ (r : Result Stopped F). IfOk r (λ (t : Stopped). IsBaseOf heap.opening t.base_clock (states_of t.base))) is.1 base;
    ran = subst (λ (r : Result Ran F). IfOk r (λ (x : Ran). HaveRun j heap callers x.outcomes)) is.0.1 all;
    stopped = subst (λ (r : Result Stopped F). IfOk r (λ (t : Stopped). IsStopped heap.opening.layout t.base_clock t.base callers t))
        is.1 stops;
  }

  pub has_ended : {X E : Type 0} (outcomes : X → List (List Outcome)) (store : X → Stopped) (result : Result X E)
      → IfOk result (λ (x : X). ((cut : Bool) × (ran ≡ Ok (record { outcomes = outcomes x; advancer_cut = cut })))
      × (stopped ≡ Ok (store x)))
      → IfOk result (λ (x : X). HasEnded j heap (outcomes x) (store x))
  has_ended outcomes store (Ok x) is = record { callers = callers; end = is_end (outcomes x) (store x) is }
  has_ended outcomes store (Err e) is = tt

-- ---- the image
-- with what the store opened
abbrev pub base_of : Opening → Stopped → Base
base_of o t = record { clock = t.base_clock; states = states_of t.base; records = opened_records o }

module _ (j : Job) (heap : HeapShown) (outcomes : List (List Outcome)) (t : Stopped) (ended : HasEnded j heap outcomes t) where
  -- the current words are an image that a crash permits, and so are the durable ones
  all_current : IsPermitted t.words.cur t.words.dur t.words.cur
  all_current = record { as_long = refl; each = λ w low. inl refl }

  all_durable : IsPermitted t.words.cur t.words.dur t.words.dur
  all_durable = record {
    as_long = ended.end.stopped.words.durable ∙ sym ended.end.stopped.words.current;
    each = λ w low. inr refl;
  }

  clock_in : (image : List ℕ) → IsPermitted t.words.cur t.words.dur image → HasClock image
  clock_in image permitted =
      let is = (ended.end.stopped.images image permitted).accepted in
      record { begun = is.clock_begun; last = is.clock_last }

  pub current_clock : HasClock t.words.cur
  current_clock = clock_in t.words.cur all_current

  pub durable_clock : HasClock t.words.dur
  durable_clock = clock_in t.words.dur all_durable

  pub current_size : length t.words.cur ≡ words_of t.words.layout
  current_size = ended.end.stopped.words.current ∙ ap words_of (sym ended.end.stopped.layout)

  pub durable_size : length t.words.dur ≡ words_of t.words.layout
  durable_size = ended.end.stopped.words.durable ∙ ap words_of (sym ended.end.stopped.layout)

  pub same_layout : t.words.layout ≡ j.layout
  same_layout = ended.end.stopped.layout ∙ ended.end.layout

  -- ---- the tickets
  has_ticket : (caller : ℕ) (q : CallerShown) (os : List Outcome) → HasRun j heap.opening caller q.known os → IsTicketOf os q.known.part
  has_ticket caller q os ran = record {
    named = ran.worked.receipts;
    cuts = ran.worked.cuts ∙ ap (λ (x : List ℕ). x ++ units_cut os) ran.uncut;
  }

  -- ---- the base
  pub opened_with : IsBaseIn j.layout heap.opening.words (base_of heap.opening t)
  opened_with = subst (λ (s : Shape). IsBaseIn s heap.opening.words (base_of heap.opening t)) ended.end.layout
      (record { clock = ended.end.opened.clock_is; recovered = ended.end.opened.recovered; records = refl })

  module _ (image : List ℕ) (pick : IsPickOf j t image) where
    pub accepted : IsWellFormed j.layout image
    accepted = subst (λ (s : Shape). IsWellFormed s image) ended.end.layout (ended.end.stopped.images image pick.permitted).accepted

    -- recovery refuses it for want of memory alone
    pub only_memory : (why : RecoverRefusal) → IsFirstRefusal j.layout image why → why ≡ Memory
    only_memory why first =
        stopped_stores_are_recovered heap.opening.layout t.base_clock t.base ended.callers t image ended.end.stopped pick.permitted why
        (subst (λ (s : Shape). IsFirstRefusal s image why) (sym ended.end.layout) first)

    -- ---- the report
    module _ (contents : List State) (rebuilt : IsRecovered j.layout image contents) (r : Report)
        (made : r ≡ report_made j t r.runs outcomes (clock_of image) contents)
        (faithful : (o : Opening) (callers : List CallerShown) (picked : List ℕ)
        → WasRun j o callers outcomes t picked (clock_of image) contents
        → IsFaithful j t.base_clock (states_of t.base) (opened_records o) r) where
      was_run : WasRun j heap.opening ended.callers outcomes t image (clock_of image) contents
      was_run = record {
        layout = ended.end.layout;
        opened = ended.end.opened;
        callers_are = ended.end.ran.callers_are;
        answered = ended.end.ran.answered;
        each = ended.end.ran.each;
        stopped = ended.end.stopped;
        permitted = pick.permitted;
        clock = refl;
        recovered = subst (λ (s : Shape). IsRecovered s image contents) (sym ended.end.layout) rebuilt;
      }

      is_faithful : IsFaithful j t.base_clock (states_of t.base) (opened_records heap.opening) r
      is_faithful = faithful heap.opening ended.callers image was_run

      pub is_run : IsRun j (base_of heap.opening t) r image
      is_run = record {
        faithful = is_faithful;
        of_store = record {
          heap = heap;
          opened = opened_with;
          base = t.base;
          base_is = refl;
          callers = ended.callers;
          callers_are = ended.end.ran.callers_are;
          tickets = λ caller q os e f.
              has_ticket caller q os (ended.end.ran.each caller q os e
              (subst (λ (x : List (List Outcome)). slice_get x caller ≡ Some os) (ap (λ (x : Report). x.outcomes) made) f));
          store = t;
          stopped = subst (λ (s : Shape). IsStopped s t.base_clock t.base ended.callers t) ended.end.layout ended.end.stopped;
          histories = ap (λ (x : Report). x.histories) made;
          pick = pick;
          clock = ap (λ (x : Report). x.image_clock) made;
          rebuilt = subst (λ (x : Report). IsRecovered j.layout image x.contents) (sym made) rebuilt;
        };
        unstopped = λ none. carried_out j _ _ _ r is_faithful none;
      }

-- ---- its text
pub has_text : (s : Shape) (image : Image) → image.layout ≡ s → image.old ≡ false → IsWellFormed s image.words
    → All (λ (w : ℕ). w < 2 ^ 64) image.words → IsTextOf (image_text s image.words) (parts_of image)
has_text s image layout new well numbers = record {
  version = Third;
  layout = subst IsLayout (sym layout) well.layout;
  image = subst (λ (x : Shape × Bool). IsImage x.0 image.words x.1) (λ i. (sym layout i, sym new i))
      (record { size = well.size; clock_begun = well.clock_begun; clock_last = well.clock_last; kinds = λ old. absurd (cc) });
  in_range = numbers;
  old = new;
  kinds = tt;
  spelled = ap (λ (t : Shape). image_text t image.words) (sym layout);
}

-- ---- the report and the image together
module _ (j : Job) (heap : HeapShown) (outcomes : List (List Outcome)) (t : Stopped) (ended : HasEnded j heap outcomes t) (image : Image)
    (layout : image.layout ≡ j.layout) (new : image.old ≡ false) (pick : IsPickOf j t image.words)
    (numbers : All (λ (w : ℕ). w < 2 ^ 64) image.words) where
  pub made_run : (clock : ℕ) → clock ≡ clock_of image.words → (contents : List State) → IsRecovered j.layout image.words contents
      → (report : declared.Report) → report_of report ≡ report_made j t report.runs outcomes clock contents
      → ((o : Opening) (callers : List CallerShown) (picked : List ℕ) → WasRun j o callers outcomes t picked clock contents
      → IsFaithful j t.base_clock (states_of t.base) (opened_records o) (report_of report))
      → IsRunFrom j heap.opening.words (record { report = report; image = image })
  made_run clock is contents rebuilt report made faithful = record {
    base = base_of heap.opening t;
    opened = opened_with j heap outcomes t ended;
    run = record {
      run = is_run j heap outcomes t ended image.words pick contents rebuilt (report_of report)
          (subst (λ (x : ℕ). report_of report ≡ report_made j t report.runs outcomes x contents) is made)
          (subst (λ (x : ℕ). (o : Opening) (callers : List CallerShown) (picked : List ℕ)
          → WasRun j o callers outcomes t picked x contents
          → IsFaithful j t.base_clock (states_of t.base) (opened_records o) (report_of report)) is faithful);
      left = record {
        layout = layout;
        new = new;
        text = has_text j.layout image layout new (accepted j heap outcomes t ended image.words pick) numbers;
      };
    };
  }

  pub tells_end : (clock : ℕ) → clock ≡ clock_of image.words → (contents : List State) → IsRecovered j.layout image.words contents
      → (report : declared.Report) → report_of report ≡ report_made j t report.runs outcomes clock contents
      → TellsEnd j outcomes t (record { report = report; image = image })
  tells_end clock is contents rebuilt report made = record {
    outcomes_are = ap (λ (x : Report). x.outcomes) made;
    base = ap (λ (x : Report). x.base) made;
    histories = ap (λ (x : Report). x.histories) made;
    pick = pick;
    clock = ap (λ (x : Report). x.image_clock) made ∙ is;
    rebuilt = subst (IsRecovered j.layout image.words) (sym (ap (λ (x : Report). x.contents) made)) rebuilt;
  }
