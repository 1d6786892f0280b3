-- Each entry that an outcome names stands before the front of its caller.
use Rattle.std.proofs.Common.{◌≡◌, ℕ, ◌+◌, ◌≤◌, true, List, [], length, map, take, drop, refl, sym, ap, ◌∙◌, arith}
use Rattle.std.specs.Prelude.{◌==◌, slice_get, Some}
use Rattle.std.proofs.lemmas.List.{take-append-drop}
use Rattle.std.proofs.lemmas.Option.{slice_get_within}
use Rattle.mont_base.specs.declared.constants.TheConstants.{LAST}
use Rattle.mont_base.specs.declared.operation.Entry.{Entry}
use Rattle.mont_base.specs.declared.record.Held.{Held}
use Rattle.mont_base.specs.Faults.{Rose}
use Rattle.mont_base.specs.Image.{clock_of}
use Rattle.mont_base.specs.Seen.{FitsHistories}
use Rattle.plain.specs.States.{states_of}
use Rattle.core_steps.specs.declared.parts.CallerPart.{CallerPart}
use Rattle.core_steps.specs.CallerClauses.{view_of}
use Rattle.core_steps.proofs.Decisions.{both, eq_true}
use Rattle.core_steps.proofs.RowFacts.{item_at, same_item, row_before, row_in_map}
use Rattle.heap_rule.specs.declared.views.CallerKnown.{CallerKnown}
use Rattle.heap_rule.proofs.SeenFronts.{fronts_same}
use Rattle.heap.specs.HeapShown.{HeapShown, CallerShown}
use Rattle.job_text.specs.declared.job.Deed.{Deed}
use Rattle.job_text.specs.declared.job.Deed.TheVariants.{Call, Tick, Sync}
use Rattle.job_text.specs.declared.job.Job.{Job}
use Rattle.job_text.specs.declared.outcome.Outcome.{Outcome}
use Rattle.job_text.specs.declared.outcome.Outcome.TheVariants.{At, Synced, Ticked, Stuck, ClockEnd, Full, CountEnd, Halted, CutIn, Cut}
use Rattle.job_text.specs.AnsweredLines.{Answers}
use Rattle.job_text.specs.Outcomes.{names_entry}
use Rattle.job_text.specs.Report.{Report, lines_of}
use Rattle.caller.specs.Continued.{opened_records}
use Rattle.job_worker.specs.Continuing.{Continues}
use Rattle.job_worker.specs.Ending.{IsPassed}
use Rattle.store_stop.specs.declared.headline.Stopped.{Stopped}
use Rattle.store_stop.specs.Headline.{HasSeen, parts_shown}
use Rattle.store_stop.proofs.Items.{all_gives}
use Rattle.job_store.specs.WholeRun.{IsEndOf}
use Rattle.job_store.proofs.Marked.{cut_as_marked}

-- an outcome that names an entry
pub named : (unit place : ℕ) (o : Outcome) → names_entry unit place o ≡ true → o ≡ At unit place
named unit place (At u n) e =
    let same = both (u == unit) (n == place) e in
    λ i. At (eq_true u unit same.0 i) (eq_true n place same.1 i)
named unit place (Synced epoch) e = absurd (cc)
named unit place (Ticked epoch) e = absurd (cc)
named unit place (Stuck u epoch) e = absurd (cc)
named unit place ClockEnd e = absurd (cc)
named unit place (Full need free clock) e = absurd (cc)
named unit place (CountEnd which) e = absurd (cc)
named unit place (Halted u by) e = absurd (cc)
named unit place (CutIn u) e = absurd (cc)
named unit place Cut e = absurd (cc)

-- of a report that has, of each unit, the entries that a caller has seen
passed_by : (t : Report) (q : CallerKnown) (MayBeCut : Type 0) (records : List (List Held)) (caller : ℕ)
    (before after : List Outcome) (deed : Deed) (unit place : ℕ)
    → Answers (record t { histories = q.entries }) MayBeCut records caller before after deed (At unit place) → IsPassed q unit place
passed_by t q MayBeCut records caller before after (Call op) unit place a =
    let e = a.there in record { front = e.0; seen = e.1; below = slice_get_within e.0 place a.entry e.2 }
passed_by t q MayBeCut records caller before after Tick unit place a = absurd a
passed_by t q MayBeCut records caller before after Sync unit place a = absurd a

module _ (j : Job) (heap : HeapShown) (callers : List CallerShown) (outcomes : List (List Outcome)) (t : Stopped)
    (end : IsEndOf j heap callers outcomes t) where
  -- a report of all that one caller has seen, and of no more
  abbrev seen_alone : CallerKnown → Report
  seen_alone q = record {
    layout = heap.opening.layout;
    callers = j.callers;
    base_clock = clock_of heap.opening.words;
    base = states_of t.base;
    histories = q.entries;
    runs = [];
    outcomes = outcomes;
    image_clock = LAST;
    contents = [];
  }

  module _ (k : ℕ) (left : CallerShown) (there : slice_get callers k ≡ Some left) where
    part_there : slice_get (parts_shown callers) k ≡ Some left.known.part
    part_there = row_in_map (λ (s : CallerShown). s.known.part) callers k left there

    pub durable_reached : left.known.part.durable ≤ clock_of t.words.dur
    durable_reached =
        all_gives (λ (q : CallerPart). q.durable ≤ clock_of t.words.dur) (parts_shown callers) k left.known.part
        end.stopped.clocks.learnt part_there

    continued : Continues heap.opening (seen_alone left.known) left.known
    continued = record {
      layout = refl;
      base_clock = refl;
      base = end.opened.recovered;
      seen = fronts_same left.known.entries;
      durable =
          let learnt = durable_reached in
          let now = end.stopped.clocks.behind in
          let last = end.stopped.clocks.last in
          omega (arith, learnt, now, last);
      last = omega arith;
      marks = cut_as_marked j heap callers outcomes t end (seen_alone left.known) refl k left there;
    }

    -- what it names it has seen
    was_seen : (os : List Outcome) → slice_get outcomes k ≡ Some os → (i unit place : ℕ) → slice_get os i ≡ Some (At unit place)
        → IsPassed left.known unit place
    was_seen os e i unit place at =
        let run = end.ran.each k left os there e in
        let answers = run.worked.answers (seen_alone left.known) continued in
        let below = slice_get_within os i (At unit place) at in
        let few = answers.few in
        let line = item_at (lines_of j k) i (omega (arith, below, few)) in
        passed_by (seen_alone left.known) left.known (Rose run.first run.last) (opened_records heap.opening) run.begun.caller
        (take i os) (drop (i + 1) os) line.0.deed unit place (answers.each i line.0 (At unit place) line.1 at)

    -- so its entry is among those before the front
    pub before_front : (os : List Outcome) → slice_get outcomes k ≡ Some os → (i unit place : ℕ) → slice_get os i ≡ Some (At unit place)
        → (h : List Entry) → slice_get t.histories unit ≡ Some h
        → (n : ℕ) × (slice_get left.known.part.fronts unit ≡ Some n)
        × ((e : Entry) → slice_get h place ≡ Some e → slice_get (take n h) place ≡ Some e)
    before_front os e i unit place at h is =
        let p = was_seen os e i unit place at in
        let has = all_gives (λ (s : CallerShown). HasSeen t.histories s.known) callers k left end.stopped.seen there in
        let fits = all_gives (FitsHistories t.histories) (map view_of (parts_shown callers)) k (view_of left.known.part)
        end.stopped.order.fit (row_in_map view_of (parts_shown callers) k left.known.part part_there) in
        let below = slice_get_within left.known.entries unit p.front p.seen in
        let long = has.units in
        let units = fits.units in
        let n = item_at left.known.part.fronts unit (omega (arith, below, long, units)) in
        let same : p.front ≡ take n.0 h = same_item left.known.entries unit p.front (take n.0 h) p.seen (has.each unit n.0 h n.1 is) in
        let entry = item_at (take n.0 h) place (let inside = p.below in let l = ap length same in omega (arith, inside, l)) in (
          n.0,
          n.1,
          λ d found.
              let whole : slice_get h place ≡ Some entry.0 =
              ap (λ (v : List Entry). slice_get v place) (sym (take-append-drop n.0 h))
              ∙ row_before (take n.0 h) (drop n.0 h) place entry.0 entry.1 in
              entry.1 ∙ ap Some (same_item h place entry.0 d whole found),
        )
